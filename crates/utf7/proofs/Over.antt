-- The index of the first cell that is no unit, from a place on. Assumes nothing.
use Prim.Native.Nat.{ℕ, zero, suc, ◌+◌, ◌^◌, ◌<◌, ◌≤◌}
use mathlib.Core.Path.{◌≡◌, ◌∙◌}
use mathlib.Core.List.{List}
use native.Mathlib.Omega.{arith}
use native.Mathlib.Numerals.{add-one}
use native.Mathlib.Nat.{add-zero}
use lib.ListN.{length, get_or, drop, drop_of_length-le}
use lib.Seq.{drop-cons}
use lib.Bits.{bit_or, or_add_and, and_le_l, and_le_r}
use borrow.Author.Tests.{lt-ltb, le-ltb}
use Rattle.utf7.specs.Writing.{IsUnit, first_over}
use Rattle.answer.specs.Ahead.{Ahead}
use Rattle.answer.proofs.Ahead.{ahead_more, ahead-next}

-- what stands at a place, or that nothing does
module _ (us : List ℕ) (i : ℕ) where
  pub over-end : length us ≤ i → first_over (drop i us) ≡ 0
  unfolding first_over
  over-end h = rw (drop_of_length-le us h)

  pub over-here : i < length us → 65535 < get_or us i 0 → first_over (drop i us) ≡ 0
  unfolding first_over
  over-here h k = rw (drop-cons us i 0 h, le-ltb (get_or us i 0) 65536 k)

  pub over-more : i < length us → IsUnit (get_or us i 0) → first_over (drop i us) ≡ suc (first_over (drop (i + 1) us))
  unfolding first_over
  over-more h k = rw (drop-cons us i 0 h, add-one, lt-ltb (get_or us i 0) 65536 k)

-- units joined by their bits
pub joined-more :
    (us : List ℕ) (i k all : ℕ) → (all < 2 ^ 16 → Ahead IsUnit us i k) → bit_or all (get_or us (i + k) 0) < 2 ^ 16 → Ahead IsUnit us i (k + 1)
joined-more us i k all a h =
    let u = get_or us (i + k) 0 in
    ahead_more IsUnit us i k (a (omega (arith, or_add_and all u, and_le_r all u))) (omega (arith, or_add_and all u, and_le_l all u))

-- a block of units
pub over-block : (us : List ℕ) (n i : ℕ) → i + n ≤ length us → Ahead IsUnit us i n → first_over (drop i us) ≡ n + first_over (drop (i + n) us)
over-block us zero i h a = rw (add-zero i) (omega arith)
over-block us (suc n) i h a =
    let e : i + 1 + n ≡ i + suc n = omega arith in
    over-more us i (omega arith) (rw (add-zero i) at (a 0 (omega arith)))
    ∙ rw (over-block us n (i + 1) (omega arith) (ahead-next IsUnit us i n a), e) (omega arith)
