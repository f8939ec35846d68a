-- Bytes that must stand there, compared one after another; and a byte's value as a digit. Assumes nothing.
use Prim.Native.Nat.{ℕ, ◌+◌, ◌-◌, ◌<◌, ◌≤◌}
use mathlib.Core.Path.{◌≡◌, refl}
use mathlib.Core.Bool.{Bool, true, false, cond, ◌&&◌}
use mathlib.Core.List.{List, ◌∷◌}
use native.Mathlib.Omega.{arith}
use native.Mathlib.Numerals.{add-one}
use lib.ListN.{length, get_or, drop, drop_of_length-le}
use lib.Seq.{drop-cons}
use lib.Dec.{ltb, leb, eqb}
use borrow.Author.Tests.{ltb-true, ltb-false, eqb-true, eqb-false, eq-eqb, ne_eqb}
use Rattle.answer.specs.Ahead.{Ahead}
use Rattle.answer.proofs.Below.{both, all_below, below}
use Rattle.parsing.specs.Parsing.{found, failed, literal}
use Rattle.parsing.specs.Digits.{value_of}
use Rattle.scan.specs.Inner.{IsDigit}

-- a byte at a place, and what is behind it
pub here : (s : List ℕ) (at : ℕ) → at < length s → drop at s ≡ get_or s at 0 ∷ drop (at + 1) s
here s at h = rw add-one (drop-cons s at 0 h)

-- the first i bytes stand there, and the place behind them is `at`
pub record Stands (bytes s : List ℕ) (from i at : ℕ) : Type 0 where
  pub upto : i ≤ length bytes
  pub so : literal (drop i bytes) (drop at s) at ≡ literal bytes (drop from s) from

module _ {bytes s : List ℕ} {from i at : ℕ} (h : Stands bytes s from i at) where
  pub stands-end : length bytes ≤ i → found tt (drop at s) at ≡ literal bytes (drop from s) from
  unfolding literal
  stands-end q = rw (drop_of_length-le bytes q) at h.so

  module _ (more : i < length bytes) where
    pub stands-short : length s ≤ at → failed at ≡ literal bytes (drop from s) from
    unfolding literal
    stands-short q = rw (here bytes i more, drop_of_length-le s q) at h.so

    pub stands-other : at < length s → (get_or s at 0 ≡ get_or bytes i 0 → ⊥) → failed at ≡ literal bytes (drop from s) from
    unfolding literal
    stands-other l q = rw (here bytes i more, here s at l, ne_eqb (get_or s at 0) (get_or bytes i 0) q) at h.so

    pub stands-next : at < length s → get_or s at 0 ≡ get_or bytes i 0 → Stands bytes s from (i + 1) (at + 1)
    unfolding literal
    stands-next l q =
        record {
          upto = omega arith;
          so = rw (here bytes i more, here s at l, eq-eqb (get_or s at 0) (get_or bytes i 0) q) at h.so;
        }

-- the value of a byte, by two ranges
abbrev ranged : ℕ → ℕ
ranged b = cond (leb 65 b && leb b 70) (b - 65 + 10) (cond (leb 48 b && leb b 57) (b - 48 + 0) 16)

pub value-ranged : (b : ℕ) → b < 256 → ranged b ≡ value_of b
unfolding all_below value_of
value-ranged b h = eqb-true (ranged b) (value_of b) (below (λ k. eqb (ranged k) (value_of k)) 256 refl b h)

-- digits one after another
pub digits-none : (s : List ℕ) (at : ℕ) → Ahead IsDigit s at 0
digits-none s at m h = absurd (omega arith)

pub digits-next : (s : List ℕ) (at n : ℕ) → Ahead IsDigit s at n → IsDigit (get_or s (at + n) 0) → Ahead IsDigit s at
    (n + 1)
digits-next s at n f d m h = go (eqb m n) refl
  where
    go : (t : Bool) → eqb m n ≡ t → IsDigit (get_or s (at + m) 0)
    go true e = rw (eqb-true m n e) d
    go false e = f m (omega (arith, eqb-false m n e))

pub digits_more :
    (s : List ℕ) (at n : ℕ) {all : Bool} {v : ℕ} → (all ≡ true → Ahead IsDigit s at n) → v ≡ value_of
    (get_or s (at + n) 0) →
    (all && ltb v 16) ≡ true → Ahead IsDigit s at (n + 1)
digits_more s at n {all} {v} f e t =
    let q = both all (ltb v 16) t in
    digits-next s at n (f q.0) (omega (arith, ltb-true v 16 q.1))

pub digits-block : (s : List ℕ) (from at n : ℕ) → from ≤ at → Ahead IsDigit s from (at - from) → Ahead IsDigit s at n →
    Ahead IsDigit s from (at + n - from)
digits-block s from at n h f g m l = go (ltb m (at - from)) refl
  where
    go : (t : Bool) → ltb m (at - from) ≡ t → IsDigit (get_or s (from + m) 0)
    go true e = f m (ltb-true m (at - from) e)
    go false e =
        let q = ltb-false m (at - from) e in
        let p : at + (from + m - at) ≡ from + m = omega arith in
        rw p at (g (from + m - at) (omega arith))
