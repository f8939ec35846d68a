-- Two bytes put, one after the other. Assumes nothing.
use Prim.Native.Nat.{ℕ, ◌+◌, ◌<◌}
use mathlib.Core.Path.{◌≡◌}
use mathlib.Core.List.{List, ◌∷◌}
use native.Mathlib.Omega.{arith}
use lib.ListN.{length, set, length-set}
use Rattle.answer.proofs.Put.{Put, put-lt, put_next}

pub record Two (text out₀ out : List ℕ) (at x y : ℕ) (todo : List ℕ) : Type 0 where
  pub room : at + 1 < length out
  pub put : Put text out₀ (set (set out at x) (at + 1) y) (at + 2) todo

pub put_two : {text out₀ out todo : List ℕ} {at x y : ℕ} → Put text out₀ out at (x ∷ y ∷ todo) → Two text out₀ out at x y todo
put_two {at = at} p =
    let e : at + 1 + 1 ≡ at + 2 = omega arith in
    record { room = rw length-set at (put-lt (put_next p)); put = rw e at (put_next (put_next p)) }
