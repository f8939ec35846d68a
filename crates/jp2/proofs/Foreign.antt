-- The first cell that is not writable, and lists that have none. Assumes nothing.
use Prim.Native.Nat.{ℕ, suc, ◌≤◌}
use mathlib.Core.Path.{◌≡◌, refl, ap}
use mathlib.Core.Bool.{not}
use mathlib.Core.List.{List, [], ◌∷◌}
use native.Mathlib.Omega.{arith}
use lib.ListN.{length}
use borrow.Author.Tests.{not-false}
use Rattle.answer.specs.Lists.{Each}
use Rattle.answer.proofs.Below.{cond-case}
use Rattle.jp2.specs.Table.{first_where}
use Rattle.jp2.specs.Writable.{writable, first_foreign}
use Rattle.jp2.proofs.Sets.{Writable}

pub foreign-none : (cells : List ℕ) → Each Writable cells → first_foreign cells ≡ length cells
unfolding first_foreign first_where
foreign-none [] h = refl
foreign-none (v ∷ vs) h = rw h.0 (ap suc (foreign-none vs h.1))

pub all-writable : (cells : List ℕ) → length cells ≤ first_foreign cells → Each Writable cells
unfolding first_foreign first_where
all-writable [] = λ h. tt
all-writable (v ∷ vs) =
    cond-case (λ k. suc (length vs) ≤ k → Each Writable (v ∷ vs)) (not (writable v)) (λ _ h. absurd (omega arith))
    (λ e h. (not-false (writable v) e, all-writable vs (omega arith)))
