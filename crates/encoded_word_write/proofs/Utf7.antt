-- Writing units as UTF-7 where there is room is accepted. Assumes nothing.
use Prim.Native.Nat.{ℕ, ◌≤◌}
use mathlib.Core.Path.{◌≡◌, ap, ◌∙◌}
use mathlib.Core.List.{List}
use native.Mathlib.Omega.{arith}
use lib.ListN.{length}
use borrow.Author.Tests.{le-ltb}
use Rattle.std.specs.declared.result.Result.TheVariants.{Ok, Err}
use Rattle.answer.specs.declared.Refused.{Refused}
use Rattle.answer.specs.Answer.{limit, numbered, Answer}
use Rattle.answer.specs.Lists.{Each}
use Rattle.answer.specs.Output.{Outcome, leaves, filled, deliver}
use Rattle.answer.specs.declared.Refusal.{Refusal}
use Rattle.answer.proofs.Once.{number-pos}
use Rattle.utf7.specs.Writing.{IsUnit, writing, write_into}
use Rattle.utf7.specs.declared.Style.TheVariants.{Header}
use Rattle.utf7.proofs.Pieces.{over_none}

module _ (us text o : List ℕ) (units : Each IsUnit us) (few : length us ≤ limit) (room : length (writing Header us) ≤ length text) (a : Answer)
    (h : leaves a o ≡ write_into Header us text) where
  fills :
      leaves a o ≡ record { verdict = numbered 0 (length (writing Header us)); out = filled (writing Header us) text }
  unfolding write_into deliver
  fills =
      h ∙ rw (le-ltb limit (length us) few, over_none us units, le-ltb (length us) (length us) (omega arith), le-ltb (length text) (length (writing Header us)) room)

  pub as-accepted : {n : ℕ} → a ≡ Ok n → (n ≡ length (writing Header us)) × (o ≡ filled (writing Header us) text)
  as-accepted e = (ap (λ (x : Outcome). x.verdict.place) (rw e at fills), ap (λ (x : Outcome). x.out) fills)

  pub not-refused : {X : Type 0} {deny : Refused} → a ≡ Err deny → X
  not-refused {deny = deny} e =
      absurd (omega (arith, number-pos deny.0, ap (λ (x : Outcome). x.verdict.number) (rw e at fills)))
