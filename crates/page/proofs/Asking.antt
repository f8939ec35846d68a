-- What the question gives. Assumes nothing.
use Prim.Native.Nat.{ℕ}
use mathlib.Core.Path.{◌≡◌, refl}
use mathlib.Core.Bool.{false}
use Rattle.std.specs.Prelude.{Err}
use Rattle.answer.specs.Answer.{numbered, in_numbers, Answer}
use Rattle.editor.specs.Marks.{unchanged_at}
use Rattle.editor.specs.Layout.{ask_on, reply_of}
use Rattle.ledger.specs.Page.{State}
use Rattle.ledger.specs.Calls.{unchanged_of}
use Rattle.ledger.specs.Layout.{editor_for, page}
use Rattle.answer.specs.declared.Refused.{Refused}
use Rattle.records.specs.Walking.{judge_of}
use Rattle.records.proofs.Found.{Fit, unfit}

module _ (s : State) where
  pub asked-unfit :
      {j : Answer} {a : Refused} → j ≡ judge_of s → j ≡ Err a →
      unchanged_of s ≡ record { verdict = in_numbers (Err a); unchanged = false }
  unfolding reply_of
  asked-unfit d e =
      unfit s _ (λ v. record { verdict = v; unchanged = false }) (λ x. ask_on page s (editor_for s x)) refl d e

  pub asked-fit :
      {last : ℕ} → Fit s last →
      unchanged_of s ≡ record { verdict = numbered 0 0; unchanged = unchanged_at s.page.done s.page.saved }
  unfolding reply_of
  asked-fit f = rw (f.short, f.found)
