use native.Mathlib.Nat.{mod-eq_of_lt}
use Rattle.utf7.proofs.Units.{unit-letters}
use Rattle.mailbox.specs.Spans.{span_in}
use Rattle.mailbox_read.specs.Cursor.{Settled}
use Rattle.mailbox_read.specs.declared.State.TheVariants.{Run}
use Rattle.mailbox_read.proofs.StateDecoder.width.Goals as goal

pub returns-in-Outside : goal.returns-in-Outside
unfolding span_in
returns-in-Outside c = λ at. rw (← c.in-Outside.ensures.1)

pub returns-in-Opening : goal.returns-in-Opening
unfolding span_in
returns-in-Opening c = λ at. rw (← c.in-Opening.ensures.1)

pub returns-in-Run : goal.returns-in-Run
unfolding span_in
returns-in-Run c =
    let h : Settled (Run c.in-Run.n c.in-Run.field-1) = c.in-Run.ensures.0 in
    λ at. rw (← c.in-Run.ensures.1, mod-eq_of_lt h.0) (unit-letters _ _ _ at h.0)
