use native.Mathlib.Nat.{mod-eq_of_lt}
use borrow.Author.Tests.{lt-ltb, le-ltb}
use Rattle.alphabet.specs.Letters.{set_b}
use Rattle.utf7.specs.Spans.{span_in}
use Rattle.utf7.proofs.Units.{unit-letters}
use Rattle.utf7_read.specs.Cursor.{Settled}
use Rattle.utf7_read.specs.declared.State.TheVariants.{Run}
use Rattle.utf7_read.proofs.StateDecoder.width.Goals as goal

pub returns-then-value_of-lt64 : goal.returns-then-value_of-lt64
unfolding span_in set_b
returns-then-value_of-lt64 c =
    let h : Settled (Run c.in-Run.n c.in-Run.field-1) = c.in-Run.ensures.0 in
    λ at. rw (← c.in-Run.ensures.1) (simp (mod-eq_of_lt h.0, ← c.value_of.ensures, lt-ltb _ _ c.if-value_of-lt64.true) (unit-letters _ _ _ at h.0))

pub returns-in-Outside : goal.returns-in-Outside
unfolding span_in
returns-in-Outside c = λ at. rw (← c.in-Outside.ensures.1)

pub returns-in-Opening : goal.returns-in-Opening
unfolding span_in
returns-in-Opening c = λ at. rw (← c.in-Opening.ensures.1)

pub returns-else-value_of-lt64 : goal.returns-else-value_of-lt64
unfolding span_in set_b
returns-else-value_of-lt64 c = λ at. rw (← c.in-Run.ensures.1) (simp (← c.value_of.ensures, le-ltb _ _ c.if-value_of-lt64.false))
