use Rattle.reading.specs.Inner.{Left}
use Rattle.mailbox.specs.Rule.{mailbox}
use Rattle.mailbox_read.specs.Cursor.{shift_of}
use Rattle.utf7_whole.proofs.names.measure.Given as goal

abbrev pub invariant-loop-at : goal.invariant-loop-at
invariant-loop-at l =
    Left mailbox l.text l.at (shift_of l.st) l.n
