use Rattle.mailbox_read.specs.Cursor.{shift_of}
use Rattle.mailbox.specs.Rule.{mailbox}
use Rattle.utf7_whole.specs.Quick.{FilledBy}
use Rattle.utf7_whole.proofs.names.decode.Given as goal

abbrev pub invariant-loop-at : goal.invariant-loop-at
invariant-loop-at l =
    FilledBy mailbox l.text l.at (shift_of l.st) l.n l.out
