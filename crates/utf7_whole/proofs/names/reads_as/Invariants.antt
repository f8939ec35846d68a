use Rattle.reading.proofs.Matches.{Matching}
use Rattle.mailbox.specs.Rule.{mailbox}
use Rattle.mailbox_read.specs.Cursor.{shift_of}
use Rattle.utf7_whole.proofs.names.reads_as.Given as goal

abbrev pub invariant-loop-at : goal.invariant-loop-at
invariant-loop-at l =
    Matching mailbox l.text l.cells l.at (shift_of l.st) l.n
