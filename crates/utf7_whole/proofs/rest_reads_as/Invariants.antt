use Rattle.reading.proofs.Matches.{Matching}
use Rattle.utf7.specs.Rule.{utf7}
use Rattle.utf7_read.specs.Cursor.{shift_of}
use Rattle.utf7_whole.proofs.rest_reads_as.Given as goal

abbrev pub invariant-loop-at : goal.invariant-loop-at
invariant-loop-at l =
    Matching utf7 l.text l.cells l.at (shift_of l.st) l.n
