use Rattle.reading.proofs.Matches.{Matching}
use Rattle.jp2.specs.Rule.{jp2}
use Rattle.jp2_read.specs.Cursor.{state_of}
use Rattle.jp2_whole.proofs.reads_as.Given as goal

abbrev pub invariant-loop-at : goal.invariant-loop-at
invariant-loop-at l = Matching jp2 l.text l.cells l.at (state_of l.st) l.n
