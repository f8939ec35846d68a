use Rattle.reading.specs.Inner.{Left}
use Rattle.jp2.specs.Rule.{jp2}
use Rattle.jp2_read.specs.Cursor.{state_of}
use Rattle.jp2_whole.proofs.measure.Given as goal

abbrev pub invariant-loop-at : goal.invariant-loop-at
invariant-loop-at l = Left jp2 l.text l.at (state_of l.st) l.n
