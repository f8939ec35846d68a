use Rattle.jp2_read.specs.Cursor.{state_of}
use Rattle.jp2_whole.specs.Quick.{Filled}
use Rattle.jp2_whole.proofs.decode.Given as goal

abbrev pub invariant-loop-at : goal.invariant-loop-at
invariant-loop-at l = Filled l.text l.at (state_of l.st) l.n l.out
