use Rattle.utf7_read.specs.Cursor.{shift_of}
use Rattle.utf7_whole.specs.Quick.{Filled}
use Rattle.utf7_whole.proofs.decode.Given as goal

abbrev pub invariant-loop-at : goal.invariant-loop-at
invariant-loop-at l =
    Filled l.text l.at (shift_of l.st) l.n l.out
