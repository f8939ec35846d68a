use Rattle.reading.specs.Inner.{Left}
use Rattle.utf7.specs.Rule.{utf7}
use Rattle.utf7_read.specs.Cursor.{shift_of}
use Rattle.utf7_whole.proofs.judge.Given as goal

abbrev pub invariant-loop-at : goal.invariant-loop-at
invariant-loop-at l =
    Left utf7 l.text l.at (shift_of l.st) l.n
