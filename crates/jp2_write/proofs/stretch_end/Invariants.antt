use Rattle.jp2_write.specs.Pieces.{Stretch}
use Rattle.jp2_write.proofs.stretch_end.Given as goal

abbrev pub invariant-loop-i : goal.invariant-loop-i
invariant-loop-i l = Stretch l.cells l.g0 l.from l.i
