use Rattle.jp2_write.specs.Pieces.{Run}
use Rattle.jp2_write.proofs.survey_ready.Given as goal

abbrev pub invariant-loop-i : goal.invariant-loop-i
invariant-loop-i l = Run l.cells l.g0 l.g2 l.from l.i l.count
