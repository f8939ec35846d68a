use Rattle.jp2_whole.specs.Quick.{Same}
use Rattle.jp2_whole.proofs.quick.is_same.Given as goal

abbrev pub invariant-loop-k : goal.invariant-loop-k
invariant-loop-k l = Same l.buf l.cells l.from l.k
