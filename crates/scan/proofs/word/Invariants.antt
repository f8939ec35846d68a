use Rattle.scan.proofs.Words.{Stands}
use Rattle.scan.proofs.word.Given as goal

abbrev pub invariant-loop-i : goal.invariant-loop-i
invariant-loop-i l = Stands l.bytes l.s l.from l.i l.at
