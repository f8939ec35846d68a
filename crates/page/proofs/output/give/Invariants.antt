use Rattle.std.proofs.Common.{drop}
use Rattle.answer.specs.Inner.{Put}
use Rattle.page.proofs.output.give.Given as goal

abbrev pub invariant-loop-i : goal.invariant-loop-i
invariant-loop-i l = Put l.bytes l.initial.out l.out l.i (drop l.i l.bytes)
