use Rattle.std.proofs.Common.{take}
use Rattle.answer.specs.Inner.{Laid}
use Rattle.utf7_whole.proofs.quick.lay.Given as goal

abbrev pub invariant-loop-k : goal.invariant-loop-k
invariant-loop-k l =
    Laid (take l.k l.y) l.n l.initial.out l.out
