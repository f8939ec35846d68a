use Rattle.std.proofs.Common.{take, drop}
use Rattle.answer.specs.Inner.{Put}
use Rattle.utf7_whole.proofs.copy.Given as goal

abbrev pub invariant-loop-k : goal.invariant-loop-k
invariant-loop-k l = Put (take l.n l.cells) l.initial.out l.out l.k (drop l.k (take l.n l.cells))
