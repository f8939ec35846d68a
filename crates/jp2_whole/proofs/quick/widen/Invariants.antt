use Rattle.std.proofs.Common.{take}
use Rattle.answer.specs.Inner.{Laid}
use Rattle.jp2_whole.proofs.Tokens.{cells_of}
use Rattle.jp2_whole.proofs.quick.widen.Given as goal

abbrev pub invariant-loop-k : goal.invariant-loop-k
invariant-loop-k l = Laid (take l.k (cells_of l.text l.from l.to)) l.n l.initial.out l.out
