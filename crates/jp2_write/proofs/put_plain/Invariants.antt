use Rattle.std.proofs.Common.{drop}
use Rattle.std.specs.Prelude.{map}
use Rattle.answer.specs.Inner.{Put}
use Rattle.jp2_write.specs.Pieces.{low_byte}
use Rattle.jp2_write.proofs.put_plain.Given as goal

abbrev pub invariant-loop-k : goal.invariant-loop-k
invariant-loop-k l = Put (map low_byte l.cells) l.initial.out l.out l.k (map low_byte (drop l.k l.cells))
