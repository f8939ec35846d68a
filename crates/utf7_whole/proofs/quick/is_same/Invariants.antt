use Rattle.std.proofs.Common.{◌≡◌, take, drop}
use Rattle.reading.specs.Matching.{same_cells}
use Rattle.utf7_whole.proofs.quick.is_same.Given as goal

abbrev pub invariant-loop-k : goal.invariant-loop-k
invariant-loop-k l =
    l.same ≡ same_cells (take l.k l.cells) (take l.k (drop l.from l.list))
