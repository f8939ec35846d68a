use Rattle.std.proofs.Common.{◌≡◌, true}
use Rattle.comparer.proofs.Judging.{Equal}
use Rattle.comparer.proofs.alike.Given as goal

abbrev pub invariant-loop-k : goal.invariant-loop-k
invariant-loop-k l = l.same ≡ true → Equal l.first l.second l.k
