use Rattle.std.proofs.Common.{◌≤◌}
use Rattle.comparer.proofs.blocks.count_ends.Given as goal

abbrev pub invariant-loop-k : goal.invariant-loop-k
invariant-loop-k l = l.n ≤ l.k
