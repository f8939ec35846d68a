-- Before `to` the pass is done, and from `at` on the history is as it came.
use Rattle.std.proofs.Common.{◌-◌}
use Rattle.bench_calls.proofs.Closing.{Going}
use Rattle.bench_calls.proofs.gap.close_gap.Given as goal

abbrev pub invariant-loop-at : goal.invariant-loop-at
invariant-loop-at l = Going l.mine l.from l.used l.fn.history l.history l.at l.to

abbrev pub decreases-loop-at : goal.decreases-loop-at
decreases-loop-at l = l.used - l.at
