use Rattle.std.proofs.Common.{◌≡◌, ◌-◌, ◌≤◌}
use Rattle.std.proofs.Math.Seq.{slice}
use Rattle.bench_records.specs.Passing.{begun}
use Rattle.bench_records.specs.Turning.{Bounded, pass_in}
use Rattle.bench_records.proofs.pass_over.Given as goal

abbrev pub invariant-loop-at : goal.invariant-loop-at
invariant-loop-at l =
    (l.at ≤ l.used) × Bounded l.room l.at l.p
    × (pass_in l.room l.standing l.mine 0 (begun l.opening l.used) (slice 0 l.used l.history)
    ≡ pass_in l.room l.standing l.mine l.at l.p (slice l.at l.used l.history))

abbrev pub decreases-loop-at : goal.decreases-loop-at
decreases-loop-at l = l.used - l.at
