use Rattle.std.proofs.Common.{◌≡◌, ◌≤◌}
use Rattle.std.specs.Prelude.{cond}
use Rattle.scan.proofs.Numbers.{Reads}
use Rattle.scan.proofs.decimal.Given as goal

abbrev pub invariant-loop-k : goal.invariant-loop-k
invariant-loop-k l =
    Reads (cond l.long 7 5) (cond l.long 1048576 65536) l.s l.from l.at l.v l.k × (l.most ≡ cond l.long 1048576 65536)
    × (cond l.long 1048576 65536 ≤ 1048576) × (cond l.long 7 5 ≤ 7)
