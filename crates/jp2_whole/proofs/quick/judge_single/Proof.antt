use Prim.Native.Nat.{◌+◌, ◌-◌, ◌≤◌}
use native.Mathlib.Omega.{arith}
use lib.ListN.{length}
use Rattle.reading.proofs.Laws.{Left}
use Rattle.reading.proofs.Strides.{left-stride}
use Rattle.jp2.specs.Rule.{plain, state, jp2}
use Rattle.jp2_whole.proofs.Tokens.{single-stride, stretch-stride, stretch-bounds, cells-length}
use Rattle.jp2_whole.proofs.quick.judge_single.Statement.{statement}
use Rattle.jp2_whole.proofs.quick.judge_single.Tie as tie

cleared-requires : tie.Need-cleared-g2-requires
cleared-requires c κs = c.requires.0.1

one :
    (c : tie.After-cleared-g2) →
    let f = c.args.from in
    Left jp2 c.args.text.now (f.at + 1) (state f.g0 c.cleared-g2.result plain) (f.n + 1)
one c =
    let p = c.requires in
    rw c.cleared-g2.ensures (left-stride (single-stride _ _ _ _ p.0.1 p.1.0 p.1.1) p.0.0)

add-stretch-end : tie.Need-overflow_add-at
add-stretch-end c = omega (arith, (one c).within, c.well_formed)

stretch-end-requires : tie.Need-stretch_end-end-requires
stretch-end-requires c κs = ((one c).within, omega arith)

ends :
    (c : tie.After-stretch_end-end) →
    (c.args.from.at + 1 ≤ c.stretch_end-end.result) × (c.stretch_end-end.result ≤ length c.args.text.now)
ends c = stretch-bounds (one c.before).within c.stretch_end-end.ensures

-- a stretch behind it
stretch :
    (c : tie.After-stretch_end-end) →
    let f = c.args.from in
    Left jp2 c.args.text.now c.stretch_end-end.result (state f.g0 c.cleared-g2.result plain)
    (f.n + 1 + (c.stretch_end-end.result - (f.at + 1)))
stretch c =
    rw (cells-length _ _ _ (ends c).1) at (left-stride (stretch-stride (one c.before).within c.stretch_end-end.ensures) (one c.before))

add-t7 : tie.Need-overflow_add-result
add-t7 c = omega (arith, (one c.before.before).few, (one c.before.before).within, c.well_formed)

add-t8 : tie.Need-overflow_add-result-2
add-t8 c = omega (arith, (one c.before.before).within, c.well_formed)

sub-t9 : tie.Need-overflow_sub-result
sub-t9 c = (ends c.before).0

add-t10 : tie.Need-overflow_add-result-3
add-t10 c = let s = stretch c.before in omega (arith, s.few, s.within, c.well_formed)

returns : tie.Need-returns
returns c = stretch c.before

pub judge_single_spec : {M : Type 1} → statement M
judge_single_spec =
    tie.close
    (tie.spec
    cleared-requires
    add-stretch-end
    stretch-end-requires
    add-t7
    add-t8
    sub-t9
    add-t10
    returns)
