use native.Mathlib.Omega.{arith}
use Rattle.jp2_whole.proofs.quick.reach.Statement.{statement}
use Rattle.jp2_whole.proofs.quick.reach.Tie as tie

sub-if1 : tie.Need-overflow_sub-size
sub-if1 c = c.requires

returns : tie.Need-returns-then-size-at
returns c = (c.requires, (omega arith, c.if-size-at.true))

add-result : tie.Need-overflow_add-result
add-result c = omega (arith, c.if-size-at.false, c.requires, c.ranges.size.fits)

returns-2 : tie.Need-returns
returns-2 c = (omega arith, (omega (arith, c.if-size-at.false, c.requires), omega arith))

pub reach_spec : {M : Type 1} → statement M
reach_spec =
    tie.close
    (tie.spec
    sub-if1
    returns
    add-result
    returns-2)
