use Rattle.std.proofs.Common.{◌≤◌, length, arith}
use Rattle.utf7.proofs.Over.{over-end, over-here, over-more}
use Rattle.utf7.proofs.first_over_from.Goals as goal

pub loop-i-init : goal.loop-i-init
loop-i-init c = c.requires.1

pub returns-then-cells-i-gt65535 : goal.returns-then-cells-i-gt65535
returns-then-cells-i-gt65535 c =
    omega (arith, c.loop-i.invariant, over-here c.args.cells.now c.loop-i.i c.loop-i-test.true (omega (arith, c.if-cells-i-gt65535.true)))

pub loop-i-preserved : goal.loop-i-preserved
loop-i-preserved c =
    omega (arith, c.loop-i.invariant, over-more c.args.cells.now c.loop-i.i c.loop-i-test.true (omega (arith, c.if-cells-i-gt65535.false)))

pub returns : goal.returns
returns c =
    let last : c.loop-i.i ≤ length c.args.cells.now = c.loop-i.auto.i-end c.requires.0 in
    omega (arith, c.loop-i.invariant, over-end c.args.cells.now c.loop-i.i c.loop-i-test.false)
