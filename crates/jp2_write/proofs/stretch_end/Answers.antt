use Rattle.std.proofs.Common.{◌≡◌, length, arith}
use Rattle.jp2_write.proofs.Cells.{stretch-none, stretch-more}
use Rattle.jp2_write.proofs.stretch_end.Goals as goal

pub returns-then-g0-ne6 : goal.returns-then-g0-ne6
returns-then-g0-ne6 c = stretch-none c.requires

pub returns-then-g2-ne0 : goal.returns-then-g2-ne0
returns-then-g2-ne0 c = stretch-none c.requires

pub loop-i-init : goal.loop-i-init
loop-i-init c = stretch-none c.requires

pub returns-then-cells-i-lt-FIRST_PLAIN : goal.returns-then-cells-i-lt-FIRST_PLAIN
returns-then-cells-i-lt-FIRST_PLAIN c = c.loop-i.invariant

pub returns-then-cells-i-gt-LAST_PLAIN : goal.returns-then-cells-i-gt-LAST_PLAIN
returns-then-cells-i-gt-LAST_PLAIN c = c.loop-i.invariant

pub loop-i-preserved : goal.loop-i-preserved
loop-i-preserved c =
    stretch-more c.loop-i.invariant c.loop-i-test.true c.if-g0-ne6.false
    (record { least = c.if-cells-i-lt-FIRST_PLAIN.false; most = c.if-cells-i-gt-LAST_PLAIN.false })

pub returns : goal.returns
returns c =
    let e : c.loop-i.i ≡ length c.args.cells.now = omega (arith, c.loop-i.auto.i-end c.requires, c.loop-i-test.false) in
    rw e at c.loop-i.invariant
