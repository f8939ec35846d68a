use native.Mathlib.Omega.{arith}
use Rattle.reading.proofs.Decoding.{leads-on}
use Rattle.jp2_read.proofs.Designating.{row-stands, code-length, designation-passes}
use Rattle.jp2_read.proofs.past.pass.Goals as goal

pub loop-row-smaller : goal.loop-row-smaller
loop-row-smaller c =
    let k = (row-stands c.args.text.now c.loop-row.at c.loop-row.invariant.1 c.loop-row-test.true).1 in
    omega (arith, k.0, (code-length k.1).0)

pub loop-row-preserved : goal.loop-row-preserved
loop-row-preserved c =
    let k = row-stands c.args.text.now c.loop-row.at c.loop-row.invariant.1 c.loop-row-test.true in (
      rw (c.g0_after-g0.ensures, c.g2_after-g2.ensures) (leads-on c.loop-row.invariant.0 (designation-passes _ _ k)),
      c.row_at-row-in-loop-row.ensures,
    )
