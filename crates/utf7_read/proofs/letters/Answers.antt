use native.Mathlib.Omega.{arith}
use Rattle.bits.proofs.Bits.{power_small}
use Rattle.reading.proofs.Decoding.{leads-on, gets-on}
use Rattle.utf7_read.proofs.Passing.{leads-letter, gets-letter}
use Rattle.utf7_read.proofs.letters.Goals as goal

pub loop-at-preserved : goal.loop-at-preserved
loop-at-preserved c =
    let l = c.loop-at.invariant in
    leads-on l (leads-letter c.loop-at-test.true l.settled (omega arith) c.value_of-x.ensures c.if-n-lt10.true)

pub returns-else-n-lt10 : goal.returns-else-n-lt10
returns-else-n-lt10 c =
    let l = c.loop-at.invariant in
    rw (c.mark.ensures, power_small _ _ c.power-w.ensures (omega arith))
    (gets-on l (gets-letter c.loop-at-test.true l.settled (omega arith) c.value_of-x.ensures c.if-n-lt10.false))
