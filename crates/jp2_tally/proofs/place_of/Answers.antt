use borrow.Author.Tests.{eq-eqb, ne_eqb}
use Rattle.std.proofs.Common.{arith}
use Rattle.jp2.proofs.Search.{passed_start, passed_here, passed_on, passed-end}
use Rattle.jp2_tally.proofs.place_of.Goals as goal

pub loop-k-init : goal.loop-k-init
loop-k-init c = passed_start _ _

pub returns-then-set-number : goal.returns-then-set-number
returns-then-set-number c = passed_here c.loop-k.invariant 0 c.loop-k-test.true (eq-eqb _ _ c.if-set-number.true)

pub loop-k-preserved : goal.loop-k-preserved
loop-k-preserved c = passed_on c.loop-k.invariant 0 c.loop-k-test.true (ne_eqb _ _ c.if-set-number.false)

pub returns : goal.returns
returns c = omega (arith, passed-end c.loop-k.invariant c.loop-k-test.false)
