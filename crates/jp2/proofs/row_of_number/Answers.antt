use borrow.Author.Tests.{eq-eqb, ne_eqb}
use Rattle.std.proofs.Common.{arith}
use Rattle.jp2.specs.Table.{designations, no_row, row_of_number}
use Rattle.jp2.proofs.Search.{passed_start, passed_here, passed_on, passed-end}
use Rattle.jp2.proofs.row_of_number.Goals as goal

pub loop-i-init : goal.loop-i-init
loop-i-init c = passed_start _ _

pub returns-then-d-number : goal.returns-then-d-number
unfolding designations row_of_number
returns-then-d-number c =
    passed_here c.loop-i.invariant no_row c.loop-i-test.true (rw (← c.row_at-d.ensures) (eq-eqb _ _ c.if-d-number.true))

pub loop-i-preserved : goal.loop-i-preserved
unfolding designations
loop-i-preserved c =
    passed_on c.loop-i.invariant no_row c.loop-i-test.true (rw (← c.row_at-d.ensures) (ne_eqb _ _ c.if-d-number.false))

pub returns : goal.returns
unfolding designations row_of_number
returns c = omega (arith, passed-end c.loop-i.invariant c.loop-i-test.false)
