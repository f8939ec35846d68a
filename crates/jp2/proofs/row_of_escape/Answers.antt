use Rattle.std.proofs.Common.{arith, sym, ◌∙◌}
use Rattle.jp2.specs.Table.{designations, no_row, row_of_escape}
use Rattle.jp2.proofs.Search.{passed_start, passed_here, passed_on, passed-end}
use Rattle.jp2.proofs.Begins.{is_list-std}
use Rattle.jp2.proofs.row_of_escape.Goals as goal

pub loop-i-init : goal.loop-i-init
loop-i-init c = passed_start _ _

pub returns-then-eq : goal.returns-then-eq
unfolding designations row_of_escape
returns-then-eq c =
    passed_here c.loop-i.invariant no_row c.loop-i-test.true
    (rw (is_list-std, ← c.row_at-d.ensures, ← c.sent.ensures) (sym c.if-eq.ensures))

pub loop-i-preserved : goal.loop-i-preserved
unfolding designations
loop-i-preserved c =
    passed_on c.loop-i.invariant no_row c.loop-i-test.true
    (rw (is_list-std, ← c.row_at-d.ensures, ← c.sent.ensures) (sym c.eq.ensures ∙ c.if-eq.false))

pub returns : goal.returns
unfolding designations row_of_escape
returns c = omega (arith, passed-end c.loop-i.invariant c.loop-i-test.false)
