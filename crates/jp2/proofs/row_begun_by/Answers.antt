use Rattle.std.proofs.Common.{arith, sym, ◌∙◌}
use Rattle.jp2.specs.Table.{designations, no_row, row_begun_by}
use Rattle.jp2.proofs.Search.{passed_start, passed_here, passed_on, passed-end}
use Rattle.jp2.proofs.Begins.{begins-std}
use Rattle.jp2.proofs.row_begun_by.Goals as goal

pub loop-i-init : goal.loop-i-init
loop-i-init c = passed_start _ _

pub returns-then-starts_with : goal.returns-then-starts_with
unfolding designations row_begun_by
returns-then-starts_with c =
    passed_here c.loop-i.invariant no_row c.loop-i-test.true
    (rw (begins-std, ← c.row_at-d.ensures, ← c.sent.ensures) (sym c.if-starts_with.ensures.value))

pub loop-i-preserved : goal.loop-i-preserved
unfolding designations
loop-i-preserved c =
    passed_on c.loop-i.invariant no_row c.loop-i-test.true
    (rw (begins-std, ← c.row_at-d.ensures, ← c.sent.ensures) (sym c.starts_with.ensures.value ∙ c.if-starts_with.false))

pub returns : goal.returns
unfolding designations row_begun_by
returns c = omega (arith, passed-end c.loop-i.invariant c.loop-i-test.false)
