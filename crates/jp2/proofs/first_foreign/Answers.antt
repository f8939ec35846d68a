use Rattle.std.proofs.Common.{ap, sym, ◌∙◌, arith}
use Rattle.std.specs.Prelude.{not}
use Rattle.jp2.specs.Writable.{first_foreign}
use Rattle.jp2.proofs.Search.{passed_start, passed_here, passed_on, passed-end}
use Rattle.jp2.proofs.first_foreign.Goals as goal

pub loop-i-init : goal.loop-i-init
loop-i-init c = passed_start _ _

pub returns-then-not-is_writable : goal.returns-then-not-is_writable
unfolding first_foreign
returns-then-not-is_writable c =
    passed_here c.loop-i.invariant 0 c.loop-i-test.true (ap not (sym c.is_writable.ensures ∙ c.if-not-is_writable.true))

pub loop-i-preserved : goal.loop-i-preserved
loop-i-preserved c =
    passed_on c.loop-i.invariant 0 c.loop-i-test.true (ap not (sym c.is_writable.ensures ∙ c.if-not-is_writable.false))

pub returns : goal.returns
unfolding first_foreign
returns c = omega (arith, passed-end c.loop-i.invariant c.loop-i-test.false)
