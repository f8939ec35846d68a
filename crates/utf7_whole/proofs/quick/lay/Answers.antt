use Rattle.std.proofs.Common.{◌≡◌, arith}
use Rattle.answer.proofs.Laid.{laid_none, laid_next}
use Rattle.utf7_whole.proofs.quick.lay.Goals as goal

pub loop-k-init : goal.loop-k-init
loop-k-init c = laid_none _ _

pub loop-k-preserved : goal.loop-k-preserved
loop-k-preserved c =
    laid_next _ c.loop-k.k c.loop-k.invariant (omega (arith, c.loop-k-test.true, c.requires)) (omega (arith, c.loop-k.auto.out, c.loop-k-test.true, c.requires))

pub returns : goal.returns
returns c = let e : c.loop-k.k ≡ c.args.u = omega (arith, c.loop-k.auto.k-end, c.loop-k-test.false) in rw e at c.loop-k.invariant
