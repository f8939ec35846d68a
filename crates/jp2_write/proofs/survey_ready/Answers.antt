use Rattle.std.proofs.Common.{◌≡◌, length, arith}
use Rattle.answer.proofs.Once.{limit-small}
use Rattle.jp2_write.proofs.Counting.{run-stay, run_on, ready-most}
use Rattle.jp2_write.proofs.survey_ready.Goals as goal

pub loop-i-init : goal.loop-i-init
loop-i-init c = run-stay _ _ _ _ c.requires.0

pub returns-then-size-eq0 : goal.returns-then-size-eq0
returns-then-size-eq0 c = c.loop-i.invariant

pub overflow_add-count : goal.overflow_add-count
overflow_add-count c =
    let i = c.loop-i.invariant in
    omega (arith, i.most, ready-most (c.ready-size.ensures (omega (arith, c.if-size-eq0.false))), c.requires.1, limit-small, i.within)

pub loop-i-preserved : goal.loop-i-preserved
loop-i-preserved c = run_on c.loop-i.invariant c.loop-i-test.true (c.ready-size.ensures (omega (arith, c.if-size-eq0.false)))

pub returns : goal.returns
returns c =
    let e : c.loop-i.i ≡ length c.args.cells.now = omega (arith, c.loop-i.auto.i-end c.requires.0, c.loop-i-test.false) in
    rw e at c.loop-i.invariant
