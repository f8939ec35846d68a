use Rattle.std.proofs.Common.{arith}
use Rattle.jp2_whole.proofs.Laying.{same_next}
use Rattle.jp2_whole.proofs.quick.is_same.Goals as goal

pub loop-k-init : goal.loop-k-init
loop-k-init c = λ k h. absurd (omega arith)

pub loop-k-preserved : goal.loop-k-preserved
loop-k-preserved c = same_next c.args.buf.now c.args.cells.now c.args.from c.loop-k.invariant c.if-buf-k.false

pub returns : goal.returns
returns c = λ _. (c.if-cells-from.false, λ k h. c.loop-k.invariant k (omega (arith, c.loop-k-test.false)))
