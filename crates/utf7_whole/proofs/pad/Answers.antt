use Rattle.std.proofs.Common.{arith}
use Rattle.utf7_whole.proofs.Buffers.{padding-start, padding-more, padding-done}
use Rattle.utf7_whole.proofs.pad.Goals as goal

pub loop-k-init : goal.loop-k-init
loop-k-init c = padding-start _ _ c.requires.by_index

pub loop-k-preserved : goal.loop-k-preserved
loop-k-preserved c = padding-more c.loop-k.invariant (omega (arith, c.loop-k-test.true, c.requires.text_in_bounds, c.loop-k.auto.room))

pub returns : goal.returns
returns c = padding-done c.loop-k.invariant (omega (arith, c.loop-k-test.false))
