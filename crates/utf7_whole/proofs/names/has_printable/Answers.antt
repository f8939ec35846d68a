use Rattle.std.proofs.Common.{arith}
use Rattle.utf7_whole.proofs.Mailbox.{none_more}
use Rattle.utf7_whole.proofs.names.has_printable.Goals as goal

pub loop-k-init : goal.loop-k-init
loop-k-init c = λ e i h l. absurd (omega arith)

pub loop-k-preserved : goal.loop-k-preserved
loop-k-preserved c = none_more c.args.units.now c.args.from c.loop-k.k c.loop-k.some _ c.loop-k.invariant c.is_printable-some.ensures

pub returns : goal.returns
returns c = λ e i h l. c.loop-k.invariant e i h (omega (arith, l, c.loop-k-test.false))
