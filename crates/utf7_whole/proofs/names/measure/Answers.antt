use Rattle.std.proofs.Common.{◌≡◌, ◌∙◌, length, arith}
use Rattle.reading.proofs.Laws.{left-give, left-go, left-bad, left_end}
use Rattle.mailbox_read.proofs.Moves.{byte-moved}
use Rattle.utf7_whole.proofs.names.measure.Goals.{in-Give, in-Go}
use Rattle.utf7_whole.proofs.names.measure.Goals as goal

pub loop-at-init : goal.loop-at-init
loop-at-init c = c.judge-reached.ensures

pub overflow_add-n : goal.overflow_add-n
overflow_add-n c = omega (arith, c.loop-at.invariant.few, c.loop-at-test.true, c.well_formed)

pub returns-in-Bad : goal.returns-in-Bad
returns-in-Bad c = (left-bad c.loop-at.invariant c.loop-at-test.true (byte-moved _ _ c.byte_does.ensures c.in-Bad.is)).1

pub loop-at-preserved : goal.loop-at-preserved
loop-at-preserved c =
    elim c.match-byte_does.branch [
      | in-Give w ↦ rw (w.n-is, w.st-is) (left-give c.loop-at.invariant c.loop-at-test.true (byte-moved _ _ c.byte_does.ensures w.in-Give.is))
      | in-Go w ↦ rw (w.n-is, w.st-is) (left-go c.loop-at.invariant c.loop-at-test.true (byte-moved _ _ c.byte_does.ensures w.in-Go.is))
    ]

pub returns : goal.returns
returns c =
    let end : c.loop-at.at ≡ length c.args.text.now = omega (arith, c.loop-at.invariant.within, c.loop-at-test.false) in
    c.finish.ensures ∙ rw end at (left_end c.loop-at.invariant c.loop-at-test.false).1
