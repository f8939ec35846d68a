use Rattle.std.proofs.Common.{◌≡◌, length, arith}
use Rattle.reading.proofs.Matches.{matching-give, matching-other, matching-past, matching-go, matching-bad, matching-refused, matching-accepted}
use Rattle.jp2.proofs.Kept.{ends-sound}
use Rattle.jp2_read.proofs.Moves.{moved}
use Rattle.jp2_whole.proofs.Laying.{matching-of}
use Rattle.jp2_whole.proofs.reads_as.Goals as goal
use Rattle.jp2_whole.proofs.reads_as.Goals.{in-Give+else-cells-n+else-cells-n-2, in-Go}

pub loop-at-init : goal.loop-at-init
loop-at-init c = rw c.standing-st.ensures (matching-of c.follow-reached.ensures)

pub returns-then-cells-n : goal.returns-then-cells-n
returns-then-cells-n c = matching-past c.loop-at.invariant c.loop-at-test.true (moved c.feed.ensures c.in-Give.is) c.if-cells-n.true

pub returns-then-cells-n-2 : goal.returns-then-cells-n-2
returns-then-cells-n-2 c =
    matching-other c.loop-at.invariant c.loop-at-test.true (moved c.feed.ensures c.in-Give.is) (omega (arith, c.if-cells-n.false)) c.if-cells-n-2.true

pub returns-in-Bad : goal.returns-in-Bad
returns-in-Bad c = matching-bad c.loop-at.invariant c.loop-at-test.true (moved c.feed.ensures c.in-Bad.is)

pub loop-at-preserved : goal.loop-at-preserved
loop-at-preserved c =
    elim c.match-feed.branch [
      | in-Give+else-cells-n+else-cells-n-2 w ↦
          rw (w.n-is, w.st-is)
          (matching-give c.loop-at.invariant c.loop-at-test.true (moved c.feed.ensures w.in-Give.is) (omega (arith, w.if-cells-n.false)) w.if-cells-n-2.false)
      | in-Go w ↦ rw (w.n-is, w.st-is) (matching-go c.loop-at.invariant c.loop-at-test.true (moved c.feed.ensures w.in-Go.is))
    ]

pub returns-in-Ok : goal.returns-in-Ok
returns-in-Ok c =
    let end : length c.args.text.now ≡ c.loop-at.at = omega (arith, c.loop-at.auto.at-end c.follow-reached.ensures.within, c.loop-at-test.false) in
    matching-accepted c.loop-at.invariant c.loop-at-test.false _ (ends-sound _ _) (rw end at c.finish.ensures) c.in-Ok.is

pub returns-in-Err : goal.returns-in-Err
returns-in-Err c =
    let end : length c.args.text.now ≡ c.loop-at.at = omega (arith, c.loop-at.auto.at-end c.follow-reached.ensures.within, c.loop-at-test.false) in
    matching-refused c.loop-at.invariant c.loop-at-test.false _ (rw end at c.finish.ensures) c.in-Err.is
