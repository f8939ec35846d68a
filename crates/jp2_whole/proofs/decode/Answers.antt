use Rattle.std.proofs.Common.{◌<◌, length, arith}
use Rattle.reading.proofs.Laws.{left-bad, left_end}
use Rattle.jp2_read.proofs.Moves.{moved}
use Rattle.jp2_whole.proofs.Laying.{laying-filled, filled-place, filled-give, filled-go, filled-done}
use Rattle.jp2_whole.proofs.decode.Goals as goal
use Rattle.jp2_whole.proofs.decode.Goals.{in-Give, in-Go}

pub loop-at-init : goal.loop-at-init
loop-at-init c = rw c.standing-st.ensures (laying-filled c.fill_on-reached.ensures c.requires.filled)

-- the next cell has a place
index : (c : goal.In-Give) → c.loop-at.n < length c.loop-at.out
index c =
    filled-place c.loop-at.invariant c.loop-at-test.true (moved c.feed.ensures c.in-Give.is)
    (omega (arith, c.loop-at.auto.out, c.fill_on-reached.auto.out, c.requires.text_in_bounds))

pub offset_bounds-out-n : goal.offset_bounds-out-n
offset_bounds-out-n c = omega (arith, index c, c.loop-at.auto.out, c.well_formed)

pub bounds-out-n : goal.bounds-out-n
bounds-out-n c = index c

pub overflow_add-n : goal.overflow_add-n
overflow_add-n c = omega (arith, index c, c.loop-at.auto.out, c.well_formed)

pub returns-in-Bad : goal.returns-in-Bad
returns-in-Bad c =
    let q = c.loop-at.invariant in
    filled-done q (left-bad q.left c.loop-at-test.true (moved c.feed.ensures c.in-Bad.is)).0

pub loop-at-preserved : goal.loop-at-preserved
loop-at-preserved c =
    elim c.match-feed.branch [
      | in-Give w ↦
          rw (w.out-is, w.n-is, w.st-is)
          (filled-give c.loop-at.invariant c.loop-at-test.true (moved c.feed.ensures w.in-Give.is)
          (filled-place c.loop-at.invariant c.loop-at-test.true (moved c.feed.ensures w.in-Give.is)
          (omega (arith, c.loop-at.auto.out, c.fill_on-reached.auto.out, c.requires.text_in_bounds))))
      | in-Go w ↦ rw (w.out-is, w.n-is, w.st-is) (filled-go c.loop-at.invariant c.loop-at-test.true (moved c.feed.ensures w.in-Go.is))
    ]

pub returns : goal.returns
returns c = let q = c.loop-at.invariant in filled-done q (left_end q.left c.loop-at-test.false).0
