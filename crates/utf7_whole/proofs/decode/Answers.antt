use Rattle.std.proofs.Common.{◌≡◌, ◌<◌, ◌∙◌, length, arith}
use Rattle.reading.proofs.Laws.{left-bad, left_end}
use Rattle.utf7_read.proofs.Moves.{byte-moved}
use Rattle.utf7_whole.proofs.Buffers.{filled-place, filled-give, filled-go, filled-done}
use Rattle.utf7_whole.proofs.decode.Goals.{in-Give, in-Go}
use Rattle.utf7_whole.proofs.decode.Goals as goal

pub loop-at-init : goal.loop-at-init
loop-at-init c = c.fill-reached.ensures _ c.requires.padded

-- the next cell has a place
index : (c : goal.In-Give) → c.loop-at.n < length c.loop-at.out
index c =
    filled-place c.loop-at.invariant c.loop-at-test.true (byte-moved _ _ c.byte_does.ensures c.in-Give.is)
    (omega (arith, c.loop-at.auto.out, c.fill-reached.auto.out, c.requires.text_in_bounds))

pub offset_bounds-out-n : goal.offset_bounds-out-n
offset_bounds-out-n c = omega (arith, index c, c.loop-at.auto.out, c.well_formed)

pub bounds-out-n : goal.bounds-out-n
bounds-out-n c = index c

pub overflow_add-n : goal.overflow_add-n
overflow_add-n c = omega (arith, index c, c.loop-at.auto.out, c.well_formed)

pub returns-in-Bad-clause-result_value : goal.returns-in-Bad-clause-result_value
returns-in-Bad-clause-result_value c =
    (left-bad c.loop-at.invariant.left c.loop-at-test.true (byte-moved _ _ c.byte_does.ensures c.in-Bad.is)).1

pub returns-in-Bad-clause-out_after : goal.returns-in-Bad-clause-out_after
returns-in-Bad-clause-out_after c =
    let q = c.loop-at.invariant in
    filled-done q (left-bad q.left c.loop-at-test.true (byte-moved _ _ c.byte_does.ensures c.in-Bad.is)).0

pub loop-at-preserved : goal.loop-at-preserved
loop-at-preserved c =
    elim c.match-byte_does.branch [
      | in-Give w ↦
          rw (w.out-is, w.n-is, w.st-is)
          (filled-give c.loop-at.invariant c.loop-at-test.true (byte-moved _ _ c.byte_does.ensures w.in-Give.is)
          (filled-place c.loop-at.invariant c.loop-at-test.true (byte-moved _ _ c.byte_does.ensures w.in-Give.is)
          (omega (arith, c.loop-at.auto.out, c.fill-reached.auto.out, c.requires.text_in_bounds))))
      | in-Go w ↦ rw (w.out-is, w.n-is, w.st-is) (filled-go c.loop-at.invariant c.loop-at-test.true (byte-moved _ _ c.byte_does.ensures w.in-Go.is))
    ]

pub returns-clause-result_value : goal.returns-clause-result_value
returns-clause-result_value c =
    let q = c.loop-at.invariant.left in
    let end : c.loop-at.at ≡ length c.args.text.now = omega (arith, q.within, c.loop-at-test.false) in
    c.ends_in.ensures ∙ rw end at (left_end q c.loop-at-test.false).1

pub returns-clause-out_after : goal.returns-clause-out_after
returns-clause-out_after c = let q = c.loop-at.invariant in filled-done q (left_end q.left c.loop-at-test.false).0
