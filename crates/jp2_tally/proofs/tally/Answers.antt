use Rattle.std.proofs.Common.{refl, sym, ◌∙◌, ◌≡◌, length, arith}
use borrow.Author.Tests.{ltb-false}
use Rattle.jp2.specs.Tally.{count_of, tally_of}
use Rattle.jp2_tally.proofs.Counting.{count-start, count_room, count_next, tally-bad, tally-done}
use Rattle.jp2_tally.proofs.tally.Goals as goal

pub returns-then-over_limit : goal.returns-then-over_limit
unfolding tally_of
returns-then-over_limit c = rw (sym c.over_limit.ensures ∙ c.if-over_limit.true) (c.too_long.ensures, refl)

pub loop-i-init : goal.loop-i-init
unfolding count_of
loop-i-init c = count-start _ (ltb-false _ _ (sym c.over_limit.ensures ∙ c.if-over_limit.false))

pub returns-then-not-is_writable : goal.returns-then-not-is_writable
returns-then-not-is_writable c =
    rw (tally-bad c.loop-i.invariant c.loop-i-test.true (sym c.is_writable.ensures ∙ c.if-not-is_writable.true)) (refl, refl)

pub raise-next-requires : goal.raise-next-requires
raise-next-requires c =
    count_room c.loop-i.invariant c.loop-i-test.true (sym c.is_writable.ensures ∙ c.if-not-is_writable.false) c.place_of.ensures

pub loop-i-preserved : goal.loop-i-preserved
loop-i-preserved c =
    rw c.raise-next.ensures
    (count_next c.loop-i.invariant c.loop-i-test.true (sym c.is_writable.ensures ∙ c.if-not-is_writable.false) c.place_of.ensures)

pub returns : goal.returns
returns c =
    let end : length c.args.cells.now ≡ c.loop-i.i = omega arith in
    rw (tally-done c.loop-i.invariant (omega arith), end) (refl, refl)
