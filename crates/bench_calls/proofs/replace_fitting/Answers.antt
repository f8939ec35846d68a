-- 9, then 12; else the record and the edit, each by the lemma on it.
use Rattle.std.proofs.Common.{arith}
use Rattle.answer.proofs.Once.{limit-small}
use Rattle.bench_calls.proofs.Replacings.{no_room, no_words, length_part, replaced-is}
use Rattle.bench_calls.proofs.replace_fitting.Goals as goal

pub returns-then-text-length : goal.returns-then-text-length
returns-then-text-length c =
    let a = c.args in
    let p = c.requires in
    rw c.stays.ensures
    (no_room a.b a.mine a.used a.p a.place a.count a.cells.now a.text.now a.history.now p.1.text-filled.fits p.0
    c.if-text-length.true)

pub returns-then-history-need : goal.returns-then-history-need
returns-then-history-need c =
    let a = c.args in
    let p = c.requires in
    rw c.stays-then-history-need.ensures
    (no_words a.b a.mine a.used a.p a.place a.count a.cells.now a.text.now a.history.now p.1.text-filled.fits p.0
    c.if-text-length.false c.if-history-need.true)

pub record_step-requires : goal.record_step-requires
record_step-requires c =
    let a = c.args in
    let p = c.requires in
    let s = p.1 in
    let k = c.if-history-need.false in
    let n = length_part a.b a.mine a.used a.p a.place a.count a.cells.now a.text.now a.history.now s.text-filled.fits
    p.0 in (
      s.from,
      s.filled,
      s.small,
      s.one,
      s.tiles,
      omega (arith, s.closes, k, n),
      omega (arith, p.0, s.text-filled.fits, s.text-small, limit-small),
      omega (arith, n, p.0, s.text-filled.fits, s.text-small, limit-small),
      omega (arith, p.2, limit-small),
    )

pub overflow_add-b : goal.overflow_add-b
overflow_add-b c = omega (arith, c.requires.1.few, limit-small)

pub returns : goal.returns
returns c =
    let a = c.args in
    let p = c.requires in
    let e = c.accept in
    replaced-is a.b a.mine a.used a.p a.place a.count a.cells.now a.text.now a.history.now p.1.text-filled.fits p.0 e.result
    _ _ c.if-text-length.false c.if-history-need.false _ c.mark_left-saved.ensures e.ensures.0 e.ensures.1
    c.record_step.ensures
