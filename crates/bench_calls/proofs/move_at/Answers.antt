-- The change that the record tells lies in the history, and the text has room for it.
use Rattle.std.proofs.Common.{◌-◌, length, take, drop, ap, ◌∙◌, arith, length-take, length-drop}
use Rattle.page.specs.declared.Change.{Change}
use Rattle.page.proofs.Turns.{found_in}
use Rattle.bench_calls.specs.Leaving.{leaves_of, edited_to}
use Rattle.bench_calls.specs.Steps.{changed, Fits}
use Rattle.bench_calls.proofs.move_at.Goals as goal

pub offset_bounds-history-change : goal.offset_bounds-history-change
offset_bounds-history-change c =
    let a = c.args in
    let found = c.change_at-change.ensures ∙ found_in a.forward a.history.now a.at c.requires.words in
    let m : Fits a.b c.change_at-change.result a.text.now a.history.now = rw found c.requires.fits in
    omega (arith, m.part, m.whole)

pub slice_bounds-accept-count : goal.slice_bounds-accept-count
slice_bounds-accept-count c =
    let a = c.args in
    let found = c.change_at-change.ensures ∙ found_in a.forward a.history.now a.at c.requires.words in
    let m : Fits a.b c.change_at-change.result a.text.now a.history.now = rw found c.requires.fits in
    m.part

pub slice_bounds-accept-start : goal.slice_bounds-accept-start
slice_bounds-accept-start c =
    let a = c.args in
    let found = c.change_at-change.ensures ∙ found_in a.forward a.history.now a.at c.requires.words in
    let m : Fits a.b c.change_at-change.result a.text.now a.history.now = rw found c.requires.fits in
    omega (arith, m.part, m.whole)

pub slice_bounds-accept-end : goal.slice_bounds-accept-end
slice_bounds-accept-end c =
    let a = c.args in
    let found = c.change_at-change.ensures ∙ found_in a.forward a.history.now a.at c.requires.words in
    let m : Fits a.b c.change_at-change.result a.text.now a.history.now = rw found c.requires.fits in
    m.whole

pub accept-requires : goal.accept-requires
accept-requires c =
    let a = c.args in
    let q = c.change_at-change.result in
    let found = c.change_at-change.ensures ∙ found_in a.forward a.history.now a.at c.requires.words in
    let m : Fits a.b q a.text.now a.history.now = rw found c.requires.fits in
    let part = length-take (q.to - q.from) (drop q.from a.history.now) in
    let rest = length-drop q.from a.history.now in
    (m.place, m.filled, omega (arith, m.room, m.part, m.whole))

pub returns : goal.returns
returns c =
    let a = c.args in
    let e = c.accept.ensures in
    (λ i. leaves_of (e.0 i) (e.1 i) a.history.now)
    ∙ ap
    (λ (q : Change).
    edited_to a.b (length a.text.now) (changed q a.history.now (take a.b.length a.text.now)) a.used
    a.standing a.b.saved a.history.now)
    (c.change_at-change.ensures ∙ found_in a.forward a.history.now a.at c.requires.words)
