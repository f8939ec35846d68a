use native.Mathlib.Omega.{arith}
use mathlib.Core.Path.{refl, sym, ◌∙◌}
use Prim.Native.Nat.{◌-◌}
use lib.ListN.{drop, length-take, length-drop}
use Rattle.ledger.specs.Page.{State, state_of, leaves}
use Rattle.records.proofs.Found.{fit}
use Rattle.page.proofs.Fills.{text-filled}
use Rattle.page.proofs.Turns.{change-moves, nothing_left}
use borrow.Author.Rules.{rules}
use Rattle.page.proofs.move_over.Statement.{statement}
use Rattle.page.proofs.move_over.Tie as tie

words-over-requires : tie.Need-words_over-span-requires
words-over-requires c κs = search rules

refused-requires : tie.Need-refused-requires
refused-requires c κs = search rules

returns : tie.Need-returns-then-at-span
returns c =
    let a = c.args in
    let s : State = state_of a.page a.text.now a.history.now in
    let f = fit s refl c.requires in
    rw c.refused.ensures (sym (nothing_left s a.last f a.forward c.words_over-span.result c.words_over-span.ensures c.if-at-span.true))

change-at-requires : tie.Need-change_at-change-requires
change-at-requires c κs = search rules

mul-accept : tie.Need-offset_bounds-history-change
mul-accept c =
    let a = c.args in
    let s : State = state_of a.page a.text.now a.history.now in
    let f = fit s refl c.requires in
    let m = change-moves s a.last f a.forward c.words_over-span.result c.words_over-span.ensures c.if-at-span.false c.change_at-change.result c.change_at-change.ensures in
    omega (arith, m.part, m.whole)

sub-accept : tie.Need-slice_bounds-accept-count
sub-accept c =
    let a = c.args in
    let s : State = state_of a.page a.text.now a.history.now in
    let f = fit s refl c.requires in
    let m = change-moves s a.last f a.forward c.words_over-span.result c.words_over-span.ensures c.if-at-span.false c.change_at-change.result c.change_at-change.ensures in
    m.part

part-accept-start : tie.Need-slice_bounds-accept-start
part-accept-start c =
    let a = c.args in
    let s : State = state_of a.page a.text.now a.history.now in
    let f = fit s refl c.requires in
    let m = change-moves s a.last f a.forward c.words_over-span.result c.words_over-span.ensures c.if-at-span.false c.change_at-change.result c.change_at-change.ensures in
    omega (arith, m.part, m.whole)

part-accept-end : tie.Need-slice_bounds-accept-end
part-accept-end c =
    let a = c.args in
    let s : State = state_of a.page a.text.now a.history.now in
    let f = fit s refl c.requires in
    let m = change-moves s a.last f a.forward c.words_over-span.result c.words_over-span.ensures c.if-at-span.false c.change_at-change.result c.change_at-change.ensures in
    m.whole

accept-requires : tie.Need-accept-requires
accept-requires c κs =
    let a = c.args in
    let s : State = state_of a.page a.text.now a.history.now in
    let f = fit s refl c.requires in
    let m = change-moves s a.last f a.forward c.words_over-span.result c.words_over-span.ensures c.if-at-span.false c.change_at-change.result c.change_at-change.ensures in
    let q = c.change_at-change.result in
    let part = length-take (q.to - q.from) (drop q.from a.history.now) in
    let rest = length-drop q.from a.history.now in
    (m.place, text-filled f, omega (arith, m.room, m.part, m.whole))

same_length : tie.Need-shape_of-text
same_length c = search rules

returns-2 : tie.Need-returns
returns-2 c =
    let a = c.args in
    let s : State = state_of a.page a.text.now a.history.now in
    let f = fit s refl c.requires in
    let m = change-moves s a.last f a.forward c.words_over-span.result c.words_over-span.ensures c.if-at-span.false c.change_at-change.result c.change_at-change.ensures in
    let e = c.accept.ensures in
    (λ i. leaves (e.0 i) (e.1 i) a.history.now) ∙ sym m.outcome

pub move_over_spec : {M : Type 1} → statement M
move_over_spec =
    tie.close
    (tie.spec
    words-over-requires
    refused-requires
    returns
    change-at-requires
    mul-accept
    sub-accept
    part-accept-start
    part-accept-end
    accept-requires
    same_length
    returns-2)
