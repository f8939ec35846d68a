use Rattle.std.proofs.Common.{sym, ◌∙◌}
use lib.ListN.{length}
use borrow.Author.Tests.{ltb-false}
use Rattle.answer.specs.Answer.{limit}
use Rattle.ledger.specs.Page.{State, state_of}
use Rattle.records.proofs.Found.{fit}
use Rattle.page.proofs.Fills.{text-filled, history-filled}
use Rattle.page.proofs.Replacings.{replace-long, replace-unfit, replace-fit}
use Rattle.page.proofs.replace.Goals as goal

pub returns-then-over_limit : goal.returns-then-over_limit
returns-then-over_limit c =
    let a = c.args in
    let s : State = state_of a.page a.text.now a.history.now in
    rw (c.refused.ensures, c.too_long.ensures)
    (sym (replace-long s a.place a.count a.cells.now (sym c.over_limit.ensures ∙ c.if-over_limit.true)))

pub replace_sound-requires : goal.replace_sound-requires
replace_sound-requires c =
    let a = c.args in
    let s : State = state_of a.page a.text.now a.history.now in
    let f = fit s c.judge.ensures c.in-Ok.is in
    let few = ltb-false limit (length a.cells.now) (sym c.over_limit.ensures ∙ c.if-over_limit.false) in
    (text-filled f, f.frame.stands, history-filled f, few, f.short-text, f.short-history)

pub returns-in-Err : goal.returns-in-Err
returns-in-Err c =
    let a = c.args in
    let s : State = state_of a.page a.text.now a.history.now in
    rw c.refused-in-Err.ensures
    (sym (replace-unfit s a.place a.count a.cells.now (sym c.over_limit.ensures ∙ c.if-over_limit.false)
    c.judge.ensures c.in-Err.is))

pub returns-in-Ok : goal.returns-in-Ok
returns-in-Ok c =
    let a = c.args in
    let s : State = state_of a.page a.text.now a.history.now in
    c.replace_sound.ensures
    ∙ sym (replace-fit s a.place a.count a.cells.now (sym c.over_limit.ensures ∙ c.if-over_limit.false)
    (fit s c.judge.ensures c.in-Ok.is))
