use Rattle.std.proofs.Common.{sym, ◌∙◌}
use lib.Seq.{length-take-le}
use Rattle.ledger.specs.Page.{State, state_of}
use Rattle.records.proofs.Found.{fit}
use Rattle.page.proofs.Savings.{saved-given, save-long, save-unfit, save-fit}
use Rattle.page.proofs.save.Goals as goal

pub returns-then-over_limit : goal.returns-then-over_limit
returns-then-over_limit c =
    let a = c.args in
    let s : State = state_of a.page a.text.now a.history.now in
    rw (c.refused.ensures, c.too_long.ensures)
    (sym (save-long s a.arrived.now a.out.now (sym c.over_limit.ensures ∙ c.if-over_limit.true)))

pub slice_bounds-save_sound-end : goal.slice_bounds-save_sound-end
slice_bounds-save_sound-end c =
    let a = c.args in
    let s : State = state_of a.page a.text.now a.history.now in
    let f = fit s c.judge.ensures c.in-Ok.is in
    sym (length-take-le a.page.length a.text.now f.frame.fits)

pub returns-in-Err : goal.returns-in-Err
returns-in-Err c =
    let a = c.args in
    let s : State = state_of a.page a.text.now a.history.now in
    rw c.refused-in-Err.ensures
    (sym (save-unfit s a.arrived.now a.out.now (sym c.over_limit.ensures ∙ c.if-over_limit.false)
    c.judge.ensures c.in-Err.is))

pub returns-in-Ok : goal.returns-in-Ok
returns-in-Ok c =
    let a = c.args in
    let s : State = state_of a.page a.text.now a.history.now in
    let e = c.save_sound in
    saved-given s e.result _ _ e.ensures.0 e.ensures.1
    ∙ sym (save-fit s a.arrived.now a.out.now (sym c.over_limit.ensures ∙ c.if-over_limit.false)
    (fit s c.judge.ensures c.in-Ok.is))
