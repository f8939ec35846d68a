use Rattle.std.proofs.Common.{sym}
use Rattle.ledger.specs.Page.{State, state_of}
use Rattle.records.proofs.Found.{fit}
use Rattle.page.proofs.Asking.{asked-unfit, asked-fit}
use Rattle.page.proofs.unchanged.Goals as goal

pub returns-in-Err : goal.returns-in-Err
returns-in-Err c =
    let a = c.args in
    let s : State = state_of a.page a.text.now a.history.now in
    sym (asked-unfit s c.judge.ensures c.in-Err.is)

pub returns-in-Ok : goal.returns-in-Ok
returns-in-Ok c =
    let a = c.args in
    let s : State = state_of a.page a.text.now a.history.now in
    rw c.told.ensures (sym (asked-fit s (fit s c.judge.ensures c.in-Ok.is)))
