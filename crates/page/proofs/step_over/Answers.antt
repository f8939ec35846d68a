use Rattle.std.proofs.Common.{sym}
use Rattle.ledger.specs.Page.{State, state_of}
use Rattle.page.proofs.Turns.{step-unfit}
use Rattle.page.proofs.step_over.Goals as goal

pub returns-in-Err : goal.returns-in-Err
returns-in-Err c =
    let a = c.args in
    let s : State = state_of a.page a.text.now a.history.now in
    rw c.refused.ensures (sym (step-unfit s a.forward c.judge.ensures c.in-Err.is))
