use Rattle.std.proofs.Common.{sym}
use Rattle.ledger.specs.Page.{State, state_of}
use Rattle.squeeze.proofs.Folding.{squeeze-unfit}
use Rattle.squeeze.proofs.squeeze.Goals as goal

pub returns-in-Err : goal.returns-in-Err
returns-in-Err c =
    let a = c.args in
    let s : State = state_of a.page a.text.now a.history.now in
    rw c.refused.ensures (sym (squeeze-unfit s a.k a.work.now c.judge.ensures c.in-Err.is))
