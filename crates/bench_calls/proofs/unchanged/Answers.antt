-- An unfit call is refused as the word says, and else the bench's mark answers.
use Rattle.std.proofs.Common.{sym}
use Rattle.benches.specs.Benches.{State, state_of}
use Rattle.bench_records.proofs.Found.{ask-unfit}
use Rattle.bench_calls.proofs.Savings.{asked-given}
use Rattle.bench_calls.proofs.unchanged.Goals as goal

pub returns-in-Err : goal.returns-in-Err
returns-in-Err c =
    let a = c.args in
    let t : State = state_of a.b a.text0.now a.text1.now a.history.now in
    sym (ask-unfit t a.bench c.judge.ensures c.in-Err.is)

pub returns-in-Ok : goal.returns-in-Ok
returns-in-Ok c =
    let a = c.args in
    rw (c.told.ensures, c.page_of.ensures, c.bench_at.ensures)
    (sym (asked-given a.b a.text0.now a.text1.now a.history.now a.bench c.judge.ensures c.in-Ok.is))
