-- An unfit call is refused as the word says.
use Rattle.std.proofs.Common.{sym}
use Rattle.benches.specs.Benches.{State, state_of}
use Rattle.bench_calls.proofs.Turns.{step-unfit}
use Rattle.bench_calls.proofs.step_over.Goals as goal

pub returns-in-Err : goal.returns-in-Err
returns-in-Err c =
    let a = c.args in
    let t : State = state_of a.b a.text0.now a.text1.now a.history.now in
    rw c.refused.ensures (sym (step-unfit t a.bench a.forward c.judge.ensures c.in-Err.is))
