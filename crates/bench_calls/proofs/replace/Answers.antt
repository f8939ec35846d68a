-- A text over the limit is refused first, and an unfit call as the word says.
use Rattle.std.proofs.Common.{sym, ◌∙◌}
use Rattle.editor.specs.Ledger.{replace}
use Rattle.benches.specs.Benches.{State, state_of}
use Rattle.bench_records.proofs.Found.{call-unfit}
use Rattle.bench_calls.proofs.Replaced.{replace-long}
use Rattle.bench_calls.proofs.replace.Goals as goal

pub returns-then-over_limit : goal.returns-then-over_limit
returns-then-over_limit c =
    let a = c.args in
    let t : State = state_of a.b a.text0.now a.text1.now a.history.now in
    rw (c.refused.ensures, c.too_long.ensures)
    (sym (replace-long t a.bench a.place a.count a.cells.now (sym c.over_limit.ensures ∙ c.if-over_limit.true)))

pub returns-in-Err : goal.returns-in-Err
returns-in-Err c =
    let a = c.args in
    let t : State = state_of a.b a.text0.now a.text1.now a.history.now in
    rw c.refused-in-Err.ensures
    (sym
    (call-unfit t (replace a.place a.count a.cells.now) a.bench (sym c.over_limit.ensures ∙ c.if-over_limit.false)
    c.judge.ensures c.in-Err.is))
