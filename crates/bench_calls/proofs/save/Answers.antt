-- A refusal changes nothing; else the caller's part gives the answer, the mark and the output.
use Rattle.std.proofs.Common.{sym, ◌∙◌}
use Rattle.editor.specs.Ledger.{save}
use Rattle.benches.specs.Benches.{State, state_of}
use Rattle.bench_records.proofs.Found.{call-unfit}
use Rattle.bench_calls.proofs.Savings.{texts-fit, saved-given, save-long}
use Rattle.bench_calls.proofs.save.Goals as goal

pub returns-then-over_limit : goal.returns-then-over_limit
returns-then-over_limit c =
    let a = c.args in
    rw (c.refused.ensures, c.too_long.ensures)
    (sym
    (save-long a.b a.text0.now a.text1.now a.history.now a.bench a.arrived.now a.out.now
    (sym c.over_limit.ensures ∙ c.if-over_limit.true)))

pub save_sound-requires : goal.save_sound-requires
save_sound-requires c =
    let a = c.args in
    texts-fit a.b a.text0.now a.text1.now a.history.now a.bench c.judge.ensures c.in-Ok.is

pub returns-in-Err : goal.returns-in-Err
returns-in-Err c =
    let a = c.args in
    let t : State = state_of a.b a.text0.now a.text1.now a.history.now in
    rw c.refused-in-Err.ensures
    (sym
    (call-unfit t (save a.arrived.now a.out.now) a.bench (sym c.over_limit.ensures ∙ c.if-over_limit.false)
    c.judge.ensures c.in-Err.is))

pub returns-in-Ok : goal.returns-in-Ok
returns-in-Ok c =
    let a = c.args in
    let s = c.save_sound in
    saved-given a.b a.text0.now a.text1.now a.history.now a.bench c.judge.ensures c.in-Ok.is a.arrived.now
    a.out.now _ s.result (sym c.over_limit.ensures ∙ c.if-over_limit.false) s.ensures.0 s.ensures.1
