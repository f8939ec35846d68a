use mathlib.Core.Path.{sym, ap, ◌∙◌}
use native.Mathlib.Omega.{arith}
use Rattle.benches.specs.Benches.{State, state_of}
use Rattle.bench_records.specs.Judging.{sound_by}
use Rattle.bench_records.proofs.Judging.{named}
use Rattle.bench_records.proofs.judge.Goals as goal

pub returns : goal.returns
returns c =
    let a = c.args in
    let t : State = state_of a.b a.text0.now a.text1.now a.history.now in
    c.ok_or.ensures.value ∙ ap sound_by c.survey.ensures
    ∙ named t a.bench (sym c.over_limit.ensures ∙ c.if-over_limit.false)
    (sym c.over_limit-2.ensures ∙ c.if-over_limit-2.false)
    (sym c.over_limit-3.ensures ∙ c.if-over_limit-3.false)
    (omega arith)
