use Rattle.std.proofs.Common.{sym, ◌∙◌, arith}
use Rattle.benches.specs.Benches.{state_of}
use Rattle.bench_records.proofs.Judging.{used-beyond, not-blank, first_off, second-off, fits-first, fits-second}
use Rattle.bench_records.proofs.survey.Goals as goal

pub returns-then-history-used : goal.returns-then-history-used
returns-then-history-used c =
    let a = c.args in
    sym (used-beyond (state_of a.b a.text0.now a.text1.now a.history.now) a.mine (omega arith))

pub returns-then-not-zero_from : goal.returns-then-not-zero_from
returns-then-not-zero_from c =
    let a = c.args in
    sym
    (not-blank (state_of a.b a.text0.now a.text1.now a.history.now) a.mine (omega arith)
    (sym c.zero_from.ensures ∙ c.if-not-zero_from.true))

pub returns-in_err-first : goal.returns-in_err-first
returns-in_err-first c =
    let a = c.args in
    c.from_residual.ensures
    ∙ sym
    (first_off (state_of a.b a.text0.now a.text1.now a.history.now) a.mine (omega arith)
    (sym c.zero_from.ensures ∙ c.if-not-zero_from.false) (sym c.bench_fitted.ensures ∙ c.in_err-first.was))

pub returns-in_err-second : goal.returns-in_err-second
returns-in_err-second c =
    let a = c.args in
    c.from_residual-in_err-second.ensures
    ∙ sym
    (second-off (state_of a.b a.text0.now a.text1.now a.history.now) a.mine (omega arith)
    (sym c.zero_from.ensures ∙ c.if-not-zero_from.false) (sym c.bench_fitted-2.ensures ∙ c.in_err-second.was))

pub returns-then-mine-eq0 : goal.returns-then-mine-eq0
returns-then-mine-eq0 c =
    let a = c.args in
    sym
    (fits-first (state_of a.b a.text0.now a.text1.now a.history.now) a.mine (omega arith)
    (sym c.zero_from.ensures ∙ c.if-not-zero_from.false) _ _
    (sym c.bench_fitted.ensures ∙ c.in_ok-first.was)
    (sym c.bench_fitted-2.ensures ∙ c.in_ok-second.was)
    c.if-mine-eq0.true)

pub returns : goal.returns
returns c =
    let a = c.args in
    sym
    (fits-second (state_of a.b a.text0.now a.text1.now a.history.now) a.mine (omega arith)
    (sym c.zero_from.ensures ∙ c.if-not-zero_from.false) _ _
    (sym c.bench_fitted.ensures ∙ c.in_ok-first.was)
    (sym c.bench_fitted-2.ensures ∙ c.in_ok-second.was)
    c.requires.3 c.if-mine-eq0.false)
