use Rattle.std.proofs.Common.{sym, ◌∙◌, take}
use Rattle.bench_records.proofs.Fitting.{text-off, pass-broken, pass-off, pass_fits}
use Rattle.bench_records.proofs.bench_fitted.Goals as goal

pub returns-then-not-text_fits : goal.returns-then-not-text_fits
returns-then-not-text_fits c =
    let a = c.args in
    sym
    (text-off a.b a.text.now a.used a.mine (take a.used a.history.now)
    (sym c.text_fits.ensures ∙ c.if-not-text_fits.true))

pub returns-in_err-p : goal.returns-in_err-p
returns-in_err-p c =
    let a = c.args in
    c.from_residual.ensures
    ∙ sym
    (pass-broken a.b a.text.now a.used a.mine (take a.used a.history.now)
    (sym c.text_fits.ensures ∙ c.if-not-text_fits.false) c.pass_over.result c.pass_over.ensures c.in_err-p.was)

pub returns-then-not-leads_as : goal.returns-then-not-leads_as
returns-then-not-leads_as c =
    let a = c.args in
    sym
    (pass-off a.b a.text.now a.used a.mine (take a.used a.history.now)
    (sym c.text_fits.ensures ∙ c.if-not-text_fits.false) c.pass_over.result c.pass_over.ensures _ c.in_ok-p.was
    (sym c.leads_as.ensures ∙ c.if-not-leads_as.true))

pub returns : goal.returns
returns c =
    let a = c.args in
    sym
    (pass_fits a.b a.text.now a.used a.mine (take a.used a.history.now)
    (sym c.text_fits.ensures ∙ c.if-not-text_fits.false) c.pass_over.result c.pass_over.ensures _ c.in_ok-p.was
    (sym c.leads_as.ensures ∙ c.if-not-leads_as.false))
