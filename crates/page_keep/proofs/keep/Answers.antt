use Rattle.std.proofs.Common.{sym, ap, ◌∙◌, length}
use native.Mathlib.Omega.{arith}
use lib.Seq.{length-take-le}
use borrow.Author.Tests.{ltb-false}
use Rattle.std.specs.Prelude.{Err}
use Rattle.std.proofs.lemmas.Result.{err_from_is_err_and}
use Rattle.answer.specs.Answer.{limit}
use Rattle.ledger.specs.Page.{State, state_of}
use Rattle.records.proofs.Found.{fit}
use Rattle.page_keep.proofs.Keeping.{keep-long, keep-unfit, keep-fit}
use Rattle.page_keep.proofs.keep.Goals as goal

pub returns-then-over_limit : goal.returns-then-over_limit
returns-then-over_limit c =
    let a = c.args in
    keep-long (state_of a.page a.text.now a.history.now) a.arrived.now a.out.now c.too_long.result
    (sym c.over_limit.ensures ∙ c.if-over_limit.true) c.too_long.ensures

pub returns-in_err-judge : goal.returns-in_err-judge
returns-in_err-judge c =
    let a = c.args in
    let p = err_from_is_err_and c.from_residual.result c.from_residual.ensures.1 in
    rw p.1
    (keep-unfit (state_of a.page a.text.now a.history.now) a.arrived.now a.out.now
    (sym c.over_limit.ensures ∙ c.if-over_limit.false) c.judge.ensures (c.in_err-judge.was ∙ sym (ap Err p.2)))

pub slice_bounds-keep_sound-end : goal.slice_bounds-keep_sound-end
slice_bounds-keep_sound-end c =
    let a = c.args in
    let s : State = state_of a.page a.text.now a.history.now in
    let f = fit s c.judge.ensures c.in_ok-judge.was in
    sym (length-take-le a.page.length a.text.now f.frame.fits)

pub slice_bounds-keep_sound-end-2 : goal.slice_bounds-keep_sound-end-2
slice_bounds-keep_sound-end-2 c =
    let a = c.args in
    let s : State = state_of a.page a.text.now a.history.now in
    let f = fit s c.judge.ensures c.in_ok-judge.was in
    sym (length-take-le a.page.used a.history.now f.frame.uses)

pub keep_sound-requires : goal.keep_sound-requires
keep_sound-requires c =
    let a = c.args in
    let s : State = state_of a.page a.text.now a.history.now in
    let f = fit s c.judge.ensures c.in_ok-judge.was in (
      ltb-false limit (length a.arrived.now) (sym c.over_limit.ensures ∙ c.if-over_limit.false),
      omega (arith, length-take-le a.page.length a.text.now f.frame.fits, f.frame.fits, f.short-text),
      omega (arith, length-take-le a.page.used a.history.now f.frame.uses, f.frame.uses, f.short-history),
    )

pub returns : goal.returns
returns c =
    let a = c.args in
    let s : State = state_of a.page a.text.now a.history.now in
    c.keep_sound.ensures
    ∙ sym (keep-fit s a.arrived.now a.out.now (sym c.over_limit.ensures ∙ c.if-over_limit.false)
    (fit s c.judge.ensures c.in_ok-judge.was))
