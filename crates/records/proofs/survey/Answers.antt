use Rattle.std.proofs.Common.{sym, ◌∙◌, arith}
use Rattle.records.proofs.Judging.{frame, unframed, broken-standing, other_length, broken-undone, both-led}
use Rattle.records.proofs.survey.Goals as goal

pub returns-then-not-within : goal.returns-then-not-within
returns-then-not-within c =
    let a = c.args in
    sym (unframed a.page a.text.now a.history.now (sym c.within.ensures ∙ c.if-not-within.true))

pub walk_marked-requires : goal.walk_marked-requires
walk_marked-requires c =
    let a = c.args in
    let f = frame a.page a.text.now a.history.now (sym c.within.ensures ∙ c.if-not-within.false) in
    omega arith

pub returns-in_err-reached : goal.returns-in_err-reached
returns-in_err-reached c =
    let a = c.args in
    c.from_residual.ensures
    ∙ sym (broken-standing a.page a.text.now a.history.now (sym c.within.ensures ∙ c.if-not-within.false)
    c.walk_marked.ensures c.in_err-reached.was)

pub returns-then-reached-page : goal.returns-then-reached-page
returns-then-reached-page c =
    let a = c.args in
    sym (other_length a.page a.text.now a.history.now (sym c.within.ensures ∙ c.if-not-within.false)
    c.walk_marked.ensures c.in_ok-reached.was c.if-reached-page.true)

pub walk_marked-requires-2 : goal.walk_marked-requires-2
walk_marked-requires-2 c =
    let a = c.args in
    let f = frame a.page a.text.now a.history.now (sym c.within.ensures ∙ c.if-not-within.false) in
    omega arith

pub returns-in_err-walk_marked : goal.returns-in_err-walk_marked
returns-in_err-walk_marked c =
    let a = c.args in
    c.from_residual-in_err-walk_marked.ensures
    ∙ sym (broken-undone a.page a.text.now a.history.now (sym c.within.ensures ∙ c.if-not-within.false)
    c.walk_marked-2.ensures c.in_err-walk_marked.was)

pub returns : goal.returns
returns c =
    let a = c.args in
    let q = c.in_ok-walk_marked.field-0 in
    sym (both-led a.page a.text.now a.history.now (sym c.within.ensures ∙ c.if-not-within.false) {m = q.0} {k = q.1}
    c.walk_marked.ensures c.in_ok-reached.was c.if-reached-page.false c.walk_marked-2.ensures c.in_ok-walk_marked.was)
