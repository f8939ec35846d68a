use mathlib.Core.Path.{sym, ◌∙◌}
use borrow.Author.Rules.{rules}
use Rattle.comparer.proofs.Judging.{told-cramped, told-other}
use Rattle.comparer.proofs.answer_of.Statement.{statement}
use Rattle.comparer.proofs.answer_of.Tie as tie

returns : tie.Need-returns-then-number-eq9
returns c =
    let u = c in
    let r = u in
    let a = r.args in
    rw c.place.ensures
    (told-cramped a.format a.text.now r.read-found.result _ _ r.read-found.ensures
    (sym u.number.ensures ∙ c.if-number-eq9.true))

returns-2 : tie.Need-returns
returns-2 c =
    let u = c in
    let r = u in
    let a = r.args in
    told-other a.format a.text.now r.read-found.result _ _ r.read-found.ensures
    (λ e. c.if-number-eq9.false (u.number.ensures ∙ e))

pub answer_of_spec : {M : Type 1} → statement M
answer_of_spec =
    tie.close
    (tie.spec
    (λ c. search rules)
    (λ c κs. search rules)
    (λ c κs. search rules)
    (λ c κs. search rules)
    returns
    returns-2)
