use borrow.Author.Tests.{eq-eqb, ne_eqb}
use Rattle.page_read.proofs.lines.kind_of.Statement.{statement}
use Rattle.page_read.proofs.lines.kind_of.Tie as tie

returns : tie.Need-returns-then-value-eq0
returns c =
    let a = c.args in
    rw (eq-eqb a.value 0 c.if-value-eq0.true)

returns-2 : tie.Need-returns-then-value-eq1
returns-2 c =
    let a = c.args in
    rw (ne_eqb a.value 0 c.if-value-eq0.false, eq-eqb a.value 1 c.if-value-eq1.true)

returns-3 : tie.Need-returns
returns-3 c =
    let a = c.args in
    rw (ne_eqb a.value 0 c.if-value-eq0.false, ne_eqb a.value 1 c.if-value-eq1.false)

pub kind_of_spec : {M : Type 1} → statement M
kind_of_spec = tie.close (tie.spec returns returns-2 returns-3)
