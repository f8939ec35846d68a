use borrow.Author.Tests.{eq-eqb, ne_eqb}
use Rattle.page_read.proofs.opened.belongs.Statement.{statement}
use Rattle.page_read.proofs.opened.belongs.Tie as tie

same-text-requires : tie.Need-same_text-requires
same-text-requires c κs =
    let pre' = c.requires in
    (pre'.arrived, pre'.text)

returns : tie.Need-returns-then-page-eq0
returns c =
    let a = c.args in
    let same-text' = c.same_text in
    rw (eq-eqb a.plan.page.done 0 c.if-page-eq0.true) same-text'.ensures

has-cells-requires : tie.Need-has_cells-requires
has-cells-requires c κs =
    let pre' = c.requires in
    pre'.arrived

returns-2 : tie.Need-returns
returns-2 c =
    let a = c.args in
    let has-cells' = c.has_cells in
    rw (ne_eqb a.plan.page.done 0 c.if-page-eq0.false) has-cells'.ensures

pub belongs_spec : {M : Type 1} → statement M
belongs_spec = tie.close (tie.spec same-text-requires returns has-cells-requires returns-2)
