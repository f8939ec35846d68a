use borrow.Author.Tests.{eq-eqb, ne_eqb}
use borrow.Author.Rules.{rules}
use Rattle.page_keep.proofs.opened.belongs.Statement.{statement}
use Rattle.page_keep.proofs.opened.belongs.Tie as tie

format-requires : tie.Need-format-requires
format-requires c κs = search rules

reads-as-requires : tie.Need-reads_as-requires
reads-as-requires c κs = search rules

returns : tie.Need-returns-then-page-eq0
returns c =
    let a = c.args in
    let if1' = c.if-page-eq0 in
    let format' = c.format in
    let reads-as' = c.reads_as in
    rw (eq-eqb a.page.done 0 if1'.true, ← format'.ensures) reads-as'.ensures

has-cells-requires : tie.Need-has_cells-requires
has-cells-requires c κs = search rules

returns-2 : tie.Need-returns
returns-2 c =
    let a = c.args in
    let if1' = c.if-page-eq0 in
    let has-cells' = c.has_cells in
    rw (ne_eqb a.page.done 0 if1'.false) has-cells'.ensures

pub belongs_spec : {M : Type 1} → statement M
belongs_spec =
    tie.close (tie.spec format-requires reads-as-requires returns has-cells-requires returns-2)
