use borrow.Author.Tests.{eq-eqb, ne_eqb}
use borrow.Author.Rules.{rules}
use Rattle.jp2_read.proofs.designate.Statement.{statement}
use Rattle.jp2_read.proofs.designate.Tie as tie

row-at-requires : tie.Need-row_at-d-requires
row-at-requires c κs = search rules

returns : tie.Need-returns-then-d-eq2
returns c = rw (← c.row_at-d.ensures, eq-eqb _ _ c.if-d-eq2.true)

returns-2 : tie.Need-returns
returns-2 c = rw (← c.row_at-d.ensures, ne_eqb _ _ c.if-d-eq2.false)

pub designate_spec : {M : Type 1} → statement M
designate_spec = tie.close (tie.spec row-at-requires returns returns-2)
