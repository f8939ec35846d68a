use borrow.Author.Tests.{eq-eqb, ne_eqb}
use Rattle.jp2.specs.Writing.{designating}
use Rattle.jp2_write.proofs.Cells.{ascii-row}
use Rattle.jp2_write.proofs.return_size.Statement.{statement}
use Rattle.jp2_write.proofs.return_size.Tie as tie

returns : tie.Need-returns-then-g0-eq6
unfolding designating
returns c = rw (eq-eqb _ _ c.if-g0-eq6.true)

designation-size-requires : tie.Need-designation_size-requires
designation-size-requires c κs = ascii-row

returns-2 : tie.Need-returns
unfolding designating
returns-2 c = rw (ne_eqb _ _ c.if-g0-eq6.false) c.designation_size.ensures

pub return_size_spec : {M : Type 1} → statement M
return_size_spec = tie.close (tie.spec returns designation-size-requires returns-2)
