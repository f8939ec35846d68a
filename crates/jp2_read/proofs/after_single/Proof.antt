use borrow.Author.Tests.{eq-eqb, ne_eqb}
use Rattle.jp2_read.proofs.after_single.Statement.{statement}
use Rattle.jp2_read.proofs.after_single.Tie as tie

returns : tie.Need-returns-then-b-eq13
returns c = rw (eq-eqb _ _ c.if-b-eq13.true)

returns-2 : tie.Need-returns
returns-2 c = rw (ne_eqb _ _ c.if-b-eq13.false)

pub after_single_spec : {M : Type 1} → statement M
after_single_spec = tie.close (tie.spec returns returns-2)
