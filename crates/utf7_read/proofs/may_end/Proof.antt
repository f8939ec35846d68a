use borrow.Author.Tests.{eq-eqb, ne_eqb}
use Rattle.utf7_read.proofs.Moves.{may-end}
use Rattle.utf7_read.proofs.may_end.Statement.{statement}
use Rattle.utf7_read.proofs.may_end.Tie as tie

returns : tie.Need-returns-then-v-ne0
returns c = rw (may-end _ _ c.requires, ne_eqb _ _ c.if-v-ne0.true)

returns-2 : tie.Need-returns
returns-2 c = rw (may-end _ _ c.requires, eq-eqb _ _ c.if-v-ne0.false)

pub may_end_spec : {M : Type 1} → statement M
may_end_spec = tie.close (tie.spec returns returns-2)
