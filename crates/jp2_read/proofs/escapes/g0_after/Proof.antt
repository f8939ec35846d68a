use borrow.Author.Rules.{rules}
use borrow.Author.Tests.{eq-eqb, ne_eqb}
use Rattle.jp2_read.proofs.escapes.g0_after.Statement.{statement}
use Rattle.jp2_read.proofs.escapes.g0_after.Tie as tie

returns : tie.Need-returns-then-d-eq2
returns c = rw (eq-eqb _ _ c.if-d-eq2.true)

cast-result : tie.Need-overflow_cast-result
cast-result c = search rules

returns-2 : tie.Need-returns
returns-2 c = rw (ne_eqb _ _ c.if-d-eq2.false)

pub g0_after_spec : {M : Type 1} → statement M
g0_after_spec = tie.close (tie.spec returns cast-result returns-2)
