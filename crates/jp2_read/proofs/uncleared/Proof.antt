use borrow.Author.Tests.{eq-eqb, ne_eqb}
use Rattle.jp2_read.proofs.uncleared.Statement.{statement}
use Rattle.jp2_read.proofs.uncleared.Tie as tie

returns : tie.Need-returns-then-b-eq10
returns c = rw (c.if-cr.true, eq-eqb _ _ c.if-b-eq10.true)

returns-2 : tie.Need-returns-else-b-eq10
returns-2 c = rw (c.if-cr.true, ne_eqb _ _ c.if-b-eq10.false)

returns-3 : tie.Need-returns-else-cr
returns-3 c = rw c.if-cr.false

pub uncleared_spec : {M : Type 1} → statement M
uncleared_spec = tie.close (tie.spec returns returns-2 returns-3)
