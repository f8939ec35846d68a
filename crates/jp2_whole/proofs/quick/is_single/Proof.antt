use borrow.Author.Tests.{eq-eqb, ne_eqb}
use Rattle.jp2_whole.proofs.quick.is_single.Statement.{statement}
use Rattle.jp2_whole.proofs.quick.is_single.Tie as tie

returns : tie.Need-returns-then-g0-eq6
returns c = rw (eq-eqb _ _ c.if-g0-eq6.true)

returns-2 : tie.Need-returns
returns-2 c = rw (ne_eqb _ _ c.if-g0-eq6.false)

pub is_single_spec : {M : Type 1} → statement M
is_single_spec = tie.close (tie.spec returns returns-2)
