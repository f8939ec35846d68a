use borrow.Author.Tests.{eq-eqb, ne_eqb}
use Rattle.jp2_read.proofs.finish_plain.Statement.{statement}
use Rattle.jp2_read.proofs.finish_plain.Tie as tie

returns : tie.Need-returns-then-g0-eq6
returns c = rw (eq-eqb _ _ c.if-g0-eq6.true)

returns-2 : tie.Need-returns
returns-2 c = rw (ne_eqb _ _ c.if-g0-eq6.false)

pub finish_plain_spec : {M : Type 1} → statement M
finish_plain_spec = tie.close (tie.spec returns returns-2)
