use borrow.Author.Tests.{ne_eqb, eq-eqb}
use Rattle.jp2.specs.Rule.{ends_in}
use Rattle.jp2_plain.proofs.ends.Statement.{statement}
use Rattle.jp2_plain.proofs.ends.Tie as tie

returns : tie.Need-returns-then-g0-eq6
unfolding ends_in
returns c = rw (eq-eqb _ 6 c.if-g0-eq6.true)

returns-2 : tie.Need-returns
unfolding ends_in
returns-2 c = rw (ne_eqb _ 6 c.if-g0-eq6.false)

pub ends_spec : {M : Type 1} → statement M
ends_spec = tie.close (tie.spec returns returns-2)
