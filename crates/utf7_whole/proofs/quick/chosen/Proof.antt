use borrow.Author.Tests.{eq-eqb, ne_eqb}
use Rattle.utf7_whole.proofs.quick.chosen.Statement.{statement}
use Rattle.utf7_whole.proofs.quick.chosen.Tie as tie

returns : tie.Need-returns-then-b-sign
returns c = rw (eq-eqb _ _ c.if-b-sign.true)

returns-2 : tie.Need-returns
returns-2 c = rw (ne_eqb _ _ c.if-b-sign.false)

pub chosen_spec : {M : Type 1} → statement M
chosen_spec = tie.close (tie.spec returns returns-2)
