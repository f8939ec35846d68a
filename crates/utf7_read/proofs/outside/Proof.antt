use mathlib.Core.Path.{◌∙◌, sym}
use borrow.Author.Rules.{rules}
use borrow.Author.Tests.{eq-eqb, ne_eqb}
use Rattle.utf7.specs.Rule.{outside_does}
use Rattle.utf7_read.proofs.outside.Statement.{statement}
use Rattle.utf7_read.proofs.outside.Tie as tie

returns : tie.Need-returns-then-b-eq43
unfolding outside_does
returns c = record { so = simp (eq-eqb _ _ c.if-b-eq43.true); settled = tt }

is-direct-requires : tie.Need-is_direct-requires
is-direct-requires c κs = search rules

returns-2 : tie.Need-returns-then-is_direct
unfolding outside_does
returns-2 c = record { so = simp (ne_eqb _ _ c.if-b-eq43.false, sym c.is_direct.ensures ∙ c.if-is_direct.true); settled = tt }

returns-3 : tie.Need-returns
unfolding outside_does
returns-3 c = record { so = simp (ne_eqb _ _ c.if-b-eq43.false, sym c.is_direct.ensures ∙ c.if-is_direct.false); settled = tt }

pub outside_spec : {M : Type 1} → statement M
outside_spec = tie.close (tie.spec returns is-direct-requires returns-2 returns-3)
