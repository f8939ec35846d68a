use mathlib.Core.Path.{sym, ◌∙◌}
use borrow.Author.Rules.{rules}
use borrow.Author.Tests.{eq-eqb, ne_eqb}
use Rattle.utf7.specs.Rule.{end_does}
use Rattle.utf7_read.proofs.close.Statement.{statement}
use Rattle.utf7_read.proofs.close.Tie as tie

may-end-requires : tie.Need-may_end-requires
may-end-requires c κs = search rules

returns : tie.Need-returns-then-b-eq45
unfolding end_does
returns c = record { so = simp (sym c.may_end.ensures ∙ c.if-may_end.true, eq-eqb _ _ c.if-b-eq45.true); settled = tt }

outside-requires : tie.Need-outside-requires
outside-requires c κs = search rules

returns-2 : tie.Need-returns-then-may_end
unfolding end_does
returns-2 c = simp (sym c.may_end.ensures ∙ c.if-may_end.true, ne_eqb _ _ c.if-b-eq45.false) c.outside.ensures

returns-3 : tie.Need-returns
unfolding end_does
returns-3 c = record { so = simp (sym c.may_end.ensures ∙ c.if-may_end.false); settled = tt }

pub close_spec : {M : Type 1} → statement M
close_spec = tie.close (tie.spec may-end-requires returns outside-requires returns-2 returns-3)
