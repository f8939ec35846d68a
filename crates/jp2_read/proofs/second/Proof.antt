use mathlib.Core.Path.{sym, ◌∙◌}
use Rattle.jp2.specs.Rule.{second_does}
use borrow.Author.Rules.{rules}
use Rattle.jp2_read.proofs.second.Statement.{statement}
use Rattle.jp2_read.proofs.second.Tie as tie

is-graphic-requires : tie.Need-is_graphic-requires
is-graphic-requires c κs = search rules

pair-of-requires : tie.Need-pair_of-requires
pair-of-requires c κs = search rules

returns : tie.Need-returns-then-is_graphic
unfolding second_does
returns c = rw (sym c.is_graphic.ensures ∙ c.if-is_graphic.true, c.pair_of.ensures)

returns-2 : tie.Need-returns
unfolding second_does
returns-2 c = rw (sym c.is_graphic.ensures ∙ c.if-is_graphic.false)

pub second_spec : {M : Type 1} → statement M
second_spec = tie.close (tie.spec is-graphic-requires pair-of-requires returns returns-2)
