use mathlib.Core.Path.{sym, ◌∙◌}
use borrow.Author.Rules.{rules}
use Rattle.jp2.specs.Rule.{first_does}
use Rattle.jp2_read.proofs.first.Statement.{statement}
use Rattle.jp2_read.proofs.first.Tie as tie

is-graphic-requires : tie.Need-is_graphic-requires
is-graphic-requires c κs = search rules

returns : tie.Need-returns-then-is_graphic
unfolding first_does
returns c = rw (sym c.is_graphic.ensures ∙ c.if-is_graphic.true)

returns-2 : tie.Need-returns
unfolding first_does
returns-2 c = rw (sym c.is_graphic.ensures ∙ c.if-is_graphic.false)

pub first_spec : {M : Type 1} → statement M
first_spec = tie.close (tie.spec is-graphic-requires returns returns-2)
