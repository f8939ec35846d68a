use mathlib.Core.Path.{sym, ◌∙◌}
use borrow.Author.Rules.{rules}
use Rattle.jp2_read.proofs.carried.Statement.{statement}
use Rattle.jp2_read.proofs.carried.Tie as tie

is-graphic-requires : tie.Need-is_graphic-requires
is-graphic-requires c κs = search rules

returns : tie.Need-returns-then-is_graphic
returns c = rw (sym c.is_graphic.ensures ∙ c.if-is_graphic.true)

returns-2 : tie.Need-returns
returns-2 c = rw (sym c.is_graphic.ensures ∙ c.if-is_graphic.false)

pub carried_spec : {M : Type 1} → statement M
carried_spec = tie.close (tie.spec is-graphic-requires returns returns-2)
