use mathlib.Core.Path.{sym, ◌∙◌}
use borrow.Author.Rules.{rules}
use Rattle.jp2_whole.proofs.quick.single_cell.Statement.{statement}
use Rattle.jp2_whole.proofs.quick.single_cell.Tie as tie

is-graphic-requires : tie.Need-is_graphic-requires
is-graphic-requires c κs = search rules

mul-result : tie.Need-overflow_mul-result
mul-result c = search rules

add-result : tie.Need-overflow_add-result
add-result c = search rules

returns : tie.Need-returns-then-is_graphic
returns c = rw (sym c.is_graphic.ensures ∙ c.if-is_graphic.true)

add-result-2 : tie.Need-overflow_add-result-2
add-result-2 c = search rules

returns-2 : tie.Need-returns
returns-2 c = rw (sym c.is_graphic.ensures ∙ c.if-is_graphic.false)

pub single_cell_spec : {M : Type 1} → statement M
single_cell_spec = tie.close (tie.spec is-graphic-requires mul-result add-result returns add-result-2 returns-2)
