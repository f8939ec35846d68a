use mathlib.Core.Path.{refl}
use mathlib.Core.List.{[]}
use borrow.Author.Rules.{rules}
use Rattle.same_lines.specs.Told.{laid}
use Rattle.same_lines.proofs.status.Statement.{statement}
use Rattle.same_lines.proofs.status.Tie as tie

with-line-requires : tie.Need-with_line-requires
with-line-requires c κs = search rules

returns : tie.Need-returns
unfolding laid
returns c = (c.with_line.ensures.0, c.with_line.ensures.1 [] refl)

pub status_spec : {M : Type 1} → statement M
status_spec = tie.close (tie.spec with-line-requires returns)
