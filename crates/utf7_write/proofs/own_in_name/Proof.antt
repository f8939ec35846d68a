use mathlib.Core.Path.{◌∙◌}
use Rattle.utf7_write.proofs.Blocks.{name-bit}
use borrow.Author.Rules.{rules}
use Rattle.utf7_write.proofs.own_in_name.Statement.{statement}
use Rattle.utf7_write.proofs.own_in_name.Tie as tie

or-within-requires : tie.Need-or_within-low-requires
or-within-requires c κs = search rules

or-within-requires-2 : tie.Need-or_within-requires
or-within-requires-2 c κs = search rules

returns : tie.Need-returns
returns c =
    c.or_within.ensures
    ∙ rw c.or_within-low.ensures (name-bit c.args.b c.ranges.b.fits)

pub own_in_name_spec : {M : Type 1} → statement M
own_in_name_spec = tie.close (tie.spec or-within-requires or-within-requires-2 returns)
