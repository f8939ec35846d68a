use mathlib.Core.Path.{◌∙◌}
use Rattle.utf7_write.proofs.Blocks.{body-bit}
use borrow.Author.Rules.{rules}
use Rattle.utf7_write.proofs.own_in_body.Statement.{statement}
use Rattle.utf7_write.proofs.own_in_body.Tie as tie

or-within-requires : tie.Need-or_within-low-requires
or-within-requires c κs = search rules

or-within-requires-2 : tie.Need-or_within-middle-requires
or-within-requires-2 c κs = search rules

or-within-requires-3 : tie.Need-or_within-high-requires
or-within-requires-3 c κs = search rules

or-within-requires-4 : tie.Need-or_within-tab-requires
or-within-requires-4 c κs = search rules

or-within-requires-5 : tie.Need-or_within-requires
or-within-requires-5 c κs = search rules

returns : tie.Need-returns
returns c =
    c.or_within.ensures
    ∙ rw (c.or_within-tab.ensures, c.or_within-high.ensures, c.or_within-middle.ensures, c.or_within-low.ensures) (body-bit c.args.b c.ranges.b.fits)

pub own_in_body_spec : {M : Type 1} → statement M
own_in_body_spec =
    tie.close
    (tie.spec
    or-within-requires
    or-within-requires-2
    or-within-requires-3
    or-within-requires-4
    or-within-requires-5
    returns)
