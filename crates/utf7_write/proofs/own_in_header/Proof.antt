use mathlib.Core.Path.{◌∙◌}
use Rattle.utf7_write.proofs.Blocks.{header-bit}
use borrow.Author.Rules.{rules}
use Rattle.utf7_write.proofs.own_in_header.Statement.{statement}
use Rattle.utf7_write.proofs.own_in_header.Tie as tie

or-within-requires : tie.Need-or_within-small-requires
or-within-requires c κs = search rules

or-within-requires-2 : tie.Need-or_within-letter-requires
or-within-requires-2 c κs = search rules

or-within-requires-3 : tie.Need-or_within-digit-requires
or-within-requires-3 c κs = search rules

or-within-requires-4 : tie.Need-or_within-quote-requires
or-within-requires-4 c κs = search rules

or-within-requires-5 : tie.Need-or_within-question-requires
or-within-requires-5 c κs = search rules

or-within-requires-6 : tie.Need-or_within-space-requires
or-within-requires-6 c κs = search rules

or-within-requires-7 : tie.Need-or_within-tab-requires
or-within-requires-7 c κs = search rules

or-within-requires-8 : tie.Need-or_within-requires
or-within-requires-8 c κs = search rules

returns : tie.Need-returns
returns c =
    c.or_within.ensures
    ∙ rw (c.or_within-tab.ensures, c.or_within-space.ensures, c.or_within-question.ensures, c.or_within-quote.ensures, c.or_within-digit.ensures, c.or_within-letter.ensures, c.or_within-small.ensures) (header-bit c.args.b c.ranges.b.fits)

pub own_in_header_spec : {M : Type 1} → statement M
own_in_header_spec =
    tie.close
    (tie.spec
    or-within-requires
    or-within-requires-2
    or-within-requires-3
    or-within-requires-4
    or-within-requires-5
    or-within-requires-6
    or-within-requires-7
    or-within-requires-8
    returns)
