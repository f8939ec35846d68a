use borrow.Author.Tests.{eq-eqb, ne_eqb}
use borrow.Author.Rules.{rules}
use Rattle.jp2.specs.Rule.{between_does}
use Rattle.jp2_read.proofs.between.Statement.{statement}
use Rattle.jp2_read.proofs.between.Tie as tie

returns : tie.Need-returns-then-b-eq27
unfolding between_does
returns c = rw (eq-eqb _ _ c.if-b-eq27.true)

single-requires : tie.Need-single-requires
single-requires c κs = search rules

returns-2 : tie.Need-returns-then-g0-eq6
unfolding between_does
returns-2 c = rw (ne_eqb _ _ c.if-b-eq27.false, eq-eqb _ _ c.if-g0-eq6.true) c.single.ensures

single-requires-2 : tie.Need-single-requires-then-g0-eq14
single-requires-2 c κs = search rules

returns-3 : tie.Need-returns-then-g0-eq14
unfolding between_does
returns-3 c = rw (ne_eqb _ _ c.if-b-eq27.false, ne_eqb _ _ c.if-g0-eq6.false, eq-eqb _ _ c.if-g0-eq14.true) c.single-then-g0-eq14.ensures

first-requires : tie.Need-first-requires
first-requires c κs = search rules

returns-4 : tie.Need-returns
unfolding between_does
returns-4 c = rw (ne_eqb _ _ c.if-b-eq27.false, ne_eqb _ _ c.if-g0-eq6.false, ne_eqb _ _ c.if-g0-eq14.false) c.first.ensures

pub between_spec : {M : Type 1} → statement M
between_spec =
    tie.close
    (tie.spec
    returns
    single-requires
    returns-2
    single-requires-2
    returns-3
    first-requires
    returns-4)
