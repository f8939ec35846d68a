use borrow.Author.Tests.{eq-eqb, ne_eqb}
use Rattle.jp2.specs.Rule.{single_does}
use borrow.Author.Rules.{rules}
use Rattle.jp2_read.proofs.single.Statement.{statement}
use Rattle.jp2_read.proofs.single.Tie as tie

returns : tie.Need-returns-then-b-eq14
unfolding single_does
returns c = rw (eq-eqb _ _ c.if-b-eq14.true)

returns-2 : tie.Need-returns-then-b-eq15
unfolding single_does
returns-2 c = rw (ne_eqb _ _ c.if-b-eq14.false, eq-eqb _ _ c.if-b-eq15.true)

carried-requires : tie.Need-carried-number-requires
carried-requires c κs = search rules

uncleared-requires : tie.Need-uncleared-left-requires
uncleared-requires c κs = search rules

after-single-requires : tie.Need-after_single-phase-requires
after-single-requires c κs = search rules

cell-of-requires : tie.Need-cell_of-requires
cell-of-requires c κs = search rules

returns-3 : tie.Need-returns
unfolding single_does
returns-3 c =
    let a = c in
    let k = a in
    rw (ne_eqb _ _ k.if-b-eq14.false, ne_eqb _ _ k.if-b-eq15.false, ← a.carried-number.ensures, ← a.uncleared-left.ensures, ← a.after_single-phase.ensures, c.cell_of.ensures)

pub single_spec : {M : Type 1} → statement M
single_spec =
    tie.close
    (tie.spec
    returns
    returns-2
    carried-requires
    uncleared-requires
    after-single-requires
    cell-of-requires
    returns-3)
