use mathlib.Core.Bool.{and-false}
use borrow.Author.Rules.{rules}
use borrow.Author.Tests.{eq-eqb, ne_eqb}
use Rattle.jp2_write.specs.Pieces.{after_cr, g2_after}
use Rattle.jp2_write.proofs.Cells.{after-cr}
use Rattle.jp2_write.proofs.g2_after.Statement.{statement}
use Rattle.jp2_write.proofs.g2_after.Tie as tie

mul-if1 : tie.Need-offset_bounds-cells-i
mul-if1 c = search rules

shared-slice-read-if1 : tie.Need-bounds-cells-i
shared-slice-read-if1 c = search rules

returns : tie.Need-returns-then-cells-i-ne-LF
unfolding g2_after
returns c =
    let a = c.args in
    rw (ne_eqb _ _ c.if-cells-i-ne-LF.true, and-false (after_cr a.cells.now a.i))

returns-2 : tie.Need-returns-then-i-eq0
unfolding g2_after
returns-2 c = rw c.if-i-eq0.true

sub-if3 : tie.Need-overflow_sub-i
sub-if3 c = search rules

mul-if3 : tie.Need-offset_bounds-cells-i-2
mul-if3 c = search rules

shared-slice-read-if3 : tie.Need-bounds-cells-i-2
shared-slice-read-if3 c = search rules

returns-3 : tie.Need-returns-then-cells-i-eq-CR
unfolding g2_after
returns-3 c =
    let z = c.before.before in
    rw (after-cr _ _ z.if-i-eq0.false, eq-eqb _ _ c.if-cells-i-eq-CR.true, eq-eqb _ _ z.if-cells-i-ne-LF.false)

returns-4 : tie.Need-returns
unfolding g2_after
returns-4 c =
    let z = c.before.before in
    rw (after-cr _ _ z.if-i-eq0.false, ne_eqb _ _ c.if-cells-i-eq-CR.false)

pub g2_after_spec : {M : Type 1} → statement M
g2_after_spec =
    tie.close
    (tie.spec
    mul-if1
    shared-slice-read-if1
    returns
    returns-2
    sub-if3
    mul-if3
    shared-slice-read-if3
    returns-3
    returns-4)
