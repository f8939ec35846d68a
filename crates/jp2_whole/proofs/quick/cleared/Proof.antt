use Prim.Native.Nat.{◌+◌}
use native.Mathlib.Omega.{arith}
use lib.ListN.{get_or-eq_default}
use borrow.Author.Rules.{rules}
use borrow.Author.Tests.{eq-eqb, ne_eqb}
use Rattle.jp2_whole.proofs.quick.cleared.Statement.{statement}
use Rattle.jp2_whole.proofs.quick.cleared.Tie as tie

shared-slice-read-if1 : tie.Need-bounds-text-at
shared-slice-read-if1 c = search rules

returns : tie.Need-returns-then-text-at-ne13
returns c = rw (ne_eqb _ _ c.if-text-at-ne13.true)

add-if2 : tie.Need-overflow_add-at
add-if2 c = search rules

returns-2 : tie.Need-returns-then-text-at
returns-2 c = rw (eq-eqb _ _ c.if-text-at-ne13.false, get_or-eq_default c.args.text.now 0 {n = c.args.at + 1} (omega (arith, c.if-text-at.true)))

add-if3 : tie.Need-overflow_add-at-2
add-if3 c = search rules

shared-slice-read-if3 : tie.Need-bounds-text-at-2
shared-slice-read-if3 c = search rules

returns-3 : tie.Need-returns-then-text-at-eq10
returns-3 c = rw (eq-eqb _ _ c.if-text-at-ne13.false, eq-eqb _ _ c.if-text-at-eq10.true)

returns-4 : tie.Need-returns
returns-4 c = rw (eq-eqb _ _ c.if-text-at-ne13.false, ne_eqb _ _ c.if-text-at-eq10.false)

pub cleared_spec : {M : Type 1} → statement M
cleared_spec =
    tie.close
    (tie.spec
    shared-slice-read-if1
    returns
    add-if2
    returns-2
    add-if3
    shared-slice-read-if3
    returns-3
    returns-4)
