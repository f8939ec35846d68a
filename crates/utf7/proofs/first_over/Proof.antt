use Prim.Native.Nat.{◌+◌, ◌-◌, ◌≤◌}
use mathlib.Core.Path.{◌≡◌}
use native.Mathlib.Omega.{arith}
use lib.ListN.{length, drop}
use Rattle.utf7.specs.Writing.{first_over}
use Rattle.utf7.proofs.Over.{over-block}
use borrow.Author.Rules.{rules}
use Rattle.utf7.proofs.first_over.Statement.{statement}
use Rattle.utf7.proofs.first_over.Tie as tie

abbrev invariant-loop : tie.invariant-loop-i
invariant-loop cells i₀ i = (i ≤ length cells) × (i + first_over (drop i cells) ≡ first_over cells)

abbrev decreases-loop : tie.decreases-loop-i
decreases-loop cells i₀ i = length cells - i

loop-holds : tie.Need-loop-i-init invariant-loop decreases-loop
loop-holds c = (omega arith, omega arith)

sub-loop : tie.Need-overflow_sub-cells invariant-loop decreases-loop
sub-loop c = search rules

units-ahead-requires : tie.Need-units_ahead-requires invariant-loop decreases-loop
units-ahead-requires c κs = omega (arith, c.loop-i-test.true)

first-over-from-requires : tie.Need-first_over_from-requires invariant-loop decreases-loop
first-over-from-requires c κs = c.loop-i.invariant

returns : tie.Need-returns-then-not-units_ahead invariant-loop decreases-loop
returns c = c.first_over_from.ensures

add-i : tie.Need-overflow_add-i invariant-loop decreases-loop
add-i c = search rules

loop-less : tie.Need-loop-i-smaller invariant-loop decreases-loop
loop-less c = search rules

loop-again : tie.Need-loop-i-preserved invariant-loop decreases-loop
loop-again c =
    let u = c.before in
    let l = u.before.before in
    let h : l.loop-i.i + 128 ≤ length l.args.cells.now = omega (arith, u.loop-i-test.true) in
    (h, omega (arith, l.loop-i.invariant.1, over-block l.args.cells.now 128 l.loop-i.i h (u.units_ahead.ensures c.if-not-units_ahead.false)))

first-over-from-requires-2 : tie.Need-first_over_from-requires-2 invariant-loop decreases-loop
first-over-from-requires-2 c κs = c.loop-i.invariant

returns-2 : tie.Need-returns invariant-loop decreases-loop
returns-2 c = c.first_over_from-2.ensures

pub first_over_spec : {M : Type 1} → statement M
first_over_spec =
    tie.close
    (tie.spec
    invariant-loop
    decreases-loop
    loop-holds
    sub-loop
    units-ahead-requires
    first-over-from-requires
    returns
    add-i
    loop-less
    loop-again
    first-over-from-requires-2
    returns-2)
