use Prim.Native.Nat.{◌-◌, ◌^◌, ◌<◌, ◌≤◌}
use mathlib.Core.Path.{◌≡◌}
use native.Mathlib.Omega.{arith}
use borrow.Author.Tests.{leb-true}
use Rattle.utf7.specs.Writing.{IsUnit}
use Rattle.answer.specs.Ahead.{Ahead}
use Rattle.answer.proofs.Ahead.{ahead_none}
use Rattle.utf7.proofs.Over.{joined-more}
use borrow.Author.Rules.{rules}
use Rattle.utf7.proofs.units_ahead.Statement.{statement}
use Rattle.utf7.proofs.units_ahead.Tie as tie

abbrev invariant-loop : tie.invariant-loop-k
invariant-loop cells i all₀ k₀ all k = (all < 2 ^ 16 → Ahead IsUnit cells i k) × (k ≤ 128)

abbrev decreases-loop : tie.decreases-loop-k
decreases-loop cells i all₀ k₀ all k = 128 - k

loop-holds : tie.Need-loop-k-init invariant-loop decreases-loop
loop-holds c = (λ _. ahead_none IsUnit c.args.cells.now c.args.i, omega arith)

add-all : tie.Need-overflow_add-all invariant-loop decreases-loop
add-all c = search rules

mul-all : tie.Need-offset_bounds-cells-i invariant-loop decreases-loop
mul-all c = search rules

shared-slice-read-all : tie.Need-bounds-cells-i invariant-loop decreases-loop
shared-slice-read-all c = search rules

add-k : tie.Need-overflow_step-k invariant-loop decreases-loop
add-k c = search rules

loop-less : tie.Need-loop-k-smaller invariant-loop decreases-loop
loop-less c = search rules

loop-again : tie.Need-loop-k-preserved invariant-loop decreases-loop
loop-again c =
    let l = c.before.before in
    let a = l.args in
    (joined-more a.cells.now a.i l.loop-k.k l.loop-k.all l.loop-k.invariant.0, omega arith)

returns : tie.Need-returns invariant-loop decreases-loop
returns c =
    let l = c.before in
    let e : l.loop-k.k ≡ 128 = omega (arith, c.loop-k-test.false) in
    λ q. rw e at (l.loop-k.invariant.0 (omega (arith, leb-true)))

pub units_ahead_spec : {M : Type 1} → statement M
units_ahead_spec =
    tie.close
    (tie.spec
    invariant-loop
    decreases-loop
    loop-holds
    add-all
    mul-all
    shared-slice-read-all
    add-k
    loop-less
    loop-again
    returns)
