use Prim.Native.Nat.{◌+◌, ◌-◌, ◌≤◌}
use mathlib.Core.Path.{◌≡◌, refl, sym, ◌∙◌}
use native.Mathlib.Omega.{arith}
use lib.ListN.{length, drop}
use Rattle.utf7_write.specs.Stretch.{stretch_length}
use Rattle.answer.specs.Ahead.{Ahead}
use Rattle.utf7_write.specs.Ahead.{High}
use Rattle.utf7_write.proofs.Stretches.{stretch-end, stretch-here, stretch-more, stretch-block}
use borrow.Author.Rules.{rules}
use Rattle.utf7_write.proofs.stretch_end.Statement.{statement}
use Rattle.utf7_write.proofs.stretch_end.Tie as tie

abbrev invariant-loop : tie.invariant-loop-j
invariant-loop style cells from j₀ j = (j + stretch_length style (drop j cells) ≡ from + stretch_length style (drop from cells)) × (j ≤ length cells)

abbrev decreases-loop : tie.decreases-loop-j
decreases-loop style cells from j₀ j = length cells - j

loop-holds : tie.Need-loop-j-init invariant-loop decreases-loop
loop-holds c = (refl, c.requires)

-- a block of units of 128 or more
found :
    (c : tie.Then-high_ahead invariant-loop decreases-loop) → let l = c.before.before.before in
    (l.loop-j.j + 16 ≤ length l.args.cells.now) × Ahead High l.args.cells.now l.loop-j.j 16
found c = c.high_ahead.ensures c.if-high_ahead.true

high-ahead-requires : tie.Need-high_ahead-requires invariant-loop decreases-loop
high-ahead-requires c κs = c.loop-j.invariant.1

add-j : tie.Need-overflow_add-j invariant-loop decreases-loop
add-j c = let h = (found c).0 in search rules

loop-less : tie.Need-loop-j-smaller-then-high_ahead invariant-loop decreases-loop
loop-less c = let h = (found c).0 in search rules

loop-again : tie.Need-loop-j-preserved-then-high_ahead invariant-loop decreases-loop
loop-again c =
    let l = c.before.before.before in
    let a = l.args in
    let f = found c in
    (omega (arith, l.loop-j.invariant.0, stretch-block a.style a.cells.now 16 l.loop-j.j f.0 f.1), f.0)

mul-is-other : tie.Need-offset_bounds-cells-j invariant-loop decreases-loop
mul-is-other c = search rules

shared-slice-read-is-other : tie.Need-bounds-cells-j invariant-loop decreases-loop
shared-slice-read-is-other c = search rules

is-other-requires : tie.Need-is_other-requires invariant-loop decreases-loop
is-other-requires c κs = search rules

returns : tie.Need-returns-then-not-is_other invariant-loop decreases-loop
returns c =
    let t = c.before.before.before.before.before in
    let l = t.before in
    let a = l.args in
    omega (arith, l.loop-j.invariant.0, stretch-here a.style a.cells.now l.loop-j.j t.loop-j-test.true (sym c.is_other.ensures ∙ c.if-not-is_other.true))

add-j-2 : tie.Need-overflow_add-j-else-high_ahead invariant-loop decreases-loop
add-j-2 c = search rules

loop-less-2 : tie.Need-loop-j-smaller invariant-loop decreases-loop
loop-less-2 c = search rules

loop-again-2 : tie.Need-loop-j-preserved invariant-loop decreases-loop
loop-again-2 c =
    let t = c.before.before.before.before.before in
    let l = t.before in
    let a = l.args in (
      omega (arith, l.loop-j.invariant.0, stretch-more a.style a.cells.now l.loop-j.j t.loop-j-test.true (sym c.is_other.ensures ∙ c.if-not-is_other.false)),
      omega (arith, t.loop-j-test.true),
    )

returns-2 : tie.Need-returns invariant-loop decreases-loop
returns-2 c =
    let l = c.before in
    let a = l.args in
    omega (arith, l.loop-j.invariant.0, stretch-end a.style a.cells.now l.loop-j.j c.loop-j-test.false)

pub stretch_end_spec : {M : Type 1} → statement M
stretch_end_spec =
    tie.close
    (tie.spec
    invariant-loop
    decreases-loop
    loop-holds
    high-ahead-requires
    add-j
    loop-less
    loop-again
    mul-is-other
    shared-slice-read-is-other
    is-other-requires
    returns
    add-j-2
    loop-less-2
    loop-again-2
    returns-2)
