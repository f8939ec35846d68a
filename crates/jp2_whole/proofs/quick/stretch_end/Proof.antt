use Prim.Native.Nat.{◌-◌, ◌≤◌}
use mathlib.Core.Path.{◌≡◌, refl}
use mathlib.Core.Logic.{inl, inr}
use native.Mathlib.Omega.{arith}
use lib.ListN.{length}
use Rattle.jp2_whole.specs.Quick.{Plains}
use Rattle.jp2_whole.proofs.Tokens.{spanned-stay, spanned-on}
use Rattle.jp2_whole.proofs.quick.stretch_end.Statement.{statement}
use Rattle.jp2_whole.proofs.quick.stretch_end.Tie as tie

abbrev invariant-loop : tie.invariant-loop-at
invariant-loop text from to g0 g2 at₀ at = (g0 ≡ 6) × ((g2 ≡ 0) × (Plains text from at × (at ≤ to)))

abbrev decreases-loop : tie.decreases-loop-at
decreases-loop text from to g0 g2 at₀ at = length text - at

returns : tie.Need-returns-then-g0-ne6 invariant-loop decreases-loop
returns c = inl refl

returns-2 : tie.Need-returns-then-g2-ne0 invariant-loop decreases-loop
returns-2 c = inl refl

loop-holds : tie.Need-loop-at-init invariant-loop decreases-loop
loop-holds c =
    let p = c.requires in
    (c.if-g0-ne6.false, (c.if-g2-ne0.false, (spanned-stay (omega (arith, p.0, p.1)), p.0)))

add-loop : tie.Need-overflow_add-at invariant-loop decreases-loop
add-loop c = omega (arith, c.loop-at.invariant.1.1.0.within, c.well_formed)

is-block-requires : tie.Need-is_block-requires invariant-loop decreases-loop
is-block-requires c κs = omega (arith, c.loop-at-test.true, c.requires.1)

returns-3 : tie.Need-returns-then-not-is_block invariant-loop decreases-loop
returns-3 c = inr c.loop-at.invariant

add_at : tie.Need-overflow_add-at-in-loop-at invariant-loop decreases-loop
add_at c = omega (arith, c.loop-at-test.true, c.requires.1, c.well_formed)

loop-less : tie.Need-loop-at-smaller invariant-loop decreases-loop
loop-less c = omega (arith, c.loop-at-test.true, c.requires.1)

loop-again : tie.Need-loop-at-preserved invariant-loop decreases-loop
loop-again c =
    let i = c.loop-at.invariant in
    (i.0, (i.1.0, (spanned-on i.1.1.0 (c.is_block.ensures (c.if-not-is_block.false)), c.loop-at-test.true)))

returns-4 : tie.Need-returns invariant-loop decreases-loop
returns-4 c = inr c.loop-at.invariant

pub stretch_end_spec : {M : Type 1} → statement M
stretch_end_spec =
    tie.close
    (tie.spec
    invariant-loop
    decreases-loop
    returns
    returns-2
    loop-holds
    add-loop
    is-block-requires
    returns-3
    add_at
    loop-less
    loop-again
    returns-4)
