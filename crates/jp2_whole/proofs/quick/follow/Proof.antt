use Prim.Native.Nat.{◌+◌, ◌-◌}
use mathlib.Core.Path.{◌≡◌, ◌∙◌}
use native.Mathlib.Omega.{arith}
use lib.ListN.{length}
use borrow.Author.Rules.{rules}
use Rattle.jp2_whole.specs.Quick.{Matches}
use Rattle.jp2_whole.proofs.Laying.{matches-start, matches-on}
use Rattle.jp2_whole.proofs.quick.follow.Statement.{statement}
use Rattle.jp2_whole.proofs.quick.follow.Tie as tie

abbrev invariant-loop : tie.invariant-loop-at
invariant-loop text cells buf₀ at₀ n₀ g0₀ g2₀ buf at n g0 g2 = (length buf ≡ 1024) × Matches text cells at g0 g2 n

abbrev decreases-loop : tie.decreases-loop-at
decreases-loop text cells buf₀ at₀ n₀ g0₀ g2₀ buf at n g0 g2 = length text - at

loop-holds : tie.Need-loop-at-init invariant-loop decreases-loop
loop-holds c = (search rules, matches-start _ _)

slice-aggregate-fill : tie.Need-slice_bounds-fill-end invariant-loop decreases-loop
slice-aggregate-fill c = search rules

fill-requires : tie.Need-fill-r-requires invariant-loop decreases-loop
fill-requires c κs = (c.loop-at.invariant.1.within, omega arith)

returns : tie.Need-returns-then-r-at invariant-loop decreases-loop
returns c = c.loop-at.invariant.1

slice-aggregate-is-same : tie.Need-slice_bounds-is_same-end invariant-loop decreases-loop
slice-aggregate-is-same c = search rules

is-same-requires : tie.Need-is_same-requires invariant-loop decreases-loop
is-same-requires c κs = (c.fill-r.ensures.fits, c.loop-at.invariant.1.inside)

returns-2 : tie.Need-returns-then-not-is_same invariant-loop decreases-loop
returns-2 c = c.loop-at.invariant.1

more :
    (c : tie.Else-not-is_same invariant-loop decreases-loop) →
    let a = c.args in
    let r = c.fill-r.result in
    Matches a.text.now a.cells.now r.at r.g0 r.g2 (c.loop-at.n + r.n)
more c =
    let s = c.is_same.ensures (c.if-not-is_same.false) in
    matches-on c.loop-at.invariant.1 c.fill-r.ensures s.0 s.1

add-n : tie.Need-overflow_add-n invariant-loop decreases-loop
add-n c = omega (arith, (more c.before).few, (more c.before).within, c.well_formed)

loop-less : tie.Need-loop-at-smaller invariant-loop decreases-loop
loop-less c = omega (arith, c.if-r-at.false, c.loop-at-test.true)

loop-again : tie.Need-loop-at-preserved invariant-loop decreases-loop
loop-again c = (c.fill-r.ensures.laid.same ∙ c.loop-at.invariant.0, more c.before)

returns-3 : tie.Need-returns invariant-loop decreases-loop
returns-3 c = c.loop-at.invariant.1

pub follow_spec : {M : Type 1} → statement M
follow_spec =
    tie.close
    (tie.spec
    invariant-loop
    decreases-loop
    loop-holds
    slice-aggregate-fill
    fill-requires
    returns
    slice-aggregate-is-same
    is-same-requires
    returns-2
    add-n
    loop-less
    loop-again
    returns-3)
