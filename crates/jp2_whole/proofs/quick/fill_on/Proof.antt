use Prim.Native.Nat.{◌-◌}
use native.Mathlib.Omega.{arith}
use lib.ListN.{length}
use Rattle.jp2_whole.specs.Quick.{Laying}
use Rattle.jp2_whole.proofs.Laying.{laying-start, laying-more}
use Rattle.jp2_whole.proofs.quick.fill_on.Statement.{statement}
use Rattle.jp2_whole.proofs.quick.fill_on.Tie as tie

abbrev invariant-loop : tie.invariant-loop-at
invariant-loop text out₀ at₀ n₀ g0₀ g2₀ out at n g0 g2 =
    Laying text at₀ g0₀ g2₀ n₀ out₀ at g0 g2 n out

abbrev decreases-loop : tie.decreases-loop-at
decreases-loop text out₀ at₀ n₀ g0₀ g2₀ out at n g0 g2 = length text - at

loop-holds : tie.Need-loop-at-init invariant-loop decreases-loop
loop-holds c = laying-start c.requires.0 c.requires.1

fill-requires : tie.Need-fill-r-requires invariant-loop decreases-loop
fill-requires c κs = (c.loop-at.invariant.goes.within, c.loop-at.invariant.fits)

more :
    (c : tie.After-fill-r invariant-loop decreases-loop) →
    let a = c.args in
    let r = c.fill-r.result in
    Laying a.text.now a.from.at a.from.g0 a.from.g2 a.from.n a.out.now r.at r.g0 r.g2 r.n c.fill-r.new.out
more c = laying-more c.loop-at.invariant c.fill-r.ensures

same_length : tie.Need-shape_of-out-then-r-at invariant-loop decreases-loop
same_length c = (more c.before.before.before.before).laid.same

returns : tie.Need-returns-then-r-at invariant-loop decreases-loop
returns c = more c.before.before.before.before

loop-less : tie.Need-loop-at-smaller invariant-loop decreases-loop
loop-less c = omega (arith, c.if-r-at.false, c.loop-at-test.true)

loop-again : tie.Need-loop-at-preserved invariant-loop decreases-loop
loop-again c = more c.before.before.before.before

same-length-2 : tie.Need-shape_of-out invariant-loop decreases-loop
same-length-2 c = c.loop-at.invariant.laid.same

returns-2 : tie.Need-returns invariant-loop decreases-loop
returns-2 c = c.loop-at.invariant

pub fill_on_spec : {M : Type 1} → statement M
fill_on_spec =
    tie.close
    (tie.spec
    invariant-loop
    decreases-loop
    loop-holds
    fill-requires
    same_length
    returns
    loop-less
    loop-again
    same-length-2
    returns-2)
