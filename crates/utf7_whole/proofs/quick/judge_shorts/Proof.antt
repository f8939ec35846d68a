use Prim.Native.Nat.{◌+◌, ◌-◌, ◌≤◌}
use native.Mathlib.Omega.{arith}
use borrow.Author.Rules.{rules}
use Rattle.marks.proofs.Counting.{ahead-le}
use Rattle.reading.proofs.Laws.{Left}
use Rattle.utf7.specs.Rule.{outside, utf7}
use Rattle.utf7_whole.proofs.Buffers.{span-marked}
use Rattle.utf7_whole.proofs.Judged.{left-direct, left_one}
use Rattle.utf7_whole.proofs.quick.judge_shorts.Statement.{statement}
use Rattle.utf7_whole.proofs.quick.judge_shorts.Tie as tie

abbrev invariant-loop : tie.invariant-loop-at
invariant-loop text from start at₀ n₀ marks at n = Left utf7 text at outside n × (from ≤ at)

abbrev decreases-loop : tie.decreases-loop-at
decreases-loop text from start at₀ n₀ marks at n = from + 128 - at

add-if1 : tie.Need-overflow_add-from invariant-loop decreases-loop
add-if1 c = omega (arith, c.requires.within)

returns : tie.Need-returns-then-text-from invariant-loop decreases-loop
returns c = (c.requires, omega arith)

mark-requires : tie.Need-mark-marks-requires invariant-loop decreases-loop
mark-requires c κs = search rules

loop-holds : tie.Need-loop-at-init invariant-loop decreases-loop
loop-holds c = (c.requires, omega arith)

add-loop : tie.Need-overflow_add-from-in-loop-at invariant-loop decreases-loop
add-loop c = omega (arith, c.if-text-from.false)

slice-aggregate-ahead : tie.Need-slice_bounds-ahead-end invariant-loop decreases-loop
slice-aggregate-ahead c = search rules

sub-ahead : tie.Need-overflow_sub-at invariant-loop decreases-loop
sub-ahead c = omega (arith, c.loop-at.invariant.1)

ahead-requires : tie.Need-ahead-k-requires invariant-loop decreases-loop
ahead-requires c κs = search rules

-- behind the bytes that stand for themselves
abbrev D : Type 0
D = tie.After-ahead-k invariant-loop decreases-loop

abbrev begun : D → tie.After-mark-marks invariant-loop decreases-loop
begun c = c.before.before.before.before

few : (c : D) → c.ahead-k.result ≤ 16
few c = omega (arith, c.ahead-k.ensures, ahead-le (begun c).mark-marks.result (c.loop-at.at - (begun c).args.from))

direct : (c : D) → let l = c.before.before.before in Left utf7 (begun c).args.text.now (l.loop-at.at + c.ahead-k.result) outside (l.loop-at.n + c.ahead-k.result)
direct c = let l = c in
    let a = (begun c).args in
    left-direct l.loop-at.invariant.0 _
    (span-marked (begun c).mark-marks.ensures (l.loop-at.at - a.from) c.ahead-k.ensures (omega (arith, l.loop-at.invariant.1)) (omega (arith, c.loop-at-test.true))
    (omega (arith, c.loop-at-test.true, (begun c).if-text-from.false)))

add_at : tie.Need-overflow_add-at invariant-loop decreases-loop
add_at c = omega (arith, (direct c).within)

add-n : tie.Need-overflow_add-n invariant-loop decreases-loop
add-n c = omega (arith, (direct c).few, (direct c).within)

sign-at-requires : tie.Need-sign_at-requires invariant-loop decreases-loop
sign-at-requires c κs = omega (arith, c.if-k-lt16.true, c.loop-at-test.true, (begun c.before).if-text-from.false)

returns-2 : tie.Need-returns-then-sign_at-gt65535 invariant-loop decreases-loop
returns-2 c = (direct c.before.before.before, omega (arith, c.loop-at.invariant.1))

add-n-2 : tie.Need-overflow_add-n-then-k-lt16 invariant-loop decreases-loop
add-n-2 c = let d = c.before.before.before in omega (arith, (direct d).few, (direct d).within)

add-at-2 : tie.Need-overflow_add-at-then-k-lt16 invariant-loop decreases-loop
add-at-2 c = let d = c.before.before.before in omega (arith, (direct d).within)

loop-less : tie.Need-loop-at-smaller-then-k-lt16 invariant-loop decreases-loop
loop-less c = let d = c in omega (arith, d.loop-at-test.true)

loop-again : tie.Need-loop-at-preserved-then-k-lt16 invariant-loop decreases-loop
loop-again c = let d = c.before.before.before in let o = c.sign_at.ensures (omega (arith, c.if-sign_at-gt65535.false)) in (left_one (direct d) o.0 o.1, omega (arith, d.loop-at.invariant.1))

loop-less-2 : tie.Need-loop-at-smaller invariant-loop decreases-loop
loop-less-2 c = omega (arith, few c.before, c.if-k-lt16.false, c.loop-at-test.true)

loop-again-2 : tie.Need-loop-at-preserved invariant-loop decreases-loop
loop-again-2 c = (direct c.before, omega (arith, c.loop-at.invariant.1))

returns-3 : tie.Need-returns invariant-loop decreases-loop
returns-3 c = c.loop-at.invariant

pub judge_shorts_spec : {M : Type 1} → statement M
judge_shorts_spec =
    tie.close
    (tie.spec
    invariant-loop
    decreases-loop
    add-if1
    returns
    mark-requires
    loop-holds
    add-loop
    slice-aggregate-ahead
    sub-ahead
    ahead-requires
    add_at
    add-n
    sign-at-requires
    returns-2
    add-n-2
    add-at-2
    loop-less
    loop-again
    loop-less-2
    loop-again-2
    returns-3)
