use Prim.Native.Nat.{◌+◌, ◌-◌, ◌≤◌}
use native.Mathlib.Omega.{arith}
use lib.ListN.{length}
use borrow.Author.Rules.{rules}
use Rattle.reading.proofs.Laws.{Left, left-start}
use Rattle.utf7.specs.Rule.{outside, utf7}
use Rattle.utf7_whole.proofs.Judged.{left-direct, left_as}
use Rattle.utf7_whole.proofs.quick.judge.Statement.{statement}
use Rattle.utf7_whole.proofs.quick.judge.Tie as tie

abbrev invariant-loop : tie.invariant-loop-at
invariant-loop text at₀ n₀ at n = Left utf7 text at outside n

abbrev decreases-loop : tie.decreases-loop-at
decreases-loop text at₀ n₀ at n = length text - at

loop-holds : tie.Need-loop-at-init invariant-loop decreases-loop
loop-holds c = left-start utf7 _

add-loop : tie.Need-overflow_add-at invariant-loop decreases-loop
add-loop c = omega (arith, c.loop-at.invariant.within)

direct-ahead-requires : tie.Need-direct_ahead-k-requires invariant-loop decreases-loop
direct-ahead-requires c κs = search rules

-- behind the bytes that stand for themselves, with many to follow
abbrev D : Type 0
D = tie.After-direct_ahead-k invariant-loop decreases-loop

direct : (c : D) → let l = c.before.before in Left utf7 l.args.text.now (l.loop-at.at + c.direct_ahead-k.result) outside (l.loop-at.n + c.direct_ahead-k.result)
direct c = left-direct c.loop-at.invariant _ c.direct_ahead-k.ensures.1

near : (c : D) → let l = c.before.before in l.loop-at.at + c.direct_ahead-k.result + 5 ≤ length l.args.text.now
near c = omega (arith, c.direct_ahead-k.ensures.0, c.loop-at-test.true)

add_at : tie.Need-overflow_add-at-then-k-eq32 invariant-loop decreases-loop
add_at c = omega (arith, near c.before, c.if-k-eq32.true)

add-n : tie.Need-overflow_add-n invariant-loop decreases-loop
add-n c = omega (arith, near c.before, (direct c.before).few, c.if-k-eq32.true)

loop-less : tie.Need-loop-at-smaller-then-k-eq32 invariant-loop decreases-loop
loop-less c = search rules

loop-again : tie.Need-loop-at-preserved-then-k-eq32 invariant-loop decreases-loop
loop-again c = left_as (direct c.before) (omega (arith, c.if-k-eq32.true)) (omega (arith, c.if-k-eq32.true))

add-judge-token : tie.Need-overflow_add-at-else-k-eq32 invariant-loop decreases-loop
add-judge-token c = omega (arith, near c.before)

add-judge-token-2 : tie.Need-overflow_add-n-else-k-eq32 invariant-loop decreases-loop
add-judge-token-2 c = omega (arith, near c.before, (direct c.before).few)

judge-token-requires : tie.Need-judge_token-r-requires invariant-loop decreases-loop
judge-token-requires c κs = (near c.before, direct c.before)

add-if2 : tie.Need-overflow_add-at-else-k-eq32-2 invariant-loop decreases-loop
add-if2 c = omega (arith, near c.before.before)

returns : tie.Need-returns-then-r-at invariant-loop decreases-loop
returns c = c.judge_token-r.ensures.0

loop-less-2 : tie.Need-loop-at-smaller invariant-loop decreases-loop
loop-less-2 c = let r = c in omega (arith, r.judge_token-r.ensures.1, r.judge_token-r.ensures.0.within, c.if-r-at.false, near r.before.before.before.before)

loop-again-2 : tie.Need-loop-at-preserved invariant-loop decreases-loop
loop-again-2 c = c.judge_token-r.ensures.0

returns-2 : tie.Need-returns invariant-loop decreases-loop
returns-2 c = c.loop-at.invariant

pub judge_spec : {M : Type 1} → statement M
judge_spec =
    tie.close
    (tie.spec
    invariant-loop
    decreases-loop
    loop-holds
    add-loop
    direct-ahead-requires
    add_at
    add-n
    loop-less
    loop-again
    add-judge-token
    add-judge-token-2
    judge-token-requires
    add-if2
    returns
    loop-less-2
    loop-again-2
    returns-2)
