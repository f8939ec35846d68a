use Prim.Native.Nat.{◌+◌, ◌-◌}
use native.Mathlib.Omega.{arith}
use lib.ListN.{length}
use borrow.Author.Rules.{rules}
use Rattle.reading.proofs.Laws.{Left}
use Rattle.reading.proofs.Strides.{left-stride}
use Rattle.jp2.specs.Rule.{plain, state, jp2}
use Rattle.jp2_whole.proofs.Tokens.{high-stride}
use Rattle.jp2_whole.proofs.quick.judge.Statement.{statement}
use Rattle.jp2_whole.proofs.quick.judge.Tie as tie

abbrev invariant-loop : tie.invariant-loop-at
invariant-loop text at₀ n₀ g0₀ g2₀ next₀ at n g0 g2 next = Left jp2 text at (state g0 g2 plain) n

abbrev decreases-loop : tie.decreases-loop-at
decreases-loop text at₀ n₀ g0₀ g2₀ next₀ at n g0 g2 next = length text - at

loop-holds : tie.Need-loop-at-init invariant-loop decreases-loop
loop-holds c = c.requires

shared-slice-read-is-lone : tie.Need-bounds-text-at invariant-loop decreases-loop
shared-slice-read-is-lone c = search rules

is-lone-requires : tie.Need-is_lone-requires invariant-loop decreases-loop
is-lone-requires c κs = search rules

-- a printing byte
lone :
    (c : tie.Then-is_lone invariant-loop decreases-loop) →
    let l = c.before.before.before.before in
    Left jp2 c.args.text.now (l.loop-at.at + 1) (state l.loop-at.g0 l.loop-at.g2 plain) (l.loop-at.n + 1)
lone c =
    let b = c.is_lone.ensures c.if-is_lone.true in
    left-stride (high-stride c.loop-at-test.true b.1 b.0.0 b.0.1) c.loop-at.invariant

add-n : tie.Need-overflow_add-n invariant-loop decreases-loop
add-n c = omega (arith, (lone c).few, (lone c).within, c.well_formed)

add_at : tie.Need-overflow_add-at invariant-loop decreases-loop
add_at c = omega (arith, (lone c).within, c.well_formed)

loop-less : tie.Need-loop-at-smaller-then-is_lone invariant-loop decreases-loop
loop-less c = omega (arith, (lone c).within)

loop-again : tie.Need-loop-at-preserved-then-is_lone invariant-loop decreases-loop
loop-again c = lone c

judge-token-requires : tie.Need-judge_token-r-requires invariant-loop decreases-loop
judge-token-requires c κs = (c.loop-at.invariant, c.loop-at-test.true)

returns : tie.Need-returns-then-r-at invariant-loop decreases-loop
returns c = c.judge_token-r.ensures

add-next : tie.Need-overflow_add-next invariant-loop decreases-loop
add-next c = omega (arith, c.judge_token-r.ensures.within, c.well_formed)

loop-less-2 : tie.Need-loop-at-smaller invariant-loop decreases-loop
loop-less-2 c = omega (arith, c.if-r-at.false, c.loop-at-test.true)

loop-again-2 : tie.Need-loop-at-preserved invariant-loop decreases-loop
loop-again-2 c = c.judge_token-r.ensures

returns-2 : tie.Need-returns invariant-loop decreases-loop
returns-2 c = c.loop-at.invariant

pub judge_spec : {M : Type 1} → statement M
judge_spec =
    tie.close
    (tie.spec
    invariant-loop
    decreases-loop
    loop-holds
    shared-slice-read-is-lone
    is-lone-requires
    add-n
    add_at
    loop-less
    loop-again
    judge-token-requires
    returns
    add-next
    loop-less-2
    loop-again-2
    returns-2)
