use Prim.Native.Nat.{◌+◌, ◌-◌}
use native.Mathlib.Omega.{arith}
use lib.ListN.{length}
use borrow.Author.Rules.{rules}
use Rattle.alphabet.specs.Letters.{set_b, slash}
use Rattle.utf7_whole.specs.Quick.{Span}
use Rattle.utf7_whole.proofs.Tokens.{span-stay, span-on, span-to-as, span-ahead}
use Rattle.utf7_whole.proofs.quick.judge_run.Statement.{statement}
use Rattle.utf7_whole.proofs.quick.judge_run.Tie as tie

abbrev invariant-loop : tie.invariant-loop-at
invariant-loop text from at₀ at = Span (set_b slash) text from at

abbrev decreases-loop : tie.decreases-loop-at
decreases-loop text from at₀ at = length text - at

loop-holds : tie.Need-loop-at-init invariant-loop decreases-loop
loop-holds c = span-stay _ c.requires

add-loop : tie.Need-overflow_add-at invariant-loop decreases-loop
add-loop c = omega (arith, c.loop-at.invariant.within)

letters-ahead-requires : tie.Need-letters_ahead-c-requires invariant-loop decreases-loop
letters-ahead-requires c κs = search rules

-- the letters of the block, behind those before it
block : (c : tie.After-letters_ahead-c invariant-loop decreases-loop) → let l = c.before.before in Span (set_b slash) l.args.text.now l.args.from (l.loop-at.at + c.letters_ahead-c.result)
block c = span-on c.loop-at.invariant (span-ahead (set_b slash) c.letters_ahead-c.ensures c.loop-at-test.true)

add-judge-end : tie.Need-overflow_add-at-then-c-lt32 invariant-loop decreases-loop
add-judge-end c = search rules

judge-end-requires : tie.Need-judge_end-requires invariant-loop decreases-loop
judge-end-requires c κs = record { letters = block c.before; over = c.letters_ahead-c.ensures.over c.if-c-lt32.true }

returns : tie.Need-returns-then-c-lt32 invariant-loop decreases-loop
returns c = c.judge_end.ensures

add_at : tie.Need-overflow_add-at-in-loop-at invariant-loop decreases-loop
add_at c = search rules

loop-less : tie.Need-loop-at-smaller invariant-loop decreases-loop
loop-less c = search rules

loop-again : tie.Need-loop-at-preserved invariant-loop decreases-loop
loop-again c = span-to-as (block c.before) (omega (arith, c.letters_ahead-c.ensures.upto, c.if-c-lt32.false))

letters-end-requires : tie.Need-letters_end-requires invariant-loop decreases-loop
letters-end-requires c κs = (omega arith, c.loop-at.invariant.within)

judge-end-requires-2 : tie.Need-judge_end-requires-2 invariant-loop decreases-loop
judge-end-requires-2 c κs = record { letters = span-on c.loop-at.invariant c.letters_end.ensures.letters; over = c.letters_end.ensures.over }

returns-2 : tie.Need-returns invariant-loop decreases-loop
returns-2 c = c.judge_end-2.ensures

pub judge_run_spec : {M : Type 1} → statement M
judge_run_spec =
    tie.close
    (tie.spec
    invariant-loop
    decreases-loop
    loop-holds
    add-loop
    letters-ahead-requires
    add-judge-end
    judge-end-requires
    returns
    add_at
    loop-less
    loop-again
    letters-end-requires
    judge-end-requires-2
    returns-2)
