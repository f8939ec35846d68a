use Prim.Native.Nat.{◌≤◌, ◌-◌}
use mathlib.Core.Path.{sym, ◌∙◌}
use native.Mathlib.Omega.{arith}
use lib.ListN.{length}
use borrow.Author.Rules.{rules}
use Rattle.utf7_whole.proofs.Buffers.{Going, going_start, going-none, going_on, going-went, going-last, went-none}
use Rattle.utf7_whole.proofs.quick.put_run.Statement.{statement}
use Rattle.utf7_whole.proofs.quick.put_run.Tie as tie

abbrev invariant-loop : tie.invariant-loop-at
invariant-loop last text from out₀ start at₀ n₀ out at n = Going last text from start out₀ at n out × (n ≤ length out)

abbrev decreases-loop : tie.decreases-loop-at
decreases-loop last text from out₀ start at₀ n₀ out at n = length text - at

loop-holds : tie.Need-loop-at-init invariant-loop decreases-loop
loop-holds c = let q = c.requires in (going_start _ _ _ _ q.1, q.2)

add-loop : tie.Need-overflow_add-at invariant-loop decreases-loop
add-loop c = search rules

add-if1 : tie.Need-overflow_add-n invariant-loop decreases-loop
add-if1 c = search rules

start : (c : tie.At-loop-at invariant-loop decreases-loop) → let a = c.args in a.start ≤ length a.out.now
start c = c.requires.2

put-last-requires : tie.Need-put_last-requires invariant-loop decreases-loop
put-last-requires c κs = let l = c in (l.requires.0, l.loop-at.invariant.0.letters.within, l.loop-at.invariant.1)

same_length : tie.Need-shape_of-out-then-out-n invariant-loop decreases-loop
same_length c = c.put_last.ensures.kept.same ∙ c.loop-at.invariant.0.laid.same

returns : tie.Need-returns-then-out-n invariant-loop decreases-loop
returns c = let l = c.before.before.before.before.before.before in going-last l.loop-at.invariant.0 (start l) c.put_last.ensures

values-requires : tie.Need-values-x-requires invariant-loop decreases-loop
values-requires c κs = search rules

letters-in-requires : tie.Need-letters_in-c-requires invariant-loop decreases-loop
letters-in-requires c κs = search rules

put-twelve-requires : tie.Need-put_twelve-requires invariant-loop decreases-loop
put-twelve-requires c κs = c.if-out-n.false

may-end-requires : tie.Need-may_end-requires invariant-loop decreases-loop
may-end-requires c κs = c.letters_in-c.ensures.upto

add-t19 : tie.Need-overflow_add-result invariant-loop decreases-loop
add-t19 c = search rules

units-requires : tie.Need-units-requires invariant-loop decreases-loop
units-requires c κs = search rules

add-t21 : tie.Need-overflow_add-result-then-may_end invariant-loop decreases-loop
add-t21 c = search rules

-- the loop's test, from behind a block's units
abbrev inside : tie.After-put_twelve invariant-loop decreases-loop → tie.In-loop-at invariant-loop decreases-loop
inside c = c.before.before.before.before.before

same-length-2 : tie.Need-shape_of-out-then-may_end invariant-loop decreases-loop
same-length-2 c = let p = c.before.before.before.before.before.before in p.put_twelve.ensures.same ∙ (inside p).loop-at.invariant.0.laid.same

returns-2 : tie.Need-returns-then-may_end invariant-loop decreases-loop
returns-2 c = let p = c.before.before.before.before.before.before in
    let l = (inside p).before in
    rw c.units.ensures (going-went l.loop-at.invariant.0 (start l) l.loop-at.invariant.1 (omega (arith, (inside p).loop-at-test.true)) _ p.put_twelve.ensures p.values-x.ensures p.letters_in-c.ensures c.if-c-lt32.true (sym c.may_end.ensures ∙ c.if-may_end.true))

same-length-3 : tie.Need-shape_of-out-then-c-lt32 invariant-loop decreases-loop
same-length-3 c = let p = c.before.before.before.before.before in p.put_twelve.ensures.same ∙ (inside p).loop-at.invariant.0.laid.same

returns-3 : tie.Need-returns-then-c-lt32 invariant-loop decreases-loop
returns-3 c = let p = c.before.before.before.before.before in
    let l = (inside p).before in
    went-none _ (going-none l.loop-at.invariant.0 (start l) p.put_twelve.ensures)

add_at : tie.Need-overflow_add-at-in-loop-at invariant-loop decreases-loop
add_at c = search rules

add-n : tie.Need-overflow_add-n-in-loop-at invariant-loop decreases-loop
add-n c = search rules

loop-less : tie.Need-loop-at-smaller invariant-loop decreases-loop
loop-less c = search rules

loop-again : tie.Need-loop-at-preserved invariant-loop decreases-loop
loop-again c = let p = c.before.before.before in
    let l = (inside p).before in (
      going_on l.loop-at.invariant.0 (start l) l.loop-at.invariant.1 (omega (arith, (inside p).loop-at-test.true)) _ p.put_twelve.ensures p.values-x.ensures p.letters_in-c.ensures (omega (arith, p.letters_in-c.ensures.upto, c.if-c-lt32.false)),
      omega (arith, p.put_twelve.ensures.same, p.if-out-n.false),
    )

put-last-requires-2 : tie.Need-put_last-requires-2 invariant-loop decreases-loop
put-last-requires-2 c κs = let l = c in (l.requires.0, l.loop-at.invariant.0.letters.within, l.loop-at.invariant.1)

same-length-4 : tie.Need-shape_of-out invariant-loop decreases-loop
same-length-4 c = c.put_last-2.ensures.kept.same ∙ c.loop-at.invariant.0.laid.same

returns-4 : tie.Need-returns invariant-loop decreases-loop
returns-4 c = let l = c.before.before.before.before.before in going-last l.loop-at.invariant.0 (start l) c.put_last-2.ensures

pub put_run_spec : {M : Type 1} → statement M
put_run_spec =
    tie.close
    (tie.spec
    invariant-loop
    decreases-loop
    loop-holds
    add-loop
    add-if1
    put-last-requires
    same_length
    returns
    values-requires
    letters-in-requires
    put-twelve-requires
    may-end-requires
    add-t19
    units-requires
    add-t21
    same-length-2
    returns-2
    same-length-3
    returns-3
    add_at
    add-n
    loop-less
    loop-again
    put-last-requires-2
    same-length-4
    returns-4)
