use native.Mathlib.Omega.{arith}
use borrow.Author.Rules.{rules}
use Prim.Native.Nat.{◌-◌}
use mathlib.Core.Path.{◌≡◌, sym, ◌∙◌}
use lib.ListN.{length, drop}
use Rattle.ledger.specs.Words.{zeros}
use Rattle.records.proofs.Walks.{zeros-next, zeros-stop, zeros-end}
use Rattle.records.proofs.zero_from.Statement.{statement}
use Rattle.records.proofs.zero_from.Tie as tie

abbrev invariant-loop : tie.invariant-loop-i
invariant-loop s at i₀ i = zeros (drop at s) ≡ zeros (drop i s)

abbrev decreases-loop : tie.decreases-loop-i
decreases-loop s at i₀ i = length s - i

returns : tie.Need-returns-then-s-at invariant-loop decreases-loop
returns c =
    let a = c.args in
    sym (zeros-end a.s.now a.at (omega arith))

past-blocks-requires : tie.Need-past_blocks-i-requires invariant-loop decreases-loop
past-blocks-requires c κs = search rules

loop-holds : tie.Need-loop-i-init invariant-loop decreases-loop
loop-holds c = sym c.past_blocks-i.ensures

mul-if2 : tie.Need-offset_bounds-s-i invariant-loop decreases-loop
mul-if2 c = search rules

shared-slice-read-if2 : tie.Need-bounds-s-i invariant-loop decreases-loop
shared-slice-read-if2 c = search rules

returns-2 : tie.Need-returns-then-s-i-ne0 invariant-loop decreases-loop
returns-2 c =
    let s = c.args.s.now in
    let l = c.loop-i in
    sym (l.invariant ∙ zeros-stop s l.i (omega arith) c.if-s-i-ne0.true)

add-i : tie.Need-overflow_add-i invariant-loop decreases-loop
add-i c = search rules

loop-less : tie.Need-loop-i-smaller invariant-loop decreases-loop
loop-less c = search rules

loop-again : tie.Need-loop-i-preserved invariant-loop decreases-loop
loop-again c =
    let s = c.args.s.now in
    let l = c.loop-i in
    l.invariant ∙ zeros-next s l.i (omega arith) c.if-s-i-ne0.false

returns-3 : tie.Need-returns invariant-loop decreases-loop
returns-3 c =
    let s = c.args.s.now in
    let l = c.loop-i in
    sym (l.invariant ∙ zeros-end s l.i (omega arith))

pub zero_from_spec : {M : Type 1} → statement M
zero_from_spec =
    tie.close
    (tie.spec
    invariant-loop
    decreases-loop
    returns
    past-blocks-requires
    loop-holds
    mul-if2
    shared-slice-read-if2
    returns-2
    add-i
    loop-less
    loop-again
    returns-3)
