use native.Mathlib.Omega.{arith}
use borrow.Author.Rules.{rules}
use Prim.Native.Nat.{◌-◌, ◌≤◌}
use mathlib.Core.Path.{◌≡◌, refl, sym, ◌∙◌}
use lib.ListN.{length, drop}
use Rattle.ledger.specs.Words.{zeros}
use Rattle.records.proofs.past_blocks.Statement.{statement}
use Rattle.records.proofs.past_blocks.Tie as tie

abbrev invariant-loop : tie.invariant-loop-i
invariant-loop s at i₀ i = (i ≤ length s) × (zeros (drop i s) ≡ zeros (drop at s))

abbrev decreases-loop : tie.decreases-loop-i
decreases-loop s at i₀ i = length s - i

loop-holds : tie.Need-loop-i-init invariant-loop decreases-loop
loop-holds c = (omega arith, refl)

sub-loop : tie.Need-overflow_sub-s invariant-loop decreases-loop
sub-loop c = search rules

block-at-requires : tie.Need-block_at-requires invariant-loop decreases-loop
block-at-requires c κs = search rules

returns : tie.Need-returns-then-block_at-ne0 invariant-loop decreases-loop
returns c = c.loop-i.invariant.1

add-i : tie.Need-overflow_add-i invariant-loop decreases-loop
add-i c = search rules

loop-less : tie.Need-loop-i-smaller invariant-loop decreases-loop
loop-less c = search rules

loop-again : tie.Need-loop-i-preserved invariant-loop decreases-loop
loop-again c = (omega arith, sym (c.block_at.ensures c.if-block_at-ne0.false) ∙ c.loop-i.invariant.1)

returns-2 : tie.Need-returns invariant-loop decreases-loop
returns-2 c = c.loop-i.invariant.1

pub past_blocks_spec : {M : Type 1} → statement M
past_blocks_spec =
    tie.close
    (tie.spec
    invariant-loop
    decreases-loop
    loop-holds
    sub-loop
    block-at-requires
    returns
    add-i
    loop-less
    loop-again
    returns-2)
