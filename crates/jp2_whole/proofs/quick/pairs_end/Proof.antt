use Prim.Native.Nat.{◌+◌, ◌-◌}
use native.Mathlib.Omega.{arith}
use lib.ListN.{length}
use borrow.Author.Rules.{rules}
use Rattle.jp2_whole.specs.Quick.{Pairs}
use Rattle.jp2_whole.proofs.Tokens.{spanned-stay, spanned-on}
use Rattle.jp2_whole.proofs.quick.pairs_end.Statement.{statement}
use Rattle.jp2_whole.proofs.quick.pairs_end.Tie as tie

abbrev invariant-loop : tie.invariant-loop-at
invariant-loop text from at₀ at = Pairs text from at

abbrev decreases-loop : tie.decreases-loop-at
decreases-loop text from at₀ at = length text - at

loop-holds : tie.Need-loop-at-init invariant-loop decreases-loop
loop-holds c = record { codes = spanned-stay c.requires; count = 0; size = omega arith }

add-loop : tie.Need-overflow_add-at invariant-loop decreases-loop
add-loop c = search rules

is-code-block-requires : tie.Need-is_code_block-requires invariant-loop decreases-loop
is-code-block-requires c κs = search rules

returns : tie.Need-returns-then-not-is_code_block invariant-loop decreases-loop
returns c = c.loop-at.invariant

add_at : tie.Need-overflow_add-at-in-loop-at invariant-loop decreases-loop
add_at c = search rules

loop-less : tie.Need-loop-at-smaller invariant-loop decreases-loop
loop-less c = search rules

loop-again : tie.Need-loop-at-preserved invariant-loop decreases-loop
loop-again c =
    let i = c.loop-at.invariant in
    record {
      codes = spanned-on i.codes (c.is_code_block.ensures (c.if-not-is_code_block.false));
      count = i.count + 8;
      size = omega (arith, i.size);
    }

returns-2 : tie.Need-returns invariant-loop decreases-loop
returns-2 c = c.loop-at.invariant

pub pairs_end_spec : {M : Type 1} → statement M
pairs_end_spec =
    tie.close
    (tie.spec
    invariant-loop
    decreases-loop
    loop-holds
    add-loop
    is-code-block-requires
    returns
    add_at
    loop-less
    loop-again
    returns-2)
