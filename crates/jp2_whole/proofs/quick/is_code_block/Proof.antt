use Prim.Native.Nat.{ℕ, ◌+◌, ◌-◌, ◌<◌, ◌≤◌}
use mathlib.Core.Path.{◌≡◌, sym, ◌∙◌}
use mathlib.Core.Bool.{true}
use native.Mathlib.Omega.{arith}
use lib.ListN.{get_or}
use borrow.Author.Rules.{rules}
use Rattle.jp2.specs.Rule.{graphic}
use Rattle.jp2_whole.proofs.Tokens.{each_more}
use Rattle.jp2_whole.proofs.quick.is_code_block.Statement.{statement}
use Rattle.jp2_whole.proofs.quick.is_code_block.Tie as tie

abbrev invariant-loop : tie.invariant-loop-k
invariant-loop text at ok₀ k₀ ok k = (k ≤ 16) × (ok ≡ true → (i : ℕ) → at ≤ i → i < at + k → graphic (get_or text i 0) ≡ true)

abbrev decreases-loop : tie.decreases-loop-k
decreases-loop text at ok₀ k₀ ok k = 16 - k

loop-holds : tie.Need-loop-k-init invariant-loop decreases-loop
loop-holds c = (omega arith, λ e i h k. absurd (omega arith))

add-is-code : tie.Need-overflow_add-at invariant-loop decreases-loop
add-is-code c = search rules

shared-slice-read-is-code : tie.Need-bounds-text-at invariant-loop decreases-loop
shared-slice-read-is-code c = search rules

is-code-requires : tie.Need-is_code-requires invariant-loop decreases-loop
is-code-requires c κs = search rules

both-requires : tie.Need-both-ok-requires invariant-loop decreases-loop
both-requires c κs = search rules

add-k : tie.Need-overflow_step-k invariant-loop decreases-loop
add-k c = search rules

loop-less : tie.Need-loop-k-smaller invariant-loop decreases-loop
loop-less c = search rules

loop-again : tie.Need-loop-k-preserved invariant-loop decreases-loop
loop-again c = (omega arith, λ e. each_more graphic c.args.text.now _ _ c.loop-k.invariant.1 (sym c.both-ok.ensures ∙ e) c.is_code.ensures)

returns : tie.Need-returns invariant-loop decreases-loop
returns c = λ e. record { ordered = omega arith; within = c.requires; each = λ i l m. c.loop-k.invariant.1 e i l (omega (arith, c.loop-k.invariant.0)) }

pub is_code_block_spec : {M : Type 1} → statement M
is_code_block_spec =
    tie.close
    (tie.spec
    invariant-loop
    decreases-loop
    loop-holds
    add-is-code
    shared-slice-read-is-code
    is-code-requires
    both-requires
    add-k
    loop-less
    loop-again
    returns)
