use Prim.Native.Nat.{ℕ, ◌+◌, ◌-◌, ◌<◌, ◌≤◌}
use mathlib.Core.Path.{◌≡◌, refl}
use native.Mathlib.Omega.{arith}
use lib.ListN.{length, get_or, length-set}
use borrow.Author.Rules.{rules}
use Rattle.alphabet.specs.Letters.{value_of}
use Rattle.utf7_whole.proofs.Tokens.{set_more}
use Rattle.utf7_whole.proofs.quick.values.Statement.{statement}
use Rattle.utf7_whole.proofs.quick.values.Tie as tie

abbrev invariant-loop : tie.invariant-loop-k
invariant-loop last text at x₀ k₀ x k = (k ≤ 32) × (length x ≡ 32) × ((j : ℕ) → j < k → get_or x j 0 ≡ value_of last (get_or text (at + j) 0))

abbrev decreases-loop : tie.decreases-loop-k
decreases-loop last text at x₀ k₀ x k = 32 - k

loop-holds : tie.Need-loop-k-init invariant-loop decreases-loop
loop-holds c = (omega arith, refl, λ j h. absurd (omega arith))

add-value : tie.Need-overflow_add-at invariant-loop decreases-loop
add-value c = search rules

shared-slice-read-value : tie.Need-bounds-text-at invariant-loop decreases-loop
shared-slice-read-value c = search rules

value-requires : tie.Need-value-requires invariant-loop decreases-loop
value-requires c κs = search rules

array-write-x : tie.Need-bounds-x-k invariant-loop decreases-loop
array-write-x c = search rules

add-k : tie.Need-overflow_step-k invariant-loop decreases-loop
add-k c = search rules

loop-less : tie.Need-loop-k-smaller invariant-loop decreases-loop
loop-less c = search rules

loop-again : tie.Need-loop-k-preserved invariant-loop decreases-loop
loop-again c = let l = c in
    let a = l.args in
    let i = l.loop-k.invariant in
    let Q : ℕ → ℕ → Type 0 = λ j x. x ≡ value_of a.last (get_or a.text.now (a.at + j) 0) in
    (omega arith, simp length-set i.1, set_more l.loop-k.x l.loop-k.k c.value.result Q (omega (arith, i.1)) i.2 c.value.ensures)

returns : tie.Need-returns invariant-loop decreases-loop
returns c = let i = c.loop-k.invariant in record { so = λ k h. i.2 k (omega (arith, h, c.loop-k-test.false)) }

pub values_spec : {M : Type 1} → statement M
values_spec =
    tie.close
    (tie.spec
    invariant-loop
    decreases-loop
    loop-holds
    add-value
    shared-slice-read-value
    value-requires
    array-write-x
    add-k
    loop-less
    loop-again
    returns)
