use Prim.Native.Nat.{ℕ, ◌+◌, ◌-◌, ◌%◌, ◌<◌, ◌≤◌}
use mathlib.Core.Path.{◌≡◌, refl}
use native.Mathlib.Omega.{arith}
use lib.ListN.{length, get_or, length-set}
use borrow.Author.Rules.{rules}
use Rattle.jp2_whole.proofs.Tokens.{set_more}
use Rattle.jp2_whole.proofs.quick.cells_ahead.Statement.{statement}
use Rattle.jp2_whole.proofs.quick.cells_ahead.Tie as tie

abbrev invariant-loop : tie.invariant-loop-k
invariant-loop text at x₀ k₀ x k = (k ≤ 16) × (length x ≡ 16) × ((j : ℕ) → j < k → get_or x j 0 ≡ get_or text (at + j) 0 % 128 + 393216)

abbrev decreases-loop : tie.decreases-loop-k
decreases-loop text at x₀ k₀ x k = 16 - k

loop-holds : tie.Need-loop-k-init invariant-loop decreases-loop
loop-holds c = (omega arith, refl, λ j h. absurd (omega arith))

add-printed : tie.Need-overflow_add-at invariant-loop decreases-loop
add-printed c = search rules

shared-slice-read-printed : tie.Need-bounds-text-at invariant-loop decreases-loop
shared-slice-read-printed c = search rules

printed-requires : tie.Need-printed-requires invariant-loop decreases-loop
printed-requires c κs = search rules

mul-x : tie.Need-offset_bounds-x-k invariant-loop decreases-loop
mul-x c = search rules

array-write-x : tie.Need-bounds-x-k invariant-loop decreases-loop
array-write-x c = search rules

add-k : tie.Need-overflow_step-k invariant-loop decreases-loop
add-k c = search rules

loop-less : tie.Need-loop-k-smaller invariant-loop decreases-loop
loop-less c = search rules

loop-again : tie.Need-loop-k-preserved invariant-loop decreases-loop
loop-again c = let l = c in
    let a = l.args in
    let i = l.loop-k.invariant in
    let Q : ℕ → ℕ → Type 0 = λ j x. x ≡ get_or a.text.now (a.at + j) 0 % 128 + 393216 in
    (omega arith, simp length-set i.1, set_more l.loop-k.x l.loop-k.k c.printed.result Q (omega (arith, i.1)) i.2 c.printed.ensures)

returns : tie.Need-returns invariant-loop decreases-loop
returns c = let i = c.loop-k.invariant in record { size = i.1; so = λ k h. i.2 k (omega (arith, h, c.loop-k-test.false)) }

pub cells_ahead_spec : {M : Type 1} → statement M
cells_ahead_spec =
    tie.close
    (tie.spec
    invariant-loop
    decreases-loop
    loop-holds
    add-printed
    shared-slice-read-printed
    printed-requires
    mul-x
    array-write-x
    add-k
    loop-less
    loop-again
    returns)
