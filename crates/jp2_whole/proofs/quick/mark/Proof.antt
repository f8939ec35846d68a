use Prim.Native.Nat.{ℕ, ◌+◌, ◌-◌, ◌<◌, ◌≤◌}
use mathlib.Core.Path.{◌≡◌, refl}
use mathlib.Core.Bool.{cond}
use native.Mathlib.Omega.{arith}
use lib.ListN.{length, get_or, length-set}
use borrow.Author.Rules.{rules}
use Rattle.jp2_whole.specs.Quick.{printing}
use Rattle.jp2_whole.proofs.Tokens.{set_more}
use Rattle.jp2_whole.proofs.quick.mark.Statement.{statement}
use Rattle.jp2_whole.proofs.quick.mark.Tie as tie

abbrev invariant-loop : tie.invariant-loop-k
invariant-loop text from x₀ k₀ x k = (k ≤ 144) × (length x ≡ 144) × ((j : ℕ) → j < k → get_or x j 0 ≡ cond (printing (get_or text (from + j) 0)) 0 255)

abbrev decreases-loop : tie.decreases-loop-k
decreases-loop text from x₀ k₀ x k = 144 - k

loop-holds : tie.Need-loop-k-init invariant-loop decreases-loop
loop-holds c = (omega arith, refl, λ j h. absurd (omega arith))

add-is-printing : tie.Need-overflow_add-from invariant-loop decreases-loop
add-is-printing c = search rules

shared-slice-read-is-printing : tie.Need-bounds-text-from invariant-loop decreases-loop
shared-slice-read-is-printing c = search rules

is-printing-requires : tie.Need-is_printing-requires invariant-loop decreases-loop
is-printing-requires c κs = search rules

marked-requires : tie.Need-marked-requires invariant-loop decreases-loop
marked-requires c κs = search rules

array-write-x : tie.Need-bounds-x-k invariant-loop decreases-loop
array-write-x c = search rules

add-k : tie.Need-overflow_step-k invariant-loop decreases-loop
add-k c = search rules

loop-less : tie.Need-loop-k-smaller invariant-loop decreases-loop
loop-less c = search rules

loop-again : tie.Need-loop-k-preserved invariant-loop decreases-loop
loop-again c = let l = c in
    let a = l.args in
    let i = l.loop-k.invariant in
    let Q : ℕ → ℕ → Type 0 = λ j x. x ≡ cond (printing (get_or a.text.now (a.from + j) 0)) 0 255 in
    (omega arith, simp length-set i.1, set_more l.loop-k.x l.loop-k.k c.marked.result Q (omega (arith, i.1)) i.2 (rw (c.marked.ensures, c.is_printing.ensures)))

returns : tie.Need-returns invariant-loop decreases-loop
returns c = let i = c.loop-k.invariant in record { so = λ k h. i.2 k (omega (arith, h, c.loop-k-test.false)) }

pub mark_spec : {M : Type 1} → statement M
mark_spec =
    tie.close
    (tie.spec
    invariant-loop
    decreases-loop
    loop-holds
    add-is-printing
    shared-slice-read-is-printing
    is-printing-requires
    marked-requires
    array-write-x
    add-k
    loop-less
    loop-again
    returns)
