use Prim.Native.Nat.{ℕ, suc, ◌+◌, ◌-◌, ◌^◌, ◌<◌, ◌≤◌}
use mathlib.Core.Path.{◌≡◌, sym, ap, ◌∙◌}
use native.Mathlib.Omega.{arith}
use lib.ListN.{length, drop}
use Rattle.answer.proofs.Once.{limit-small}
use Rattle.utf7.specs.Writing.{writing}
use Rattle.utf7.proofs.Pieces.{size-bound}
use Rattle.utf7_write.proofs.Stretches.{Stretched, stretched, write-end, write-sign, itself}
use borrow.Author.Rules.{rules}
use Rattle.utf7_write.proofs.size.Statement.{statement}
use Rattle.utf7_write.proofs.size.Tie as tie

abbrev invariant-loop : tie.invariant-loop-i
invariant-loop style cells sign i₀ total₀ i total =
    (total + length (writing style (drop i cells)) ≡ length (writing style cells)) × (i ≤ length cells) × (length (writing style cells) < 2 ^ 35)

abbrev decreases-loop : tie.decreases-loop-i
decreases-loop style cells sign i₀ total₀ i total = length cells - i

-- where the loop stands once a unit is told apart, and the bytes from a place on
abbrev loop-at : tie.After-is_other invariant-loop decreases-loop → tie.At-loop-i invariant-loop decreases-loop
loop-at c = c.before.before.before

abbrev bytes : tie.At-loop-i invariant-loop decreases-loop → ℕ → ℕ
bytes l i = length (writing l.args.style (drop i l.args.cells.now))

-- what a stretch, a sign and a unit that is written as itself take
found :
    (c : tie.After-stretch_end-j invariant-loop decreases-loop) → let l = loop-at c.before.before in
    Stretched l.args.style l.args.cells.now l.loop-i.i c.stretch_end-j.result
found c =
    let t = c.before.before in
    stretched _ _ _ t.loop-i-test.true _ (sym t.is_other.ensures ∙ c.if-is_other.true) c.stretch_end-j.ensures

signed :
    (c : tie.Then-u-sign invariant-loop decreases-loop) → let l = loop-at c.before.before in bytes l l.loop-i.i ≡ suc (suc (bytes l (l.loop-i.i + 1)))
signed c =
    let t = c.before.before in
    ap length (write-sign _ _ _ t.loop-i-test.true (loop-at t).sign_of-sign.ensures c.if-u-sign.true)

owned :
    (c : tie.Else-u-sign invariant-loop decreases-loop) → let l = loop-at c.before.before in bytes l l.loop-i.i ≡ suc (bytes l (l.loop-i.i + 1))
owned c =
    let t = c.before.before in
    ap length (itself _ _ _ t.loop-i-test.true (loop-at t).sign_of-sign.ensures (sym t.is_other.ensures ∙ c.if-is_other.false) c.if-u-sign.false).cut

sign-of-requires : tie.Need-sign_of-sign-requires invariant-loop decreases-loop
sign-of-requires c κs = search rules

loop-holds : tie.Need-loop-i-init invariant-loop decreases-loop
loop-holds c =
    let s = c.before.before in
    (omega arith, omega arith, omega (arith, size-bound s.args.style s.args.cells.now, s.requires, limit-small))

mul-u : tie.Need-offset_bounds-cells-i invariant-loop decreases-loop
mul-u c = search rules

shared-slice-read-u : tie.Need-bounds-cells-i invariant-loop decreases-loop
shared-slice-read-u c = search rules

is-other-requires : tie.Need-is_other-requires invariant-loop decreases-loop
is-other-requires c κs = search rules

stretch-end-requires : tie.Need-stretch_end-j-requires invariant-loop decreases-loop
stretch-end-requires c κs = search rules

sub-total : tie.Need-overflow_sub-total invariant-loop decreases-loop
sub-total c = let s = found c in omega arith

mul-total : tie.Need-overflow_mul-total invariant-loop decreases-loop
mul-total c = let s = found c in omega arith

add_total : tie.Need-overflow_add-total invariant-loop decreases-loop
add_total c = let s = found c in omega arith

add-total-2 : tie.Need-overflow_add-total-then-is_other invariant-loop decreases-loop
add-total-2 c = let s = found c in omega arith

add-total-3 : tie.Need-overflow_add-total-then-is_other-2 invariant-loop decreases-loop
add-total-3 c = let s = found c in omega arith

loop-less : tie.Need-loop-i-smaller-then-is_other invariant-loop decreases-loop
loop-less c = let s = found c in omega arith

loop-again : tie.Need-loop-i-preserved-then-is_other invariant-loop decreases-loop
loop-again c = let s = found c in omega arith

add-total-4 : tie.Need-overflow_add-total-then-u-sign invariant-loop decreases-loop
add-total-4 c = omega (arith, signed c)

add-i : tie.Need-overflow_add-i invariant-loop decreases-loop
add-i c = search rules

loop-less-2 : tie.Need-loop-i-smaller-then-u-sign invariant-loop decreases-loop
loop-less-2 c = search rules

loop-again-2 : tie.Need-loop-i-preserved-then-u-sign invariant-loop decreases-loop
loop-again-2 c = omega (arith, signed c)

add-total-5 : tie.Need-overflow_add-total-else-u-sign invariant-loop decreases-loop
add-total-5 c = omega (arith, owned c)

add-i-2 : tie.Need-overflow_add-i-else-u-sign invariant-loop decreases-loop
add-i-2 c = search rules

loop-less-3 : tie.Need-loop-i-smaller invariant-loop decreases-loop
loop-less-3 c = search rules

loop-again-3 : tie.Need-loop-i-preserved invariant-loop decreases-loop
loop-again-3 c = omega (arith, owned c)

returns : tie.Need-returns invariant-loop decreases-loop
returns c =
    let l = c.before in
    let a = l.args in
    omega (arith, l.loop-i.invariant.0, ap length (write-end a.style a.cells.now l.loop-i.i c.loop-i-test.false))

pub size_spec : {M : Type 1} → statement M
size_spec =
    tie.close
    (tie.spec
    invariant-loop
    decreases-loop
    sign-of-requires
    loop-holds
    mul-u
    shared-slice-read-u
    is-other-requires
    stretch-end-requires
    sub-total
    mul-total
    add_total
    add-total-2
    add-total-3
    loop-less
    loop-again
    add-total-4
    add-i
    loop-less-2
    loop-again-2
    add-total-5
    add-i-2
    loop-less-3
    loop-again-3
    returns)
