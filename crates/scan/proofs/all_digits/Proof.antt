use Prim.Native.Nat.{◌-◌, ◌≤◌}
use mathlib.Core.Path.{◌≡◌}
use mathlib.Core.Bool.{true}
use native.Mathlib.Omega.{arith}
use Rattle.answer.specs.Ahead.{Ahead}
use Rattle.scan.specs.Inner.{IsDigit}
use Rattle.scan.proofs.Words.{digits-none, digits_more}
use borrow.Author.Rules.{rules}
use Rattle.scan.proofs.all_digits.Statement.{statement}
use Rattle.scan.proofs.all_digits.Tie as tie

abbrev invariant-loop : tie.invariant-loop-k
invariant-loop s at all₀ k₀ all k = (k ≤ 32) × (all ≡ true → Ahead IsDigit s at k)

abbrev decreases-loop : tie.decreases-loop-k
decreases-loop s at all₀ k₀ all k = 32 - k

loop-holds : tie.Need-loop-k-init invariant-loop decreases-loop
loop-holds c =
    let a = c.args in
    (omega arith, λ _. digits-none a.s.now a.at)

add-digit-value : tie.Need-overflow_add-at invariant-loop decreases-loop
add-digit-value c = search rules

shared-slice-read-digit-value : tie.Need-bounds-s-at invariant-loop decreases-loop
shared-slice-read-digit-value c = search rules

digit-value-requires : tie.Need-digit_value-requires invariant-loop decreases-loop
digit-value-requires c κs = search rules

add-k : tie.Need-overflow_step-k invariant-loop decreases-loop
add-k c = search rules

loop-less : tie.Need-loop-k-smaller invariant-loop decreases-loop
loop-less c = search rules

loop-again : tie.Need-loop-k-preserved invariant-loop decreases-loop
loop-again c =
    let a = c.args in
    let l = c.loop-k in
    let digit-value' = c.digit_value in
    (omega arith, digits_more a.s.now a.at l.k l.invariant.1 digit-value'.ensures)

returns : tie.Need-returns invariant-loop decreases-loop
returns c =
    let l = c.loop-k in
    let e : l.k ≡ 32 = omega arith in
    λ h. rw e at (l.invariant.1 h)

pub all_digits_spec : {M : Type 1} → statement M
all_digits_spec =
    tie.close
    (tie.spec
    invariant-loop
    decreases-loop
    loop-holds
    add-digit-value
    shared-slice-read-digit-value
    digit-value-requires
    add-k
    loop-less
    loop-again
    returns)
