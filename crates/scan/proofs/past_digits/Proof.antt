use Prim.Native.Nat.{◌-◌, ◌≤◌}
use mathlib.Core.Path.{◌≡◌}
use native.Mathlib.Omega.{arith}
use Rattle.answer.specs.Ahead.{Ahead}
use Rattle.scan.specs.Inner.{IsDigit}
use Rattle.scan.proofs.Words.{digits-none, digits-block}
use borrow.Author.Rules.{rules}
use Rattle.scan.proofs.past_digits.Statement.{statement}
use Rattle.scan.proofs.past_digits.Tie as tie

abbrev invariant-loop : tie.invariant-loop-at
invariant-loop s from to at₀ at = (from ≤ at) × (at ≤ to) × Ahead IsDigit s from (at - from)

abbrev decreases-loop : tie.decreases-loop-at
decreases-loop s from to at₀ at = to - at

loop-holds : tie.Need-loop-at-init invariant-loop decreases-loop
loop-holds c =
    let a = c.args in
    let e : a.from - a.from ≡ 0 = omega arith in
    (omega arith, omega arith, rw e (digits-none a.s.now a.from))

sub-loop : tie.Need-overflow_sub-to invariant-loop decreases-loop
sub-loop c = search rules

all-digits-requires : tie.Need-all_digits-requires invariant-loop decreases-loop
all-digits-requires c κs = search rules

returns : tie.Need-returns-then-not-all_digits invariant-loop decreases-loop
returns c = search rules

add_at : tie.Need-overflow_add-at invariant-loop decreases-loop
add_at c = search rules

loop-less : tie.Need-loop-at-smaller invariant-loop decreases-loop
loop-less c = search rules

loop-again : tie.Need-loop-at-preserved invariant-loop decreases-loop
loop-again c =
    let a = c.args in
    let l = c.loop-at in
    let all-digits' = c.all_digits in
    let if1' = c.if-not-all_digits in (
      omega arith,
      omega arith,
      digits-block a.s.now a.from l.at 32 l.invariant.0 l.invariant.2
          (all-digits'.ensures if1'.false),
    )

returns-2 : tie.Need-returns invariant-loop decreases-loop
returns-2 c = search rules

pub past_digits_spec : {M : Type 1} → statement M
past_digits_spec =
    tie.close
    (tie.spec
    invariant-loop
    decreases-loop
    loop-holds
    sub-loop
    all-digits-requires
    returns
    add_at
    loop-less
    loop-again
    returns-2)
