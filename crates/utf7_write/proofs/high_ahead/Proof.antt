use Prim.Native.Nat.{◌-◌, ◌≤◌}
use mathlib.Core.Path.{◌≡◌, sym, ◌∙◌}
use mathlib.Core.Bool.{true, false≢true}
use native.Mathlib.Omega.{arith}
use Rattle.answer.specs.Ahead.{Ahead}
use Rattle.utf7_write.specs.Ahead.{High}
use Rattle.answer.proofs.Ahead.{ahead_none, ahead_more}
use borrow.Author.Rules.{rules}
use Rattle.utf7_write.proofs.high_ahead.Statement.{statement}
use Rattle.utf7_write.proofs.high_ahead.Tie as tie
use Rattle.utf7_write.proofs.high_ahead.Lts.{then-cells-i-lt128, else-cells-i-lt128}

abbrev invariant-loop : tie.invariant-loop-k
invariant-loop cells i high₀ k₀ high k = (high ≡ true → Ahead High cells i k) × (k ≤ 16)

abbrev decreases-loop : tie.decreases-loop-k
decreases-loop cells i high₀ k₀ high k = 16 - k

returns : tie.Need-returns-then-i-ne0 invariant-loop decreases-loop
returns c = λ e. absurd (false≢true e)

sub-if2 : tie.Need-overflow_sub-cells invariant-loop decreases-loop
sub-if2 c = search rules

returns-2 : tie.Need-returns-then-cells-i-lt16 invariant-loop decreases-loop
returns-2 c = λ e. absurd (false≢true e)

loop-holds : tie.Need-loop-k-init invariant-loop decreases-loop
loop-holds c = (λ _. ahead_none High c.args.cells.now c.args.i, omega arith)

add-if3 : tie.Need-overflow_add-i invariant-loop decreases-loop
add-if3 c = search rules

mul-if3 : tie.Need-offset_bounds-cells-i invariant-loop decreases-loop
mul-if3 c = search rules

shared-slice-read-if3 : tie.Need-bounds-cells-i invariant-loop decreases-loop
shared-slice-read-if3 c = search rules

add-k : tie.Need-overflow_step-k invariant-loop decreases-loop
add-k c = search rules

loop-less : tie.Need-loop-k-smaller invariant-loop decreases-loop
loop-less c = search rules

loop-again : tie.Need-loop-k-preserved invariant-loop decreases-loop
loop-again c =
    let l = c.before.before.before in
    let a = l.args in
    elim c.if-cells-i-lt128.branch [
      | then-cells-i-lt128 w ↦ ((λ e. absurd (false≢true (sym w.high-is ∙ e))), omega arith)
      | else-cells-i-lt128 w ↦ ((λ e. ahead_more High a.cells.now a.i l.loop-k.k (l.loop-k.invariant.0 (sym w.high-is ∙ e)) (omega arith)), omega arith)
    ]

returns-3 : tie.Need-returns invariant-loop decreases-loop
returns-3 c =
    let l = c.before in
    let e : l.loop-k.k ≡ 16 = omega (arith, c.loop-k-test.false) in
    λ q. (omega (arith, l.if-cells-i-lt16.false, l.requires), rw e at l.loop-k.invariant.0 q)

pub high_ahead_spec : {M : Type 1} → statement M
high_ahead_spec =
    tie.close
    (tie.spec
    invariant-loop
    decreases-loop
    returns
    sub-if2
    returns-2
    loop-holds
    add-if3
    mul-if3
    shared-slice-read-if3
    add-k
    loop-less
    loop-again
    returns-3)
