use native.Mathlib.Omega.{arith}
use borrow.Author.Rules.{rules}
use Prim.Native.Nat.{ℕ, ◌+◌, ◌-◌, ◌≤◌}
use mathlib.Core.Path.{◌≡◌, ap, ◌∙◌}
use native.Mathlib.Nat.{add-zero}
use lib.ListN.{drop}
use Rattle.ledger.specs.Words.{zeros}
use Rattle.records.proofs.Walks.{block-turn}
use Rattle.records.proofs.block_at.Statement.{statement}
use Rattle.records.proofs.block_at.Tie as tie

abbrev invariant-loop : tie.invariant-loop-k
invariant-loop s at all₀ k₀ all k = (k ≤ 16) × (all ≡ 0 → zeros (drop at s) ≡ zeros (drop (at + k) s))

abbrev decreases-loop : tie.decreases-loop-k
decreases-loop s at all₀ k₀ all k = 16 - k

loop-holds : tie.Need-loop-k-init invariant-loop decreases-loop
loop-holds c = (omega arith, λ e. rw add-zero)

add-all : tie.Need-overflow_add-all invariant-loop decreases-loop
add-all c = search rules

mul-all : tie.Need-offset_bounds-s-at invariant-loop decreases-loop
mul-all c = search rules

shared-slice-read-all : tie.Need-bounds-s-at invariant-loop decreases-loop
shared-slice-read-all c = search rules

add-k : tie.Need-overflow_step-k invariant-loop decreases-loop
add-k c = search rules

loop-less : tie.Need-loop-k-smaller invariant-loop decreases-loop
loop-less c = search rules

loop-again : tie.Need-loop-k-preserved invariant-loop decreases-loop
loop-again c =
    let a = c.args in
    let l = c.loop-k in
    (omega arith, block-turn a.s.now a.at l.k l.all (omega arith) l.invariant.1)

returns : tie.Need-returns invariant-loop decreases-loop
returns c =
    let a = c.args in
    let l = c.loop-k in
    let n : l.k ≡ 16 = omega arith in
    λ e. l.invariant.1 e ∙ ap (λ (j : ℕ). zeros (drop (a.at + j) a.s.now)) n

pub block_at_spec : {M : Type 1} → statement M
block_at_spec =
    tie.close
    (tie.spec
    invariant-loop
    decreases-loop
    loop-holds
    add-all
    mul-all
    shared-slice-read-all
    add-k
    loop-less
    loop-again
    returns)
