use native.Mathlib.Omega.{arith}
use borrow.Author.Rules.{rules}
use Prim.Native.Nat.{◌-◌, ◌≤◌}
use mathlib.Core.Path.{◌≡◌, ◌∙◌}
use lib.ListN.{length, take}
use Rattle.squeeze.specs.Tracing.{entries_in, text_since, Leads}
use Rattle.squeeze.specs.Folding.{fold_from}
use native.Mathlib.Nat.{sub-zero}
use Rattle.answer.proofs.Once.{limit-small}
use Rattle.squeeze.proofs.Tracing.{seen, whole-next, fold_next, stopped, enough}
use Rattle.squeeze.proofs.oldest.Statement.{statement}
use Rattle.squeeze.proofs.oldest.Tie as tie

abbrev invariant-loop : tie.invariant-loop-count
invariant-loop history text done opening k at₀ len₀ count₀ at len count =
    Leads at done history text × (len ≡ length (text_since at done history text)) × (count ≤ k)
    × (fold_from at len count (take (k - count) (entries_in at done history)) ≡ fold_from 0 opening 0
    (take k (entries_in 0 done history)))

abbrev decreases-loop : tie.decreases-loop-count
decreases-loop history text done opening k at₀ len₀ count₀ at len count = k - count

loop-holds : tie.Need-loop-count-init invariant-loop decreases-loop
loop-holds c =
    let a = c.args in
    let p = c.requires in
    (p.0, p.1, omega arith, rw (sub-zero a.k))

returns : tie.Need-returns-then-at-done invariant-loop decreases-loop
returns c =
    let a = c.args in
    let l = c.loop-count in
    stopped l.invariant.0 (omega arith) l.len l.count (a.k - l.count) ∙ l.invariant.3

head-at-requires : tie.Need-head_at-head-requires invariant-loop decreases-loop
head-at-requires c κs =
    let a = c.args in
    let l = c.loop-count in
    whole-next l.at a.done a.history.now a.text.now l.invariant.0 (omega (arith, l.invariant.0.order))

sub-len : tie.Need-overflow_sub-len invariant-loop decreases-loop
sub-len c =
    let a = c.args in
    let l = c.loop-count in
    let h = c.head_at-head in
    let b = seen l.at a.done a.history.now a.text.now l.invariant.0 (omega (arith, l.invariant.0.order))
    h.result h.ensures in
    omega (arith, b.inside, l.invariant.1)

add-len : tie.Need-overflow_add-len invariant-loop decreases-loop
add-len c =
    let a = c.args in
    let l = c.loop-count in
    let h = c.head_at-head in
    let b = seen l.at a.done a.history.now a.text.now l.invariant.0 (omega (arith, l.invariant.0.order))
    h.result h.ensures in
    omega (arith, limit-small, b.after, b.below, l.invariant.1)

add-count : tie.Need-overflow_add-count invariant-loop decreases-loop
add-count c = search rules

loop-less : tie.Need-loop-count-smaller invariant-loop decreases-loop
loop-less c = search rules

loop-again : tie.Need-loop-count-preserved invariant-loop decreases-loop
loop-again c =
    let a = c.args in
    let l = c.loop-count in
    let h = c.head_at-head in
    let b = seen l.at a.done a.history.now a.text.now l.invariant.0 (omega (arith, l.invariant.0.order))
    h.result h.ensures in (
      b.leads,
      omega (arith, b.after, l.invariant.1),
      omega arith,
      fold_next b l.len l.count a.k (omega arith)
          ∙ l.invariant.3,
    )

returns-2 : tie.Need-returns invariant-loop decreases-loop
returns-2 c =
    let a = c.args in
    let l = c.loop-count in
    enough l.at l.len l.count a.k (entries_in l.at a.done a.history.now) (omega arith) ∙ l.invariant.3

pub oldest_spec : {M : Type 1} → statement M
oldest_spec =
    tie.close
    (tie.spec
    invariant-loop
    decreases-loop
    loop-holds
    returns
    head-at-requires
    sub-len
    add-len
    add-count
    loop-less
    loop-again
    returns-2)
