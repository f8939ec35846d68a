use native.Mathlib.Omega.{arith}
use borrow.Author.Rules.{rules}
use Prim.Native.Nat.{◌-◌, ◌≤◌}
use mathlib.Core.Path.{◌≡◌, refl, sym, ◌∙◌}
use lib.Seq.{slice}
use Rattle.answer.proofs.Once.{limit-small}
use Rattle.records.specs.Walking.{walk_in}
use Rattle.records.proofs.Walks.{walk-next}
use Rattle.records.proofs.past_alike.Statement.{statement}
use Rattle.records.proofs.past_alike.Tie as tie

abbrev invariant-loop : tie.invariant-loop-at
invariant-loop history to removed added room size at₀ len₀ last₀ at len last =
    (at₀ ≤ at) × (at ≤ to) × (len ≤ room) × (walk_in room at₀ len₀ last₀ (slice at₀ to history) ≡ walk_in room at len last (slice at to history))

abbrev decreases-loop : tie.decreases-loop-at
decreases-loop history to removed added room size at₀ len₀ last₀ at len last = to - at

add-size : tie.Need-overflow_add-size invariant-loop decreases-loop
add-size c = omega (arith, limit-small)

add-size-2 : tie.Need-overflow_add-size-2 invariant-loop decreases-loop
add-size-2 c = omega (arith, limit-small)

loop-holds : tie.Need-loop-at-init invariant-loop decreases-loop
loop-holds c = (omega arith, omega arith, omega arith, refl)

sub-loop : tie.Need-overflow_sub-to invariant-loop decreases-loop
sub-loop c = search rules

mul_wide : tie.Need-offset_bounds-history-at invariant-loop decreases-loop
mul_wide c = search rules

shared-slice-read-wide : tie.Need-bounds-history-at invariant-loop decreases-loop
shared-slice-read-wide c = search rules

wide-requires : tie.Need-wide-place-requires invariant-loop decreases-loop
wide-requires c κs = search rules

add_wide : tie.Need-overflow_add-at invariant-loop decreases-loop
add_wide c = search rules

mul-wide-2 : tie.Need-offset_bounds-history-at-in-loop-at invariant-loop decreases-loop
mul-wide-2 c = search rules

shared-slice-read-wide-2 : tie.Need-bounds-history-at-in-loop-at invariant-loop decreases-loop
shared-slice-read-wide-2 c = search rules

wide-requires-2 : tie.Need-wide-requires invariant-loop decreases-loop
wide-requires-2 c κs = search rules

returns : tie.Need-returns-then-wide-removed invariant-loop decreases-loop
returns c = c.loop-at.invariant

add-wide-2 : tie.Need-overflow_add-at-in-loop-at invariant-loop decreases-loop
add-wide-2 c = search rules

mul-wide-3 : tie.Need-offset_bounds-history-at-in-loop-at-2 invariant-loop decreases-loop
mul-wide-3 c = search rules

shared-slice-read-wide-3 : tie.Need-bounds-history-at-in-loop-at-2 invariant-loop decreases-loop
shared-slice-read-wide-3 c = search rules

wide-requires-3 : tie.Need-wide-requires-in-loop-at invariant-loop decreases-loop
wide-requires-3 c κs = search rules

returns-2 : tie.Need-returns-then-wide-added invariant-loop decreases-loop
returns-2 c = c.loop-at.invariant

add-end : tie.Need-overflow_add-end invariant-loop decreases-loop
add-end c = omega (arith, limit-small)

returns-3 : tie.Need-returns-then-len-end invariant-loop decreases-loop
returns-3 c = c.loop-at.invariant

sub-after : tie.Need-overflow_sub-after invariant-loop decreases-loop
sub-after c = search rules

add-after : tie.Need-overflow_add-after invariant-loop decreases-loop
add-after c = omega (arith, limit-small)

returns-4 : tie.Need-returns-then-room-after invariant-loop decreases-loop
returns-4 c = c.loop-at.invariant

add_at : tie.Need-overflow_add-at-in-loop-at-2 invariant-loop decreases-loop
add_at c = omega (arith, limit-small)

loop-less : tie.Need-loop-at-smaller invariant-loop decreases-loop
loop-less c = search rules

loop-again : tie.Need-loop-at-preserved invariant-loop decreases-loop
loop-again c =
    let a = c.args in
    let l = c.loop-at in
    let p = c.wide-place.ensures.0 in
    let r = sym c.if-wide-removed.false ∙ c.wide.ensures.0 in
    let d = sym c.if-wide-added.false ∙ c.wide-in-loop-at.ensures.0 in
    let next = walk-next a.history.now a.to a.room l.at l.len l.last (omega arith) c.wide-place.result a.removed a.added p r d in
    (omega arith, omega arith, omega arith, l.invariant.3 ∙ next (omega arith) (omega arith) (omega arith) (omega arith))

returns-5 : tie.Need-returns invariant-loop decreases-loop
returns-5 c = c.loop-at.invariant

pub past_alike_spec : {M : Type 1} → statement M
past_alike_spec =
    tie.close
    (tie.spec
    invariant-loop
    decreases-loop
    add-size
    add-size-2
    loop-holds
    sub-loop
    mul_wide
    shared-slice-read-wide
    wide-requires
    add_wide
    mul-wide-2
    shared-slice-read-wide-2
    wide-requires-2
    returns
    add-wide-2
    mul-wide-3
    shared-slice-read-wide-3
    wide-requires-3
    returns-2
    add-end
    returns-3
    sub-after
    add-after
    returns-4
    add_at
    loop-less
    loop-again
    returns-5)
