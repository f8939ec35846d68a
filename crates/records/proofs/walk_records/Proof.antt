use native.Mathlib.Omega.{arith}
use borrow.Author.Rules.{rules}
use Prim.Native.Nat.{◌-◌, ◌≤◌}
use mathlib.Core.Path.{◌≡◌, refl, sym, ◌∙◌}
use lib.Seq.{slice}
use Rattle.answer.proofs.Once.{limit-small}
use Rattle.records.specs.Walking.{walk_in}
use Rattle.records.proofs.Walks.{walk_end, walk-cut, walk-past, walk-beyond, walk-long, walk-next}
use Rattle.records.proofs.walk_records.Statement.{statement}
use Rattle.records.proofs.walk_records.Tie as tie

abbrev invariant-loop : tie.invariant-loop-at
invariant-loop history from to start before room at₀ len₀ last₀ at len last = (at ≤ to) × (len ≤ room) × (walk_in room from start before (slice from to history) ≡ walk_in room at len last (slice at to history))

abbrev decreases-loop : tie.decreases-loop-at
decreases-loop history from to start before room at₀ len₀ last₀ at len last = to - at

loop-holds : tie.Need-loop-at-init invariant-loop decreases-loop
loop-holds c = (omega arith, omega arith, refl)

sub-if1 : tie.Need-overflow_sub-to invariant-loop decreases-loop
sub-if1 c = search rules

returns : tie.Need-returns-then-to-at-lt3 invariant-loop decreases-loop
returns c =
    let a = c.args in
    let l = c.loop-at in
    sym (l.invariant.2 ∙ walk-cut a.history.now a.to a.room l.at l.len l.last (omega arith) (omega arith) (omega arith))

mul_wide : tie.Need-offset_bounds-history-at invariant-loop decreases-loop
mul_wide c = search rules

shared-slice-read-wide : tie.Need-bounds-history-at invariant-loop decreases-loop
shared-slice-read-wide c = search rules

wide-requires : tie.Need-wide-place-requires invariant-loop decreases-loop
wide-requires c κs = search rules

add_wide : tie.Need-overflow_add-at invariant-loop decreases-loop
add_wide c = search rules

mul-wide-2 : tie.Need-offset_bounds-history-at-in-loop-at invariant-loop decreases-loop
mul-wide-2 c = search rules

shared-slice-read-wide-2 : tie.Need-bounds-history-at-in-loop-at invariant-loop decreases-loop
shared-slice-read-wide-2 c = search rules

wide-requires-2 : tie.Need-wide-removed-requires invariant-loop decreases-loop
wide-requires-2 c κs = search rules

add-wide-2 : tie.Need-overflow_add-at-in-loop-at invariant-loop decreases-loop
add-wide-2 c = search rules

mul-wide-3 : tie.Need-offset_bounds-history-at-in-loop-at-2 invariant-loop decreases-loop
mul-wide-3 c = search rules

shared-slice-read-wide-3 : tie.Need-bounds-history-at-in-loop-at-2 invariant-loop decreases-loop
shared-slice-read-wide-3 c = search rules

wide-requires-3 : tie.Need-wide-added-requires invariant-loop decreases-loop
wide-requires-3 c κs = search rules

add-size : tie.Need-overflow_add-size invariant-loop decreases-loop
add-size c = omega (arith, limit-small)

add-size-2 : tie.Need-overflow_add-size-in-loop-at invariant-loop decreases-loop
add-size-2 c = omega (arith, limit-small)

sub-if2 : tie.Need-overflow_sub-to-in-loop-at invariant-loop decreases-loop
sub-if2 c = search rules

returns-2 : tie.Need-returns-then-to-at invariant-loop decreases-loop
returns-2 c =
    let a = c.args in
    let l = c.loop-at in
    let p = c.wide-place in
    let r = c.wide-removed in
    let d = c.wide-added in
    sym (l.invariant.2 ∙ walk-past a.history.now a.to a.room l.at l.len l.last (omega arith) p.result r.result d.result p.ensures.0 r.ensures.0 d.ensures.0 (omega arith) (omega arith))

add-if3 : tie.Need-overflow_add-place invariant-loop decreases-loop
add-if3 c = omega (arith, limit-small)

returns-3 : tie.Need-returns-then-len-place invariant-loop decreases-loop
returns-3 c =
    let a = c.args in
    let l = c.loop-at in
    let p = c.wide-place in
    let r = c.wide-removed in
    let d = c.wide-added in
    sym (l.invariant.2 ∙ walk-beyond a.history.now a.to a.room l.at l.len l.last (omega arith) p.result r.result d.result p.ensures.0 r.ensures.0 d.ensures.0 (omega arith) (omega arith) (omega arith))

sub-after : tie.Need-overflow_sub-after invariant-loop decreases-loop
sub-after c = search rules

add-after : tie.Need-overflow_add-after invariant-loop decreases-loop
add-after c = omega (arith, limit-small)

returns-4 : tie.Need-returns-then-room-after invariant-loop decreases-loop
returns-4 c =
    let a = c.args in
    let l = c.loop-at in
    let p = c.wide-place in
    let r = c.wide-removed in
    let d = c.wide-added in
    sym (l.invariant.2 ∙ walk-long a.history.now a.to a.room l.at l.len l.last (omega arith) p.result r.result d.result p.ensures.0 r.ensures.0 d.ensures.0 (omega arith) (omega arith) (omega arith) (omega arith))

add-end : tie.Need-overflow_add-end invariant-loop decreases-loop
add-end c = omega (arith, limit-small)

past-alike-requires : tie.Need-past_alike-run-requires invariant-loop decreases-loop
past-alike-requires c κs = omega arith

loop-less : tie.Need-loop-at-smaller invariant-loop decreases-loop
loop-less c = omega arith

loop-again : tie.Need-loop-at-preserved invariant-loop decreases-loop
loop-again c =
    let a = c.args in
    let l = c.loop-at in
    let p = c.wide-place in
    let r = c.wide-removed in
    let d = c.wide-added in
    let run = c.past_alike-run.ensures in
    (run.1, run.2, l.invariant.2 ∙ walk-next a.history.now a.to a.room l.at l.len l.last (omega arith) p.result r.result d.result p.ensures.0 r.ensures.0 d.ensures.0 (omega arith) (omega arith) (omega arith) (omega arith) ∙ run.3)

returns-5 : tie.Need-returns invariant-loop decreases-loop
returns-5 c =
    let a = c.args in
    let l = c.loop-at in
    sym (l.invariant.2 ∙ walk_end a.history.now a.to a.room l.at l.len l.last (omega arith) (omega arith))

pub walk_records_spec : {M : Type 1} → statement M
walk_records_spec =
    tie.close
    (tie.spec
    invariant-loop
    decreases-loop
    loop-holds
    sub-if1
    returns
    mul_wide
    shared-slice-read-wide
    wide-requires
    add_wide
    mul-wide-2
    shared-slice-read-wide-2
    wide-requires-2
    add-wide-2
    mul-wide-3
    shared-slice-read-wide-3
    wide-requires-3
    add-size
    add-size-2
    sub-if2
    returns-2
    add-if3
    returns-3
    sub-after
    add-after
    returns-4
    add-end
    past-alike-requires
    loop-less
    loop-again
    returns-5)
