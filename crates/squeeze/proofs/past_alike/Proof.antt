use native.Mathlib.Omega.{arith}
use borrow.Author.Rules.{rules}
use Prim.Native.Nat.{◌-◌, ◌≤◌}
use mathlib.Core.Path.{refl, sym, ◌∙◌}
use Rattle.squeeze.specs.Tracing.{On}
use Rattle.squeeze.proofs.Tracing.{seen, on-passed, read_alike}
use Rattle.squeeze.proofs.past_alike.Statement.{statement}
use Rattle.squeeze.proofs.past_alike.Tie as tie

abbrev invariant-loop : tie.invariant-loop-at
invariant-loop history to text removed added size at₀ cell₀ count₀ at cell count =
    (at₀ ≤ at) × (at ≤ to) × On at₀ to history text cell₀ count₀ at cell count

abbrev decreases-loop : tie.decreases-loop-at
decreases-loop history to text removed added size at₀ cell₀ count₀ at cell count = to - at

add-size : tie.Need-overflow_add-size invariant-loop decreases-loop
add-size c = search rules

add-size-2 : tie.Need-overflow_add-size-2 invariant-loop decreases-loop
add-size-2 c = search rules

loop-holds : tie.Need-loop-at-init invariant-loop decreases-loop
loop-holds c =
    let p = c.requires in
    (omega arith, p.0.order, record { leads = p.0; some = p.1; few = omega arith; part = p.3; same = refl })

sub-loop : tie.Need-overflow_sub-to invariant-loop decreases-loop
sub-loop c = search rules

add_wide : tie.Need-overflow_add-at invariant-loop decreases-loop
add_wide c =
    let l = c.loop-at in
    omega (arith, l.invariant.2.leads.within)

mul_wide : tie.Need-offset_bounds-history-at invariant-loop decreases-loop
mul_wide c =
    let l = c.loop-at in
    omega (arith, l.invariant.2.leads.within)

shared-slice-read-wide : tie.Need-bounds-history-at invariant-loop decreases-loop
shared-slice-read-wide c =
    let l = c.loop-at in
    omega (arith, l.invariant.2.leads.within)

wide-requires : tie.Need-wide-requires invariant-loop decreases-loop
wide-requires c κs = search rules

returns : tie.Need-returns-then-wide-removed invariant-loop decreases-loop
returns c = c.loop-at.invariant

add-wide-2 : tie.Need-overflow_add-at-in-loop-at invariant-loop decreases-loop
add-wide-2 c =
    let l = c.loop-at in
    omega (arith, l.invariant.2.leads.within)

mul-wide-2 : tie.Need-offset_bounds-history-at-in-loop-at invariant-loop decreases-loop
mul-wide-2 c =
    let l = c.loop-at in
    omega (arith, l.invariant.2.leads.within)

shared-slice-read-wide-2 : tie.Need-bounds-history-at-in-loop-at invariant-loop decreases-loop
shared-slice-read-wide-2 c =
    let l = c.loop-at in
    omega (arith, l.invariant.2.leads.within)

wide-requires-2 : tie.Need-wide-requires-in-loop-at invariant-loop decreases-loop
wide-requires-2 c κs = search rules

returns-2 : tie.Need-returns-then-wide-added invariant-loop decreases-loop
returns-2 c = c.loop-at.invariant

mul-wide-3 : tie.Need-offset_bounds-history-at-in-loop-at-2 invariant-loop decreases-loop
mul-wide-3 c =
    let l = c.loop-at in
    omega (arith, l.invariant.2.leads.within)

shared-slice-read-wide-3 : tie.Need-bounds-history-at-in-loop-at-2 invariant-loop decreases-loop
shared-slice-read-wide-3 c =
    let l = c.loop-at in
    omega (arith, l.invariant.2.leads.within)

wide-requires-3 : tie.Need-wide-requires-in-loop-at-2 invariant-loop decreases-loop
wide-requires-3 c κs = search rules

add-t17 : tie.Need-overflow_add-head invariant-loop decreases-loop
add-t17 c =
    let l = c.loop-at in
    omega (arith, l.invariant.2.leads.within)

is-kept-requires : tie.Need-is_kept-requires invariant-loop decreases-loop
is-kept-requires c κs = search rules

returns-3 : tie.Need-returns-then-is_kept invariant-loop decreases-loop
returns-3 c = c.loop-at.invariant

past-requires : tie.Need-past-next-requires invariant-loop decreases-loop
past-requires c κs =
    let a = c.args in
    let l = c.loop-at in
    let o = l.invariant.2 in
    let place = c.wide-in-loop-at-2 in
    let r = read_alike a.history.now l.at place.result a.removed a.added place.ensures.0
    (sym c.if-wide-removed.false
    ∙ c.wide.ensures.0)
    (sym c.if-wide-added.false
    ∙ c.wide-in-loop-at.ensures.0) in
    let x = seen l.at a.to a.history.now a.text.now o.leads (omega arith) _ r in
    let n = sym c.is_kept.ensures ∙ c.if-is_kept.false in
    (n, omega (arith, x.after, x.below, x.inside, o.part))

loop-less : tie.Need-loop-at-smaller invariant-loop decreases-loop
loop-less c =
    let a = c.args in
    let l = c.loop-at in
    let o = l.invariant.2 in
    let place = c.wide-in-loop-at-2 in
    let r = read_alike a.history.now l.at place.result a.removed a.added place.ensures.0
    (sym c.if-wide-removed.false
    ∙ c.wide.ensures.0)
    (sym c.if-wide-added.false
    ∙ c.wide-in-loop-at.ensures.0) in
    let x = seen l.at a.to a.history.now a.text.now o.leads (omega arith) _ r in
    let n = sym c.is_kept.ensures ∙ c.if-is_kept.false in
    let t = on-passed x o n c.past-next.result c.past-next.ensures in
    omega (arith, t.0)

loop-again : tie.Need-loop-at-preserved invariant-loop decreases-loop
loop-again c =
    let a = c.args in
    let l = c.loop-at in
    let o = l.invariant.2 in
    let place = c.wide-in-loop-at-2 in
    let r = read_alike a.history.now l.at place.result a.removed a.added place.ensures.0
    (sym c.if-wide-removed.false
    ∙ c.wide.ensures.0)
    (sym c.if-wide-added.false
    ∙ c.wide-in-loop-at.ensures.0) in
    let x = seen l.at a.to a.history.now a.text.now o.leads (omega arith) _ r in
    let n = sym c.is_kept.ensures ∙ c.if-is_kept.false in
    let t = on-passed x o n c.past-next.result c.past-next.ensures in
    (omega (arith, t.0, l.invariant.0), omega (arith, t.0, x.ends), t.1)

returns-4 : tie.Need-returns invariant-loop decreases-loop
returns-4 c = c.loop-at.invariant

pub past_alike_spec : {M : Type 1} → statement M
past_alike_spec =
    tie.close
    (tie.spec
    invariant-loop
    decreases-loop
    add-size
    add-size-2
    loop-holds
    sub-loop
    add_wide
    mul_wide
    shared-slice-read-wide
    wide-requires
    returns
    add-wide-2
    mul-wide-2
    shared-slice-read-wide-2
    wide-requires-2
    returns-2
    mul-wide-3
    shared-slice-read-wide-3
    wide-requires-3
    add-t17
    is-kept-requires
    returns-3
    past-requires
    loop-less
    loop-again
    returns-4)
