use native.Mathlib.Omega.{arith}
use borrow.Author.Rules.{rules}
use Prim.Native.Nat.{◌-◌, min}
use mathlib.Core.Path.{refl, sym, ◌∙◌}
use Rattle.squeeze.specs.Tracing.{On}
use Rattle.squeeze.proofs.Tracing.{seen, whole-next, kept-within, least-below}
use Rattle.squeeze.proofs.Tracing.{at-kept, at-end, on-passed, on-further}
use Rattle.squeeze.proofs.follow.Statement.{statement}
use Rattle.squeeze.proofs.follow.Tie as tie

abbrev invariant-loop : tie.invariant-loop-at
invariant-loop history from to text start most at₀ cell₀ count₀ at cell count =
    On from to history text start most at cell count

abbrev decreases-loop : tie.decreases-loop-at
decreases-loop history from to text start most at₀ cell₀ count₀ at cell count = to - at

loop-holds : tie.Need-loop-at-init invariant-loop decreases-loop
loop-holds c =
    let p = c.requires in
    record { leads = p.0; some = p.1; few = omega arith; part = p.2; same = refl }

head-at-requires : tie.Need-head_at-head-requires invariant-loop decreases-loop
head-at-requires c κs =
    let a = c.args in
    let l = c.loop-at in
    whole-next l.at a.to a.history.now a.text.now l.invariant.leads (omega arith)

is-kept-requires : tie.Need-is_kept-requires invariant-loop decreases-loop
is-kept-requires c κs = search rules

sub-behind : tie.Need-overflow_sub-behind invariant-loop decreases-loop
sub-behind c =
    let a = c.args in
    let l = c.loop-at in
    let h = c.head_at-head in
    let k = kept-within h.result l.cell (sym c.is_kept.ensures ∙ c.if-is_kept.true) in
    k.0

add-t16 : tie.Need-overflow_add-result invariant-loop decreases-loop
add-t16 c =
    let a = c.args in
    let l = c.loop-at in
    let h = c.head_at-head in
    let x = seen l.at a.to a.history.now a.text.now l.invariant.leads (omega arith) h.result
    h.ensures in
    omega (arith, x.size, x.ends, l.invariant.leads.within)

add-t17 : tie.Need-overflow_add-result-then-is_kept invariant-loop decreases-loop
add-t17 c =
    let a = c.args in
    let l = c.loop-at in
    let h = c.head_at-head in
    let x = seen l.at a.to a.history.now a.text.now l.invariant.leads (omega arith) h.result
    h.ensures in
    let k = kept-within h.result l.cell (sym c.is_kept.ensures ∙ c.if-is_kept.true) in
    omega (arith, x.size, x.ends, l.invariant.leads.within, k.1)

sub-lesser : tie.Need-overflow_sub-head invariant-loop decreases-loop
sub-lesser c =
    let a = c.args in
    let l = c.loop-at in
    let h = c.head_at-head in
    let k = kept-within h.result l.cell
    (sym c.is_kept.ensures ∙ c.if-is_kept.true) in
    omega (arith, k.1)

lesser-requires : tie.Need-min-requires invariant-loop decreases-loop
lesser-requires c κs = search rules

returns : tie.Need-returns-then-is_kept invariant-loop decreases-loop
returns c =
    let a = c.args in
    let l = c.loop-at in
    let h = c.head_at-head in
    let x = seen l.at a.to a.history.now a.text.now l.invariant.leads (omega arith) h.result
    h.ensures in
    let k = kept-within h.result l.cell
    (sym c.is_kept.ensures ∙ c.if-is_kept.true) in
    let m = h.result.removed - (l.cell - h.result.place) in
    let n = least-below l.count m l.invariant.some (omega (arith, k.1)) in
    rw c.min.ensures
    (at-kept x l.invariant k.0 (min l.count m) n.0 n.1 (omega (arith, k.1, n.2)))

past-requires : tie.Need-past-next-requires invariant-loop decreases-loop
past-requires c κs =
    let a = c.args in
    let l = c.loop-at in
    let h = c.head_at-head in
    let x = seen l.at a.to a.history.now a.text.now l.invariant.leads (omega arith) h.result
    h.ensures in
    let n = sym c.is_kept.ensures ∙ c.if-is_kept.false in
    (n, omega (arith, x.after, x.below, x.inside, l.invariant.part))

past-alike-requires : tie.Need-past_alike-run-requires invariant-loop decreases-loop
past-alike-requires c κs =
    let a = c.args in
    let l = c.loop-at in
    let h = c.head_at-head in
    let x = seen l.at a.to a.history.now a.text.now l.invariant.leads (omega arith) h.result
    h.ensures in
    let n = sym c.is_kept.ensures ∙ c.if-is_kept.false in
    let t = on-passed x l.invariant n c.past-next.result c.past-next.ensures in
    (t.1.leads, t.1.some, omega (arith, x.size, x.ends), t.1.part)

loop-less : tie.Need-loop-at-smaller invariant-loop decreases-loop
loop-less c =
    let a = c.args in
    let l = c.loop-at in
    let h = c.head_at-head in
    let x = seen l.at a.to a.history.now a.text.now l.invariant.leads (omega arith) h.result
    h.ensures in
    let n = sym c.is_kept.ensures ∙ c.if-is_kept.false in
    let q = c.past-next in
    let t = on-passed x l.invariant n q.result q.ensures in
    omega (arith, t.0, x.size, c.past_alike-run.ensures.0, c.past_alike-run.ensures.1)

loop-again : tie.Need-loop-at-preserved invariant-loop decreases-loop
loop-again c =
    let a = c.args in
    let l = c.loop-at in
    let h = c.head_at-head in
    let x = seen l.at a.to a.history.now a.text.now l.invariant.leads (omega arith) h.result
    h.ensures in
    let n = sym c.is_kept.ensures ∙ c.if-is_kept.false in
    let q = c.past-next in
    let t = on-passed x l.invariant n q.result q.ensures in
    on-further t.1 c.past_alike-run.ensures.2

returns-2 : tie.Need-returns invariant-loop decreases-loop
returns-2 c = at-end c.loop-at.invariant (omega arith)

pub follow_spec : {M : Type 1} → statement M
follow_spec =
    tie.close
    (tie.spec
    invariant-loop
    decreases-loop
    loop-holds
    head-at-requires
    is-kept-requires
    sub-behind
    add-t16
    add-t17
    sub-lesser
    lesser-requires
    returns
    past-requires
    past-alike-requires
    loop-less
    loop-again
    returns-2)
