use Prim.Native.Nat.{◌+◌, ◌-◌, ◌≤◌}
use mathlib.Core.Path.{◌≡◌, refl, sym, ◌∙◌}
use native.Mathlib.Omega.{arith}
use lib.ListN.{length}
use Rattle.utf7_whole.specs.Mailbox.{Puts, Matches}
use Rattle.utf7_whole.proofs.Buffers.{padded-self}
use Rattle.utf7_whole.proofs.Mailbox.{matches-start, matches-on, puts-in}
use Rattle.utf7_whole.proofs.names.follow.Statement.{statement}
use Rattle.utf7_whole.proofs.names.follow.Tie as tie

abbrev invariant-loop : tie.invariant-loop-at
invariant-loop text cells buffer₀ at₀ n₀ after₀ buffer at n after = Matches text cells (record { at = at; n = n; after = after }) × (length buffer ≡ 1088)

abbrev decreases-loop : tie.decreases-loop-at
decreases-loop text cells buffer₀ at₀ n₀ after₀ buffer at n after = length text - at

loop-holds : tie.Need-loop-at-init invariant-loop decreases-loop
loop-holds c = (matches-start _ _, refl)

slice-aggregate-fill : tie.Need-slice_bounds-fill-end invariant-loop decreases-loop
slice-aggregate-fill c = sym c.loop-at.invariant.1

fill-requires : tie.Need-fill-r-requires invariant-loop decreases-loop
fill-requires c κs = (c.loop-at.invariant.0.within, omega arith)

-- the cells of a part are in the buffer
part :
    (c : tie.After-fill-r invariant-loop decreases-loop) →
    let l = c.before.before.before in
    Puts l.args.text.now (record { at = l.loop-at.at; n = 0; after = l.loop-at.after }) l.loop-at.buffer c.fill-r.result c.fill-r.new.out
part c = let l = c in c.fill-r.ensures _ (padded-self _) l.loop-at.invariant.0.within

kept : (c : tie.After-fill-r invariant-loop decreases-loop) → length c.fill-r.new.out ≡ 1088
kept c = c.fill-r.auto.out ∙ c.loop-at.invariant.1

returns : tie.Need-returns-then-to-at invariant-loop decreases-loop
returns c = c.loop-at.invariant.0

sub-if2 : tie.Need-overflow_sub-cells invariant-loop decreases-loop
sub-if2 c = c.loop-at.invariant.0.inside

returns-2 : tie.Need-returns-then-cells-n invariant-loop decreases-loop
returns-2 c = c.loop-at.invariant.0

room : (c : tie.Else-cells-n invariant-loop decreases-loop) → let f = c.before.before.before in f.loop-at.n + f.fill-r.result.n ≤ length f.args.cells.now
room c = omega (arith, c.if-cells-n.false, c.loop-at.invariant.0.inside)

slice-aggregate-is-same : tie.Need-slice_bounds-is_same-end invariant-loop decreases-loop
slice-aggregate-is-same c = sym (kept c.before.before.before.before)

is-same-requires : tie.Need-is_same-requires invariant-loop decreases-loop
is-same-requires c κs = (puts-in (part c.before.before.before.before) (omega arith), room c.before)

next :
    (c : tie.Then-is_same invariant-loop decreases-loop) →
    let f = c.before.before.before.before.before.before in
    let l = f.before.before.before in
    let r = f.fill-r.result in
    Matches l.args.text.now l.args.cells.now (record { at = r.at; n = l.loop-at.n + r.n; after = r.after })
next c = let f = c.before.before.before.before.before.before in matches-on f.loop-at.invariant.0 (part f) (room c.before.before.before) (sym c.is_same.ensures ∙ c.if-is_same.true)

add-n : tie.Need-overflow_add-n invariant-loop decreases-loop
add-n c = omega (arith, (next c).inside)

loop-less : tie.Need-loop-at-smaller invariant-loop decreases-loop
loop-less c = omega (arith, c.if-to-at.false, c.loop-at-test.true)

loop-again : tie.Need-loop-at-preserved invariant-loop decreases-loop
loop-again c = (next c, kept c.before.before.before.before.before.before)

returns-3 : tie.Need-returns-else-is_same invariant-loop decreases-loop
returns-3 c = c.loop-at.invariant.0

returns-4 : tie.Need-returns invariant-loop decreases-loop
returns-4 c = c.loop-at.invariant.0

pub follow_spec : {M : Type 1} → statement M
follow_spec =
    tie.close
    (tie.spec
    invariant-loop
    decreases-loop
    loop-holds
    slice-aggregate-fill
    fill-requires
    returns
    sub-if2
    returns-2
    slice-aggregate-is-same
    is-same-requires
    add-n
    loop-less
    loop-again
    returns-3
    returns-4)
