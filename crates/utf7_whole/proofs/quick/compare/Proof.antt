use Prim.Native.Nat.{◌+◌, ◌-◌, ◌≤◌}
use mathlib.Core.Path.{◌≡◌, refl, sym, ◌∙◌}
use native.Mathlib.Omega.{arith}
use lib.ListN.{length, take, drop}
use borrow.Author.Rules.{rules}
use Rattle.reading.specs.Reading.{reading}
use Rattle.reading.specs.Matching.{same_cells}
use Rattle.utf7.specs.Rule.{outside, utf7}
use Rattle.utf7_whole.specs.Quick.{Filled, Agrees}
use Rattle.utf7_whole.proofs.Buffers.{padded-part, filled_in}
use Rattle.utf7_whole.proofs.Agreed.{agrees_start, agrees-less, agrees-other, agrees_on}
use Rattle.utf7_whole.proofs.quick.compare.Statement.{statement}
use Rattle.utf7_whole.proofs.quick.compare.Tie as tie

abbrev invariant-loop : tie.invariant-loop-at
invariant-loop text cells buffer₀ at₀ n₀ buffer at n = Agrees text cells at n × (length buffer ≡ 1088)

abbrev decreases-loop : tie.decreases-loop-at
decreases-loop text cells buffer₀ at₀ n₀ buffer at n = length text - at

loop-holds : tie.Need-loop-at-init invariant-loop decreases-loop
loop-holds c = (agrees_start _ _, refl)

sub-fill : tie.Need-slice_bounds-fill-count invariant-loop decreases-loop
sub-fill c = search rules

part-fill-start : tie.Need-slice_bounds-fill-start invariant-loop decreases-loop
part-fill-start c = search rules

part-fill-end : tie.Need-slice_bounds-fill-end invariant-loop decreases-loop
part-fill-end c = search rules

slice-aggregate-fill : tie.Need-slice_bounds-fill-end-in-loop-at invariant-loop decreases-loop
slice-aggregate-fill c = sym c.loop-at.invariant.1

fill-requires : tie.Need-fill-r-requires invariant-loop decreases-loop
fill-requires c κs = search rules

-- the rest of the text was read into the buffer, as far as it takes
part :
    (c : tie.After-fill-r invariant-loop decreases-loop) →
    let l = c.before.before.before.before in Filled (drop l.loop-at.at l.args.text.now) c.fill-r.result.at outside c.fill-r.result.n c.fill-r.new.out
part c = let l = c in c.fill-r.ensures (drop l.loop-at.at l.args.text.now) (padded-part l.args.text.now l.loop-at.at)

kept : (c : tie.After-fill-r invariant-loop decreases-loop) → length c.fill-r.new.out ≡ 1088
kept c = c.fill-r.auto.out ∙ c.loop-at.invariant.1

returns : tie.Need-returns-then-to-eq0 invariant-loop decreases-loop
returns c = c.loop-at.invariant.0

sub-if2 : tie.Need-overflow_sub-cells invariant-loop decreases-loop
sub-if2 c = c.loop-at.invariant.0.inside

returns-2 : tie.Need-returns-then-cells-n invariant-loop decreases-loop
returns-2 c = let f = c.before.before.before in agrees-less f.loop-at.invariant.0 (part f).left c.if-cells-n.true

room : (c : tie.Else-cells-n invariant-loop decreases-loop) → let f = c.before.before.before in f.loop-at.n + f.fill-r.result.n ≤ length f.args.cells.now
room c = omega (arith, c.if-cells-n.false, c.loop-at.invariant.0.inside)

-- what is compared are cells of the rest
same : (c : tie.After-is_same invariant-loop decreases-loop) → let f = c.before.before.before.before.before in let l = f.before.before.before.before in c.is_same.result ≡ same_cells (take f.fill-r.result.n (reading utf7 (drop l.loop-at.at l.args.text.now)).cells) (take f.fill-r.result.n (drop l.loop-at.n l.args.cells.now))
same c = let f = c.before.before.before.before.before in rw (part f).front at c.is_same.ensures

slice-aggregate-is-same : tie.Need-slice_bounds-is_same-end invariant-loop decreases-loop
slice-aggregate-is-same c = sym (kept c.before.before.before.before)

is-same-requires : tie.Need-is_same-requires invariant-loop decreases-loop
is-same-requires c κs = let f = c.before.before.before.before in (filled_in (part f), room c.before)

agreed : (c : tie.Then-is_same invariant-loop decreases-loop) → let f = c.before.before.before.before.before.before in let l = f.before.before.before.before in Agrees l.args.text.now l.args.cells.now (l.loop-at.at + f.fill-r.result.at) (l.loop-at.n + f.fill-r.result.n)
agreed c = let f = c.before.before.before.before.before.before in agrees_on f.loop-at.invariant.0 (part f).left (room c.before.before.before) (sym (same c.before) ∙ c.if-is_same.true)

add_at : tie.Need-overflow_add-at invariant-loop decreases-loop
add_at c = let f = c in omega (arith, (agreed c).within)

add-n : tie.Need-overflow_add-n invariant-loop decreases-loop
add-n c = omega (arith, (agreed c).inside)

loop-less : tie.Need-loop-at-smaller invariant-loop decreases-loop
loop-less c = let f = c in omega (arith, f.loop-at-test.true, c.if-to-eq0.false)

loop-again : tie.Need-loop-at-preserved invariant-loop decreases-loop
loop-again c = (agreed c, kept c.before.before.before.before.before.before)

returns-3 : tie.Need-returns-else-is_same invariant-loop decreases-loop
returns-3 c = let f = c.before.before.before.before.before.before in
    agrees-other f.loop-at.invariant.0 (part f).left (room c.before.before.before) (sym (same c.before) ∙ c.if-is_same.false)

returns-4 : tie.Need-returns invariant-loop decreases-loop
returns-4 c = c.loop-at.invariant.0

pub compare_spec : {M : Type 1} → statement M
compare_spec =
    tie.close
    (tie.spec
    invariant-loop
    decreases-loop
    loop-holds
    sub-fill
    part-fill-start
    part-fill-end
    slice-aggregate-fill
    fill-requires
    returns
    sub-if2
    returns-2
    slice-aggregate-is-same
    is-same-requires
    add_at
    add-n
    loop-less
    loop-again
    returns-3
    returns-4)
