use Prim.Native.Nat.{◌+◌, ◌-◌, ◌<◌, ◌≤◌}
use native.Mathlib.Omega.{arith}
use mathlib.Core.List.{[], ◌∷◌}
use lib.ListN.{length}
use borrow.Author.Rules.{rules}
use Rattle.reading.proofs.Strides.{Stride}
use Rattle.jp2.specs.Rule.{plain, state, jp2}
use Rattle.jp2_whole.specs.Quick.{Laying}
use Rattle.jp2_whole.proofs.Tokens.{high-stride}
use Rattle.jp2_whole.proofs.Laying.{laying-start, laying-one, laying-more}
use Rattle.jp2_whole.proofs.quick.fill.Statement.{statement}
use Rattle.jp2_whole.proofs.quick.fill.Tie as tie

abbrev invariant-loop : tie.invariant-loop-at
invariant-loop text out₀ at₀ n₀ g0₀ g2₀ next₀ to out at n g0 g2 next =
    Laying text at₀ g0₀ g2₀ n₀ out₀ at g0 g2 n out × ((n + (to - at) ≤ length out) × (to ≤ length text))

abbrev decreases-loop : tie.decreases-loop-at
decreases-loop text out₀ at₀ n₀ g0₀ g2₀ next₀ to out at n g0 g2 next = length text - at

sub-reach : tie.Need-overflow_sub-out invariant-loop decreases-loop
sub-reach c = search rules

reach-requires : tie.Need-reach-to-requires invariant-loop decreases-loop
reach-requires c κs = c.requires.0

loop-holds : tie.Need-loop-at-init invariant-loop decreases-loop
loop-holds c =
    let p = c.requires in
    let r = c.reach-to.ensures in
    (laying-start p.0 p.1, (omega (arith, r.0, r.1.1, p.1), r.1.0))

-- there is a byte, and a place for its cell
byte : (c : tie.In-loop-at invariant-loop decreases-loop) → c.loop-at.at < length c.args.text.now
byte c = omega (arith, c.loop-at-test.true, c.loop-at.invariant.1.1)

place : (c : tie.In-loop-at invariant-loop decreases-loop) → c.loop-at.n < length c.loop-at.out
place c = omega (arith, c.loop-at-test.true, c.loop-at.invariant.1.0)

shared-slice-read-b : tie.Need-bounds-text-at invariant-loop decreases-loop
shared-slice-read-b c = byte c.before

is-lone-requires : tie.Need-is_lone-requires invariant-loop decreases-loop
is-lone-requires c κs = search rules

single-cell-requires : tie.Need-single_cell-requires invariant-loop decreases-loop
single-cell-requires c κs = search rules

lone :
    (c : tie.After-single_cell invariant-loop decreases-loop) →
    let l = c.before.before.before.before.before in
    Stride jp2 c.args.text.now l.loop-at.at (state l.loop-at.g0 l.loop-at.g2 plain) (l.loop-at.at + 1) (c.single_cell.result ∷ []) (state l.loop-at.g0 l.loop-at.g2 plain)
lone c =
    let b = c.is_lone.ensures c.if-is_lone.true in
    rw c.single_cell.ensures (high-stride (byte c.before.before.before.before) b.1 b.0.0 b.0.1)

mul-out : tie.Need-offset_bounds-out-n invariant-loop decreases-loop
mul-out c = omega (arith, place c.before.before.before.before, c.loop-at.invariant.0.laid.same, c.well_formed)

slice-write-out : tie.Need-bounds-out-n invariant-loop decreases-loop
slice-write-out c = place c.before.before.before.before

add-n : tie.Need-overflow_add-n invariant-loop decreases-loop
add-n c = omega (arith, place c.before.before.before.before, c.loop-at.invariant.0.laid.same, c.well_formed)

add_at : tie.Need-overflow_add-at invariant-loop decreases-loop
add_at c = omega (arith, byte c.before.before.before.before, c.well_formed)

loop-less : tie.Need-loop-at-smaller-then-is_lone invariant-loop decreases-loop
loop-less c = omega (arith, byte c.before.before.before.before)

loop-again : tie.Need-loop-at-preserved-then-is_lone invariant-loop decreases-loop
loop-again c =
    let i = c.loop-at.invariant in
    let p = laying-one i.0 (lone c) (place c.before.before.before.before) in
    (p, (omega (arith, i.1.0, c.loop-at-test.true, i.0.laid.same, p.laid.same), i.1.1))

put-token-requires : tie.Need-put_token-r-requires invariant-loop decreases-loop
put-token-requires c κs =
    let i = c.loop-at.invariant in
    record { byte = c.loop-at-test.true; within = i.1.1; places = i.1.0 }

more :
    (c : tie.After-put_token-r invariant-loop decreases-loop) →
    let a = c.args in
    let r = c.put_token-r.result in
    Laying a.text.now a.from.at a.from.g0 a.from.g2 a.from.n a.out.now r.at r.g0 r.g2 r.n c.put_token-r.new.out
more c = laying-more c.loop-at.invariant.0 c.put_token-r.ensures.0

same_length : tie.Need-shape_of-out-then-r-at invariant-loop decreases-loop
same_length c = (more c.before.before.before.before).laid.same

returns : tie.Need-returns-then-r-at invariant-loop decreases-loop
returns c = more c.before.before.before.before

add-next : tie.Need-overflow_add-next invariant-loop decreases-loop
add-next c = omega (arith, (more c.before.before.before.before).goes.within, c.well_formed)

loop-less-2 : tie.Need-loop-at-smaller invariant-loop decreases-loop
loop-less-2 c = omega (arith, c.if-r-at.false, byte c.before.before.before.before.before.before.before.before.before)

loop-again-2 : tie.Need-loop-at-preserved invariant-loop decreases-loop
loop-again-2 c = (more c.before.before.before.before, (c.put_token-r.ensures.1, c.loop-at.invariant.1.1))

same-length-2 : tie.Need-shape_of-out invariant-loop decreases-loop
same-length-2 c = c.loop-at.invariant.0.laid.same

returns-2 : tie.Need-returns invariant-loop decreases-loop
returns-2 c = c.loop-at.invariant.0

pub fill_spec : {M : Type 1} → statement M
fill_spec =
    tie.close
    (tie.spec
    invariant-loop
    decreases-loop
    sub-reach
    reach-requires
    loop-holds
    shared-slice-read-b
    is-lone-requires
    single-cell-requires
    mul-out
    slice-write-out
    add-n
    add_at
    loop-less
    loop-again
    put-token-requires
    same_length
    returns
    add-next
    loop-less-2
    loop-again-2
    same-length-2
    returns-2)
