use Prim.Native.Nat.{ℕ, ◌+◌, ◌-◌, ◌<◌, ◌≤◌}
use native.Mathlib.Omega.{arith}
use lib.ListN.{length, length-set}
use lib.Seq.{slice}
use borrow.Author.Rules.{rules}
use Rattle.marks.proofs.Counting.{ahead-le}
use Rattle.utf7.specs.Sets.{direct}
use Rattle.answer.proofs.Laid.{Laid}
use Rattle.utf7_whole.specs.Quick.{Span, Fills}
use Rattle.utf7_whole.proofs.Buffers.{span-marked, laid-slice, fills-none, fills-on, filled-direct, filled-one}
use Rattle.utf7_whole.proofs.quick.put_shorts.Statement.{statement}
use Rattle.utf7_whole.proofs.quick.put_shorts.Tie as tie

abbrev invariant-loop : tie.invariant-loop-at
invariant-loop text from out₀ start at₀ n₀ marks out at n = Fills text from start out₀ at n out × (n ≤ length out)

abbrev decreases-loop : tie.decreases-loop-at
decreases-loop text from out₀ start at₀ n₀ marks out at n = from + 128 - at

add-if1 : tie.Need-overflow_add-from invariant-loop decreases-loop
add-if1 c = omega (arith, c.requires.0)

returns : tie.Need-returns-then-text-from invariant-loop decreases-loop
returns c = fills-none _ _ _ _

mark-requires : tie.Need-mark-marks-requires invariant-loop decreases-loop
mark-requires c κs = search rules

loop-holds : tie.Need-loop-at-init invariant-loop decreases-loop
loop-holds c = (fills-none _ _ _ _, c.requires.1)

add-loop : tie.Need-overflow_add-from-in-loop-at invariant-loop decreases-loop
add-loop c = omega (arith, c.if-text-from.false)

add-if2 : tie.Need-overflow_add-n invariant-loop decreases-loop
add-if2 c = search rules

same_length : tie.Need-shape_of-out-then-out-n invariant-loop decreases-loop
same_length c = c.loop-at.invariant.0.same

returns-2 : tie.Need-returns-then-out-n invariant-loop decreases-loop
returns-2 c = c.loop-at.invariant.0

slice-aggregate-ahead : tie.Need-slice_bounds-ahead-end invariant-loop decreases-loop
slice-aggregate-ahead c = search rules

sub-ahead : tie.Need-overflow_sub-at invariant-loop decreases-loop
sub-ahead c = omega (arith, c.loop-at.invariant.0.on)

ahead-requires : tie.Need-ahead-k-requires invariant-loop decreases-loop
ahead-requires c κs = search rules

cells-ahead-requires : tie.Need-cells_ahead-requires invariant-loop decreases-loop
cells-ahead-requires c κs = omega (arith, c.loop-at-test.true, c.if-text-from.false)

put-cells-requires : tie.Need-put_cells-requires invariant-loop decreases-loop
put-cells-requires c κs = search rules

-- behind the bytes that stand for themselves
abbrev W : Type 0
W = tie.After-slice_known-in-loop-at-1 invariant-loop decreases-loop

abbrev top : W → tie.In-loop-at invariant-loop decreases-loop
top c = c.before.before.before.before.before.before.before.before

abbrev begun : W → tie.After-mark-marks invariant-loop decreases-loop
begun c = (top c).before.before

abbrev size : W → ℕ
size c = c.ahead-k.result

few : (c : W) → size c ≤ 16
few c = omega (arith, c.ahead-k.ensures, ahead-le (begun c).mark-marks.result ((top c).loop-at.at - (begun c).args.from))

inside : (c : W) → (top c).loop-at.at + 21 ≤ length (begun c).args.text.now
inside c = omega (arith, (top c).loop-at-test.true, (begun c).if-text-from.false)

span : (c : W) → let at = (top c).loop-at.at in Span direct (begun c).args.text.now at (at + size c)
span c = let l = (top c).loop-at in
    let a = (begun c).args in
    span-marked (begun c).mark-marks.ensures (l.at - a.from) c.ahead-k.ensures (omega (arith, l.invariant.0.on)) (omega (arith, (top c).loop-at-test.true)) (omega (arith, inside c))

laid : (c : W) → let l = (top c).loop-at in Laid (slice l.at (l.at + size c) (begun c).args.text.now) l.n l.out c.put_cells.new.out
laid c = let l = (top c).loop-at in
    laid-slice (begun c).args.text.now l.at (l.at + size c) (l.at + 16) (omega arith) (omega (arith, few c)) (omega (arith, inside c))
    (rw c.cells_ahead.ensures at c.put_cells.ensures) l.invariant.1

stretch :
    (c : W) → let l = (top c).loop-at in
    let a = (begun c).args in
    Fills a.text.now a.from a.start a.out.now (l.at + size c) (l.n + size c) c.put_cells.new.out
stretch c = fills-on (top c).loop-at.invariant.0 (omega arith) c.put_cells.ensures.same (λ s p f. filled-direct f p _ (span c) (laid c))

room : (c : W) → (top c).loop-at.n + size c < length c.put_cells.new.out
room c = omega (arith, few c, c.if-out-n.false, c.put_cells.ensures.same)

add_at : tie.Need-overflow_add-at invariant-loop decreases-loop
add_at c = omega (arith, few c, inside c)

add-n : tie.Need-overflow_add-n-in-loop-at invariant-loop decreases-loop
add-n c = omega (arith, room c)

sign-at-requires : tie.Need-sign_at-one-requires invariant-loop decreases-loop
sign-at-requires c κs = omega (arith, c.if-k-lt16.true, inside c.before)

same-length-2 : tie.Need-shape_of-out-then-one-gt65535 invariant-loop decreases-loop
same-length-2 c = (stretch c.before.before.before).same

returns-3 : tie.Need-returns-then-one-gt65535 invariant-loop decreases-loop
returns-3 c = stretch c.before.before.before

mul-out : tie.Need-offset_bounds-out-n invariant-loop decreases-loop
mul-out c = omega (arith, room c.before.before.before)

slice-write-out : tie.Need-bounds-out-n invariant-loop decreases-loop
slice-write-out c = room c.before.before.before

add-n-2 : tie.Need-overflow_add-n-then-k-lt16 invariant-loop decreases-loop
add-n-2 c = omega (arith, room c.before.before.before)

add-at-2 : tie.Need-overflow_add-at-then-k-lt16 invariant-loop decreases-loop
add-at-2 c = omega (arith, few c.before.before.before, inside c.before.before.before)

loop-less : tie.Need-loop-at-smaller-then-k-lt16 invariant-loop decreases-loop
loop-less c = omega (arith, (top c.before.before.before).loop-at-test.true)

loop-again : tie.Need-loop-at-preserved-then-k-lt16 invariant-loop decreases-loop
loop-again c = let w = c.before.before.before in
    let o = c.sign_at-one.ensures (omega (arith, c.if-one-gt65535.false)) in
    (fills-on (stretch w) (omega arith) (simp length-set) (λ s p f. filled-one f p o.0 (room w) o.1), simp length-set (omega (arith, room w)))

loop-less-2 : tie.Need-loop-at-smaller invariant-loop decreases-loop
loop-less-2 c = omega (arith, few c.before, c.if-k-lt16.false, (top c.before).loop-at-test.true)

loop-again-2 : tie.Need-loop-at-preserved invariant-loop decreases-loop
loop-again-2 c = (stretch c.before, omega (arith, room c.before))

same-length-3 : tie.Need-shape_of-out invariant-loop decreases-loop
same-length-3 c = c.loop-at.invariant.0.same

returns-4 : tie.Need-returns invariant-loop decreases-loop
returns-4 c = c.loop-at.invariant.0

pub put_shorts_spec : {M : Type 1} → statement M
put_shorts_spec =
    tie.close
    (tie.spec
    invariant-loop
    decreases-loop
    add-if1
    returns
    mark-requires
    loop-holds
    add-loop
    add-if2
    same_length
    returns-2
    slice-aggregate-ahead
    sub-ahead
    ahead-requires
    cells-ahead-requires
    put-cells-requires
    add_at
    add-n
    sign-at-requires
    same-length-2
    returns-3
    mul-out
    slice-write-out
    add-n-2
    add-at-2
    loop-less
    loop-again
    loop-less-2
    loop-again-2
    same-length-3
    returns-4)
