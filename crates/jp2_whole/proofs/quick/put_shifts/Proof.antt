use Prim.Native.Nat.{ℕ, ◌+◌, ◌-◌, ◌≤◌}
use mathlib.Core.Path.{◌≡◌, ◌∙◌}
use mathlib.Core.List.{[], ◌∷◌}
use native.Mathlib.Omega.{arith}
use lib.ListN.{length}
use borrow.Author.Rules.{rules}
use Rattle.marks.proofs.Counting.{ahead-le}
use Rattle.reading.proofs.Strides.{Stride}
use Rattle.jp2.specs.Rule.{plain, state, jp2}
use Rattle.jp2_whole.specs.Quick.{Shift, Spanned, Laying, printing}
use Rattle.jp2_whole.proofs.Tokens.{shift-stride, prints-stride, spanned-marked, laid-printed, cells_of, cells-length}
use Rattle.jp2_whole.proofs.Laying.{laying-start, laying-on, laying-one}
use Rattle.jp2_whole.proofs.quick.put_shifts.Statement.{statement}
use Rattle.jp2_whole.proofs.quick.put_shifts.Tie as tie

abbrev invariant-loop : tie.invariant-loop-at
invariant-loop text out₀ start g2 at₀ n₀ marks out at n = Laying text start 6 g2 n₀ out₀ at 6 g2 n out

abbrev decreases-loop : tie.decreases-loop-at
decreases-loop text out₀ start g2 at₀ n₀ marks out at n = start + 128 - at

add-if1 : tie.Need-overflow_add-start invariant-loop decreases-loop
add-if1 c = omega (arith, c.requires.0, c.well_formed)

returns : tie.Need-returns-then-text-start invariant-loop decreases-loop
returns c = laying-start c.requires.0 c.requires.1

mark-requires : tie.Need-mark-marks-requires invariant-loop decreases-loop
mark-requires c κs = search rules

loop-holds : tie.Need-loop-at-init invariant-loop decreases-loop
loop-holds c = laying-start c.requires.0 c.requires.1

add-loop : tie.Need-overflow_add-start-in-loop-at invariant-loop decreases-loop
add-loop c = omega (arith, c.if-text-start.false, c.well_formed)

-- many bytes follow
inside : (c : tie.In-loop-at invariant-loop decreases-loop) → c.loop-at.at + 16 ≤ length c.args.text.now
inside c = omega (arith, c.loop-at-test.true, c.if-text-start.false)

add-if2 : tie.Need-overflow_add-n invariant-loop decreases-loop
add-if2 c = omega (arith, c.loop-at.invariant.fits, c.loop-at.invariant.laid.same, c.well_formed)

same_length : tie.Need-shape_of-out-then-out-n invariant-loop decreases-loop
same_length c = c.loop-at.invariant.laid.same

returns-2 : tie.Need-returns-then-out-n invariant-loop decreases-loop
returns-2 c = rw c.requires.2 c.loop-at.invariant

shared-slice-read-if3 : tie.Need-bounds-text-at invariant-loop decreases-loop
shared-slice-read-if3 c = omega (arith, inside c.before.before)

is-shift-requires : tie.Need-is_shift-requires invariant-loop decreases-loop
is-shift-requires c κs = omega (arith, inside c.before.before.before)

same-length-2 : tie.Need-shape_of-out-then-not-is_shift invariant-loop decreases-loop
same-length-2 c = c.loop-at.invariant.laid.same

returns-3 : tie.Need-returns-then-not-is_shift invariant-loop decreases-loop
returns-3 c = rw c.requires.2 c.loop-at.invariant

known : (c : tie.Else-not-is_shift invariant-loop decreases-loop) → Shift c.args.text.now c.loop-at.at c.args.from.g2
known c = c.is_shift.ensures (c.if-not-is_shift.false)

add-shifted-cell : tie.Need-overflow_add-at invariant-loop decreases-loop
add-shifted-cell c = omega (arith, (known c).within, c.well_formed)

shared-slice-read-shifted-cell : tie.Need-bounds-text-at-then-text-at-eq27 invariant-loop decreases-loop
shared-slice-read-shifted-cell c = (known c.before).within

shifted-cell-requires : tie.Need-shifted_cell-requires invariant-loop decreases-loop
shifted-cell-requires c κs = search rules

shift :
    (c : tie.After-shifted_cell invariant-loop decreases-loop) →
    let a = c.args in
    let l = c.loop-at in
    Stride jp2 a.text.now l.at (state 6 a.from.g2 plain) (l.at + 3) (c.shifted_cell.result ∷ []) (state 6 a.from.g2 plain)
shift c = rw c.shifted_cell.ensures (shift-stride c.if-text-at-eq27.true (known c.before.before))

mul-out : tie.Need-offset_bounds-out-n invariant-loop decreases-loop
mul-out c = omega (arith, c.if-out-n.false, c.loop-at.invariant.laid.same, c.well_formed)

slice-write-out : tie.Need-bounds-out-n invariant-loop decreases-loop
slice-write-out c = omega (arith, c.if-out-n.false)

add_at : tie.Need-overflow_add-at-then-text-at-eq27 invariant-loop decreases-loop
add_at c = omega (arith, (known c.before.before).within, c.well_formed)

add-n : tie.Need-overflow_add-n-then-text-at-eq27 invariant-loop decreases-loop
add-n c = omega (arith, c.if-out-n.false, c.loop-at.invariant.laid.same, c.well_formed)

loop-less : tie.Need-loop-at-smaller-then-text-at-eq27 invariant-loop decreases-loop
loop-less c = omega (arith, c.loop-at-test.true)

loop-again : tie.Need-loop-at-preserved-then-text-at-eq27 invariant-loop decreases-loop
loop-again c = laying-one c.loop-at.invariant (shift c) (omega (arith, c.if-out-n.false))

slice-aggregate-ahead : tie.Need-slice_bounds-ahead-end invariant-loop decreases-loop
slice-aggregate-ahead c = search rules

sub-ahead : tie.Need-overflow_sub-at invariant-loop decreases-loop
sub-ahead c = omega (arith, c.loop-at.invariant.goes.few)

ahead-requires : tie.Need-ahead-k-requires invariant-loop decreases-loop
ahead-requires c κs = search rules

same-length-3 : tie.Need-shape_of-out-then-k-eq0 invariant-loop decreases-loop
same-length-3 c = c.loop-at.invariant.laid.same

returns-4 : tie.Need-returns-then-k-eq0 invariant-loop decreases-loop
returns-4 c = rw c.requires.2 c.loop-at.invariant

cells-ahead-requires : tie.Need-cells_ahead-requires invariant-loop decreases-loop
cells-ahead-requires c κs = inside c.before.before.before.before.before.before

put-cells-requires : tie.Need-put_cells-requires invariant-loop decreases-loop
put-cells-requires c κs = (c.cells_ahead.ensures.size, omega (arith, c.if-out-n.false))

-- behind printing bytes
abbrev W : Type 0
W = tie.After-slice_known-else-text-at-eq27-1 invariant-loop decreases-loop

abbrev size : W → ℕ
size c = c.ahead-k.result

few : (c : W) → size c ≤ 16
few c = omega (arith, c.ahead-k.ensures, ahead-le c.mark-marks.result (c.loop-at.at - c.args.from.at))

span : (c : W) → let at = c.loop-at.at in Spanned printing c.args.text.now at (at + size c)
span c = let l = c.loop-at in
    spanned-marked c.mark-marks.ensures (l.at - c.args.from.at) c.ahead-k.ensures (omega (arith, l.invariant.goes.few)) (omega (arith, c.loop-at-test.true)) (inside c.before.before.before.before.before.before.before.before.before.before.before)

all : (c : W) → let a = c.args in let l = c.loop-at in
    Laying a.text.now a.from.at 6 a.from.g2 a.from.n a.out.now (l.at + size c) 6 a.from.g2 (l.n + size c) c.put_cells.new.out
all c = let a = c.args in
    let l = c.loop-at in
    let e : length (cells_of a.text.now l.at (l.at + size c)) ≡ size c = cells-length a.text.now l.at (l.at + size c) (span c).within ∙ omega arith in
    rw e at
    (laying-on l.invariant (prints-stride (size c) a.from.g2 (span c)) (laid-printed c.cells_ahead.ensures (span c) (few c) c.put_cells.ensures l.invariant.fits)
    (omega (arith, e, few c, c.if-out-n.false)))

add-at-2 : tie.Need-overflow_add-at-else-text-at-eq27 invariant-loop decreases-loop
add-at-2 c = omega (arith, few c, inside c.before.before.before.before.before.before.before.before.before.before.before, c.well_formed)

add-n-2 : tie.Need-overflow_add-n-else-text-at-eq27 invariant-loop decreases-loop
add-n-2 c = omega (arith, few c, c.if-out-n.false, c.loop-at.invariant.laid.same, c.well_formed)

loop-less-2 : tie.Need-loop-at-smaller invariant-loop decreases-loop
loop-less-2 c = omega (arith, c.if-k-eq0.false, c.loop-at-test.true)

loop-again-2 : tie.Need-loop-at-preserved invariant-loop decreases-loop
loop-again-2 c = all c

same-length-4 : tie.Need-shape_of-out invariant-loop decreases-loop
same-length-4 c = c.loop-at.invariant.laid.same

returns-5 : tie.Need-returns invariant-loop decreases-loop
returns-5 c = rw c.requires.2 c.loop-at.invariant

pub put_shifts_spec : {M : Type 1} → statement M
put_shifts_spec =
    tie.close
    (tie.spec
    invariant-loop
    decreases-loop
    add-if1
    returns
    mark-requires
    loop-holds
    add-loop
    add-if2
    same_length
    returns-2
    shared-slice-read-if3
    is-shift-requires
    same-length-2
    returns-3
    add-shifted-cell
    shared-slice-read-shifted-cell
    shifted-cell-requires
    mul-out
    slice-write-out
    add_at
    add-n
    loop-less
    loop-again
    slice-aggregate-ahead
    sub-ahead
    ahead-requires
    same-length-3
    returns-4
    cells-ahead-requires
    put-cells-requires
    add-at-2
    add-n-2
    loop-less-2
    loop-again-2
    same-length-4
    returns-5)
