use Prim.Native.Nat.{◌+◌, ◌-◌, ◌<◌, ◌≤◌}
use mathlib.Core.Path.{◌≡◌, sym}
use native.Mathlib.Omega.{arith}
use mathlib.Core.List.{[], ◌∷◌}
use lib.ListN.{length, set}
use borrow.Author.Rules.{rules}
use Rattle.reading.proofs.Strides.{Stride}
use Rattle.jp2.specs.Rule.{plain, state, jp2}
use Rattle.jp2_whole.specs.Quick.{Laying}
use Rattle.jp2_whole.proofs.Tokens.{single-stride, stretch-stride, stretch-bounds, cells_of, cells-length}
use Rattle.jp2_whole.proofs.Laying.{laying-start, laying-on, laying-one}
use Rattle.jp2_whole.proofs.quick.put_single.Statement.{statement}
use Rattle.jp2_whole.proofs.quick.put_single.Tie as tie

-- there is a byte, and a place for its cell
byte : (c : tie.Start) → c.args.from.at < length c.args.text.now
byte c = omega (arith, c.requires.0.byte, c.requires.0.within)

place : (c : tie.Start) → c.args.from.n < length c.args.out.now
place c = omega (arith, c.requires.0.byte, c.requires.0.places)

cleared-requires : tie.Need-cleared-g2-requires
cleared-requires c κs = byte c.before.before

shared-slice-read-single-cell : tie.Need-bounds-text-at
shared-slice-read-single-cell c = byte c.before.before.before.before

single-cell-requires : tie.Need-single_cell-requires
single-cell-requires c κs = search rules

mul-out : tie.Need-offset_bounds-out-n
mul-out c = omega (arith, place c.before.before.before.before.before, c.well_formed)

slice-write-out : tie.Need-bounds-out-n
slice-write-out c = place c.before.before.before.before.before

add-stretch-end : tie.Need-overflow_add-at
add-stretch-end c = omega (arith, byte c.before.before.before.before.before, c.well_formed)

stretch-end-requires : tie.Need-stretch_end-end-requires
stretch-end-requires c κs = (omega (arith, c.requires.0.byte), c.requires.0.within)

one :
    (c : tie.After-single_cell) →
    let a = c.args in
    let f = a.from in
    Stride jp2 a.text.now f.at (state f.g0 f.g2 plain) (f.at + 1) (c.single_cell.result ∷ []) (state f.g0 c.cleared-g2.result plain)
one c =
    rw (c.single_cell.ensures, c.cleared-g2.ensures)
    (single-stride _ _ _ _ (byte c.before.before.before.before.before) c.requires.1.0 c.requires.1.1)

-- its cell is put, and a stretch follows
put_one :
    (c : tie.After-stretch_end-end) →
    let a = c.args in
    let f = a.from in
    Laying a.text.now f.at f.g0 f.g2 f.n a.out.now (f.at + 1) f.g0 c.cleared-g2.result (f.n + 1)
    (set a.out.now f.n c.single_cell.result)
put_one c = laying-one (laying-start (omega (arith, byte c.before.before.before.before.before.before)) (omega (arith, place c.before.before.before.before.before.before))) (one c.before) (place c.before.before.before.before.before.before)

ends : (c : tie.After-stretch_end-end) → (c.args.from.at + 1 ≤ c.stretch_end-end.result) × (c.stretch_end-end.result ≤ c.args.to)
ends c = stretch-bounds (omega (arith, c.requires.0.byte)) c.stretch_end-end.ensures

within : (c : tie.After-stretch_end-end) → c.stretch_end-end.result ≤ length c.args.text.now
within c = omega (arith, (ends c).1, c.requires.0.within)

stretch :
    (c : tie.After-stretch_end-end) →
    let a = c.args in
    let st = state a.from.g0 c.cleared-g2.result plain in
    Stride jp2 a.text.now (a.from.at + 1) st c.stretch_end-end.result (cells_of a.text.now (a.from.at + 1) c.stretch_end-end.result) st
stretch c = stretch-stride (one c.before).within c.stretch_end-end.ensures

size :
    (c : tie.After-stretch_end-end) →
    length (cells_of c.args.text.now (c.args.from.at + 1) c.stretch_end-end.result) ≡ c.stretch_end-end.result - (c.args.from.at + 1)
size c = cells-length _ _ _ (within c)

room :
    (c : tie.After-stretch_end-end) →
    let a = c.args in
    a.from.n + 1 + (c.stretch_end-end.result - (a.from.at + 1)) ≤ length (set a.out.now a.from.n c.single_cell.result)
room c = omega (arith, c.requires.0.places, (put_one c).laid.same, (ends c).0, (ends c).1)

add-widen : tie.Need-overflow_add-at-2
add-widen c = omega (arith, byte c.before.before.before.before.before.before, c.well_formed)

add-widen-2 : tie.Need-overflow_add-n
add-widen-2 c = omega (arith, place c.before.before.before.before.before.before.before, c.well_formed)

widen-requires : tie.Need-widen-requires
widen-requires c κs = (((ends c.before).0, within c.before), room c.before)

add-t13 : tie.Need-overflow_add-result
add-t13 c = omega (arith, place c.before.before.before.before.before.before.before.before.before.before, c.well_formed)

add-t18 : tie.Need-overflow_add-result-2
add-t18 c = omega (arith, byte c.before.before.before.before.before.before.before.before.before.before, c.well_formed)

sub-t19 : tie.Need-overflow_sub-result
sub-t19 c = (ends c.before.before.before.before).0

add-t20 : tie.Need-overflow_add-result-3
add-t20 c = omega (arith, room c.before.before.before.before, (put_one c.before.before.before.before).laid.same, c.well_formed)

all :
    (c : tie.After-widen) →
    let a = c.args in
    let f = a.from in
    let e = c.stretch_end-end.result in
    Laying a.text.now f.at f.g0 f.g2 f.n a.out.now e f.g0 c.cleared-g2.result (f.n + 1 + (e - (f.at + 1))) c.widen.new.out
all c =
    let e = c.before.before in
    rw (size e) at
    (laying-on (put_one e) (stretch e) c.widen.ensures (rw (sym (size e)) at (room e)))

same_length : tie.Need-shape_of-out
same_length c = (all c.before.before).laid.same

returns : tie.Need-returns
returns c =
    let p = all c.before.before in
    let e = ends c.before.before.before.before in
    (p, omega (arith, c.requires.0.places, p.laid.same, e.0, e.1))

pub put_single_spec : {M : Type 1} → statement M
put_single_spec =
    tie.close
    (tie.spec
    cleared-requires
    shared-slice-read-single-cell
    single-cell-requires
    mul-out
    slice-write-out
    add-stretch-end
    stretch-end-requires
    add-widen
    add-widen-2
    widen-requires
    add-t13
    add-t18
    sub-t19
    add-t20
    same_length
    returns)
