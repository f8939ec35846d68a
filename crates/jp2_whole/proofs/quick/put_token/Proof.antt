use Prim.Native.Nat.{◌+◌, ◌<◌}
use mathlib.Core.Path.{sym, ◌∙◌}
use native.Mathlib.Omega.{arith}
use mathlib.Core.List.{[], ◌∷◌}
use lib.ListN.{length}
use borrow.Author.Rules.{rules}
use Rattle.reading.proofs.Strides.{Stride}
use Rattle.jp2.specs.Rule.{plain, state, jp2}
use Rattle.jp2_whole.specs.Quick.{Laying}
use Rattle.jp2_whole.proofs.Tokens.{pair-stride}
use Rattle.jp2_whole.proofs.Laying.{stride-of, laying-start, laying-one, laying-none}
use Rattle.jp2_whole.proofs.quick.put_token.Statement.{statement}
use Rattle.jp2_whole.proofs.quick.put_token.Tie as tie

-- there is a byte, and a place for its cell
byte : (c : tie.Start) → c.args.from.at < length c.args.text.now
byte c = omega (arith, c.requires.byte, c.requires.within)

place : (c : tie.Start) → c.args.from.n < length c.args.out.now
place c = omega (arith, c.requires.byte, c.requires.places)

-- nothing was put
stays : (c : tie.Start) → let f = c.args.from in Laying c.args.text.now f.at f.g0 f.g2 f.n c.args.out.now f.at f.g0 f.g2 f.n c.args.out.now
stays c = laying-start (omega (arith, byte c)) (omega (arith, place c))

shared-slice-read-b : tie.Need-bounds-text-at
shared-slice-read-b c = byte c.before.before.before

is-shift-requires : tie.Need-is_shift-requires
is-shift-requires c κs = byte c.before.before.before.before

put-shift-requires : tie.Need-put_shift-requires
put-shift-requires c κs = (c.is_shift.ensures c.if-is_shift.true, c.if-b-eq27.true, place c.before.before.before.before.before.before.before)

same_length : tie.Need-shape_of-out-then-is_shift
same_length c = c.put_shift.ensures.laid.same

returns : tie.Need-returns-then-is_shift
returns c =
    let p = c.put_shift.ensures in
    (p, omega (arith, c.requires.byte, c.requires.places, p.laid.same, p.goes.few, p.count, p.fits))

after-row-requires : tie.Need-after_row-requires
after-row-requires c κs = (byte c.before.before.before.before.before.before, c.if-b-eq27.true)

returns-2 : tie.Need-returns-then-b-eq27
returns-2 c =
    let e = c.after_row.ensures in
    let g = e.0 in
    (rw e.1 (laying-none (stays c.before.before.before.before.before.before.before) (stride-of g)), omega (arith, c.requires.byte, c.requires.places, e.1, g.few))

is-single-requires : tie.Need-is_single-requires
is-single-requires c κs = search rules

is-plain-requires : tie.Need-is_plain-requires
is-plain-requires c κs = search rules

put-single-requires : tie.Need-put_single-requires
put-single-requires c κs = (c.requires, (sym c.is_single.ensures ∙ c.if-is_single.true, sym c.is_plain.ensures ∙ c.if-is_plain.true))

same-length-2 : tie.Need-shape_of-out-then-is_plain
same-length-2 c = c.put_single.ensures.0.laid.same

returns-3 : tie.Need-returns-then-is_plain
returns-3 c = c.put_single.ensures

returns-4 : tie.Need-returns-then-is_single
returns-4 c = (stays c.before.before.before.before.before.before.before.before, c.requires.places)

is-pair-requires : tie.Need-is_pair-requires
is-pair-requires c κs = byte c.before.before.before.before.before.before

two : (c : tie.Then-is_pair) → c.args.from.at + 1 < length c.args.text.now
two c = (c.is_pair.ensures c.if-is_pair.true).within

add-pair-cell : tie.Need-overflow_add-at
add-pair-cell c = omega (arith, two c, c.well_formed)

shared-slice-read-pair-cell : tie.Need-bounds-text-at-then-is_pair
shared-slice-read-pair-cell c = two c.before

pair-cell-requires : tie.Need-pair_cell-requires
pair-cell-requires c κs = search rules

pair :
    (c : tie.After-pair_cell) →
    let f = c.args.from in
    Stride jp2 c.args.text.now f.at (state f.g0 f.g2 plain) (f.at + 2) (c.pair_cell.result ∷ []) (state f.g0 f.g2 plain)
pair c =
    rw c.pair_cell.ensures
    (pair-stride (sym c.is_single.ensures ∙ c.if-is_single.false) (c.is_pair.ensures c.if-is_pair.true))

mul-out : tie.Need-offset_bounds-out-n
mul-out c = omega (arith, place c.before.before.before.before.before.before.before.before.before.before, c.well_formed)

slice-write-out : tie.Need-bounds-out-n
slice-write-out c = place c.before.before.before.before.before.before.before.before.before.before

add-t22 : tie.Need-overflow_add-result
add-t22 c = omega (arith, two c.before.before, c.well_formed)

add-t25 : tie.Need-overflow_add-result-then-is_pair
add-t25 c = omega (arith, place c.before.before.before.before.before.before.before.before.before.before, c.well_formed)

same-length-3 : tie.Need-shape_of-out-then-is_pair
same-length-3 c = (laying-one (stays c.before.before.before.before.before.before.before.before.before.before) (pair c) (place c.before.before.before.before.before.before.before.before.before.before)).laid.same

returns-5 : tie.Need-returns-then-is_pair
returns-5 c =
    let p = laying-one (stays c.before.before.before.before.before.before.before.before.before.before) (pair c) (place c.before.before.before.before.before.before.before.before.before.before) in
    (p, omega (arith, c.requires.byte, c.requires.places, p.laid.same))

returns-6 : tie.Need-returns
returns-6 c = (stays c.before.before.before.before.before.before.before.before, c.requires.places)

pub put_token_spec : {M : Type 1} → statement M
put_token_spec =
    tie.close
    (tie.spec
    shared-slice-read-b
    is-shift-requires
    put-shift-requires
    same_length
    returns
    after-row-requires
    returns-2
    is-single-requires
    is-plain-requires
    put-single-requires
    same-length-2
    returns-3
    returns-4
    is-pair-requires
    add-pair-cell
    shared-slice-read-pair-cell
    pair-cell-requires
    mul-out
    slice-write-out
    add-t22
    add-t25
    same-length-3
    returns-5
    returns-6)
