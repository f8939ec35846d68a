use Prim.Native.Nat.{ℕ, ◌+◌, ◌-◌}
use mathlib.Core.Path.{refl, sym}
use mathlib.Core.List.{List, []}
use native.Mathlib.Omega.{arith}
use lib.ListN.{length, get_or, take, drop, length-drop}
use borrow.Rule.Slice.PartMut.{put_mid}
use Rattle.answer.proofs.Put.{Put, put-end, put-done}
use Rattle.listing.specs.Listing.{hex_in, spaced}
use Rattle.listing.proofs.Digits.{length-hex, length-spaced, spaced-end, spaced-first}
use Rattle.listing.proofs.Lines.{put_first, last-room, put_last}
use borrow.Author.Rules.{rules}
use Rattle.listing.proofs.put_cells.Statement.{statement}
use Rattle.listing.proofs.put_cells.Tie as tie

-- the cells after the first; the first is put, and then those
abbrev rest : tie.Start → List ℕ
rest s = let cells = s.args.cells.now in spaced (take (length cells - 1) (drop 1 cells))

first :
    (c : tie.After-put_hex) → let s = c.before.before.before.before.before.before in
    Put (drop 1 (spaced s.args.cells.now)) s.args.out.now c.put_hex.new.out 8 (rest s)
first c =
    let e = c.before.before.before in
    let s = e.before.before.before in
    put_first (hex_in 8 (get_or s.args.cells.now 0 0)) (rest s) (spaced-first _ (omega (arith, e.if-cells-eq0.false))) s.requires
    (sym (length-hex _), c.put_hex.ensures)

all :
    (c : tie.After-put_spaced) → let h = c.before.before.before.before.before in
    let s = h.before.before.before.before.before.before in
    let out = h.put_hex.new.out in
    Put (drop 1 (spaced s.args.cells.now)) s.args.out.now (put_mid 8 (length out - 8) out c.put_spaced.new.out) (8 + c.put_spaced.result) []
all c = put_last (first c.before.before.before.before.before) c.put_spaced.ensures

returns : tie.Need-returns-then-cells-eq0
returns c = rw (spaced-end c.args.cells.now 0 (omega (arith, c.if-cells-eq0.true))) (refl, refl)

shared-slice-read-put-hex : tie.Need-bounds-cells-0
shared-slice-read-put-hex c = search rules

put-hex-requires : tie.Need-put_hex-requires
put-hex-requires c κs =
    let e = c.before.before in
    let s = e.before.before.before in
    omega (arith, s.requires, e.if-cells-eq0.false, length-drop 1 (spaced s.args.cells.now), length-spaced s.args.cells.now)

sub-put-spaced : tie.Need-slice_bounds-put_spaced-count
sub-put-spaced c = search rules

part-put-spaced-start : tie.Need-slice_bounds-put_spaced-start
part-put-spaced-start c = search rules

part-put-spaced-end : tie.Need-slice_bounds-put_spaced-end
part-put-spaced-end c = search rules

sub-put-spaced-2 : tie.Need-slice_bounds-put_spaced-count-2
sub-put-spaced-2 c = let p = first c.before.before.before in search rules

part-put-spaced-start-2 : tie.Need-slice_bounds-put_spaced-start-2
part-put-spaced-start-2 c = let p = first c.before.before.before in search rules

part-put-spaced-end-2 : tie.Need-slice_bounds-put_spaced-end-2
part-put-spaced-end-2 c = search rules

put-spaced-requires : tie.Need-put_spaced-requires
put-spaced-requires c κs = last-room (first c.before.before.before.before)

add-result : tie.Need-overflow_add-result
add-result c = let p = all c.before.before in search rules

same_length : tie.Need-shape_of-out
same_length c = search rules

returns-2 : tie.Need-returns
returns-2 c = let p = all c.before.before in (put-end p, put-done p)

pub put_cells_spec : {M : Type 1} → statement M
put_cells_spec =
    tie.close
    (tie.spec
    returns
    shared-slice-read-put-hex
    put-hex-requires
    sub-put-spaced
    part-put-spaced-start
    part-put-spaced-end
    sub-put-spaced-2
    part-put-spaced-start-2
    part-put-spaced-end-2
    put-spaced-requires
    add-result
    same_length
    returns-2)
