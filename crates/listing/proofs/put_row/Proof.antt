use Prim.Native.Nat.{ℕ, ◌+◌, ◌-◌}
use mathlib.Core.List.{List, [], ◌∷◌, ◌++◌}
use lib.ListN.{length, drop}
use borrow.Rule.Slice.PartMut.{put_mid}
use Rattle.answer.proofs.Put.{Put, put-lt, put_next, put-lent-room, put-done}
use Rattle.listing.specs.Listing.{spaced, cells_name, line}
use Rattle.listing.proofs.Lines.{put_then, line-named}
use borrow.Author.Rules.{rules}
use Rattle.listing.proofs.put_row.Statement.{statement}
use Rattle.listing.proofs.put_row.Tie as tie

-- what is put after the name, and after the cells
abbrev row : tie.Start → List ℕ
row s = drop 1 (spaced s.args.cells.now)

named :
    (c : tie.After-put_name-from) → let s = c.before.before.before.before.before.before in
    Put (line cells_name (row s)) s.args.out.now c.put_name-from.new.out c.put_name-from.result (row s ++ 10 ∷ [])
named c =
    let s = c.before.before.before.before.before.before in
    line-named cells_name (row s) s.requires c.put_name-from.ensures

said :
    (c : tie.After-put_cells) → let f = c.before.before.before.before in
    let s = f.before.before.before.before.before.before in
    let out = f.put_name-from.new.out in
    let from = f.put_name-from.result in
    Put (line cells_name (row s)) s.args.out.now (put_mid from (length out - from) out c.put_cells.new.out) (from + c.put_cells.result) (10 ∷ [])
said c =
    let f = c.before.before.before.before in
    put_then (row f.before.before.before.before.before.before) _ (named f) c.put_cells.ensures

put-name-requires : tie.Need-put_name-from-requires
put-name-requires c κs = search rules

sub-put-cells : tie.Need-slice_bounds-put_cells-count
sub-put-cells c = search rules

part-put-cells-start : tie.Need-slice_bounds-put_cells-start
part-put-cells-start c = search rules

part-put-cells-end : tie.Need-slice_bounds-put_cells-end
part-put-cells-end c = search rules

put-cells-requires : tie.Need-put_cells-requires
put-cells-requires c κs =
    let f = c.before.before.before in
    put-lent-room (row f.before.before.before.before.before.before) _ (named f)

add_at : tie.Need-overflow_add-at
add_at c = let p = said c.before.before in search rules

slice-write-out : tie.Need-bounds-out-at
slice-write-out c = put-lt (said c.before.before)

same_length : tie.Need-shape_of-out
same_length c = (put_next (said c.before.before)).same

returns : tie.Need-returns
returns c = put-done (put_next (said c.before.before))

pub put_row_spec : {M : Type 1} → statement M
put_row_spec =
    tie.close
    (tie.spec
    put-name-requires
    sub-put-cells
    part-put-cells-start
    part-put-cells-end
    put-cells-requires
    add_at
    slice-write-out
    same_length
    returns)
