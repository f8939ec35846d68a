use Prim.Native.Nat.{◌+◌}
use mathlib.Core.Path.{◌≡◌}
use native.Mathlib.Omega.{arith}
use borrow.Author.Rules.{rules}
use Rattle.utf7_whole.proofs.Buffers.{laid-slices}
use Rattle.utf7_whole.proofs.names.put_plain.Statement.{statement}
use Rattle.utf7_whole.proofs.names.put_plain.Tie as tie

cells-ahead-requires : tie.Need-cells_ahead-requires
cells-ahead-requires c κs = search rules

put-cells-requires : tie.Need-put_cells-requires
put-cells-requires c κs = search rules

add-cells-ahead : tie.Need-overflow_add-at
add-cells-ahead c = search rules

cells-ahead-requires-2 : tie.Need-cells_ahead-requires-2
cells-ahead-requires-2 c κs = search rules

add-put-cells : tie.Need-overflow_add-n
add-put-cells c = search rules

put-cells-requires-2 : tie.Need-put_cells-requires-2
put-cells-requires-2 c κs = search rules

same_length : tie.Need-shape_of-out
same_length c = search rules

returns : tie.Need-returns
returns c =
    let p = c in
    let s = p in
    let t = s.args.text.now in
    let a = s.args.at in
    let e : a + 16 + 16 ≡ a + 32 = omega arith in
    rw e at
    (laid-slices t a (a + 16) (a + 16 + 16) (omega arith) (omega arith) (omega (arith, s.requires.0)) (rw p.cells_ahead.ensures at p.put_cells.ensures) (omega arith)
    (rw c.cells_ahead-2.ensures at c.put_cells-2.ensures))

pub put_plain_spec : {M : Type 1} → statement M
put_plain_spec =
    tie.close
    (tie.spec
    cells-ahead-requires
    put-cells-requires
    add-cells-ahead
    cells-ahead-requires-2
    add-put-cells
    put-cells-requires-2
    same_length
    returns)
