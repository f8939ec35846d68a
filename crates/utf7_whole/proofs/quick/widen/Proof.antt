use Prim.Native.Nat.{◌+◌, ◌≤◌}
use native.Mathlib.Omega.{arith}
use lib.ListN.{length}
use borrow.Author.Rules.{rules}
use Rattle.utf7_whole.proofs.Buffers.{laid-slice, laid-slices}
use Rattle.utf7_whole.proofs.quick.widen.Statement.{statement}
use Rattle.utf7_whole.proofs.quick.widen.Tie as tie

cells-ahead-requires : tie.Need-cells_ahead-requires
cells-ahead-requires c κs = search rules

put-cells-requires : tie.Need-put_cells-requires
put-cells-requires c κs = search rules

add-cells-ahead : tie.Need-overflow_add-at
add-cells-ahead c = search rules

cells-ahead-requires-2 : tie.Need-cells_ahead-requires-then-k-gt16
cells-ahead-requires-2 c κs = search rules

add-put-cells : tie.Need-overflow_add-n
add-put-cells c = search rules

put-cells-requires-2 : tie.Need-put_cells-requires-then-k-gt16
put-cells-requires-2 c κs = search rules

same_length : tie.Need-shape_of-out-then-k-gt16
same_length c = search rules

returns : tie.Need-returns-then-k-gt16
returns c = let p = c in
    let s = c in
    let q = s.requires in
    let t = s.args.text.now in
    let a = s.args.at in
    let w : a + 16 + 16 ≤ length t = omega (arith, q.1) in
    laid-slice t a (a + s.args.k) (a + 16 + 16) (omega arith) (omega (arith, q.0)) w
    (laid-slices t a (a + 16) (a + 16 + 16) (omega arith) (omega arith) w (rw p.cells_ahead.ensures at p.put_cells.ensures) (omega arith) (rw c.cells_ahead-then-k-gt16.ensures at c.put_cells-then-k-gt16.ensures))
    (omega (arith, q.2))

same-length-2 : tie.Need-shape_of-out-else-k-gt16
same-length-2 c = search rules

returns-2 : tie.Need-returns-else-k-gt16
returns-2 c = let p = c in
    let s = c in
    let q = s.requires in
    let a = s.args.at in
    laid-slice s.args.text.now a (a + s.args.k) (a + 16) (omega arith) (omega (arith, c.if-k-gt16.false)) (omega (arith, q.1)) (rw p.cells_ahead.ensures at p.put_cells.ensures) (omega (arith, q.2))

pub widen_spec : {M : Type 1} → statement M
widen_spec =
    tie.close
    (tie.spec
    cells-ahead-requires
    put-cells-requires
    add-cells-ahead
    cells-ahead-requires-2
    add-put-cells
    put-cells-requires-2
    same_length
    returns
    same-length-2
    returns-2)
