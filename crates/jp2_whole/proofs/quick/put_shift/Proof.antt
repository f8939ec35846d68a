use Prim.Native.Nat.{◌+◌}
use native.Mathlib.Omega.{arith}
use lib.ListN.{set, length-set}
use borrow.Author.Rules.{rules}
use Rattle.jp2_whole.specs.Quick.{Laying}
use Rattle.jp2_whole.proofs.Tokens.{shift-stride}
use Rattle.jp2_whole.proofs.Laying.{laying-start, laying-one, laying-more}
use Rattle.jp2_whole.proofs.quick.put_shift.Statement.{statement}
use Rattle.jp2_whole.proofs.quick.put_shift.Tie as tie

add-shifted-cell : tie.Need-overflow_add-at
add-shifted-cell c = search rules

shared-slice-read-shifted-cell : tie.Need-bounds-text-at
shared-slice-read-shifted-cell c = search rules

shifted-cell-requires : tie.Need-shifted_cell-requires
shifted-cell-requires c κs = search rules

mul-out : tie.Need-offset_bounds-out-n
mul-out c = search rules

slice-write-out : tie.Need-bounds-out-n
slice-write-out c = search rules

add-t10 : tie.Need-overflow_add-next
add-t10 c = search rules

add-t13 : tie.Need-overflow_add-next-2
add-t13 c = search rules

-- its cell is put
one :
    (c : tie.After-shifted_cell) →
    let a = c.args in
    let f = a.from in
    Laying a.text.now f.at f.g0 f.g2 f.n a.out.now (f.at + 3) f.g0 f.g2 (f.n + 1) (set a.out.now f.n c.shifted_cell.result)
one c =
    let p = c.requires in
    laying-one (laying-start (omega (arith, p.0.within)) (omega (arith, p.2))) (rw c.shifted_cell.ensures (shift-stride p.1 p.0)) p.2

put-shifts-requires : tie.Need-put_shifts-requires
put-shifts-requires c κs = (omega (arith, c.requires.0.within), simp length-set (omega (arith, c.requires.2)), c.if-g0-eq6.true)

same_length : tie.Need-shape_of-out-then-g0-eq6
same_length c = (laying-more (one c.before.before.before.before.before) c.put_shifts.ensures).laid.same

returns : tie.Need-returns-then-g0-eq6
returns c = laying-more (one c.before.before.before.before.before) c.put_shifts.ensures

same-length-2 : tie.Need-shape_of-out
same-length-2 c = search rules

returns-2 : tie.Need-returns
returns-2 c = one c.before

pub put_shift_spec : {M : Type 1} → statement M
put_shift_spec =
    tie.close
    (tie.spec
    add-shifted-cell
    shared-slice-read-shifted-cell
    shifted-cell-requires
    mul-out
    slice-write-out
    add-t10
    add-t13
    put-shifts-requires
    same_length
    returns
    same-length-2
    returns-2)
