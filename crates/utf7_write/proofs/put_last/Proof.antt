use Prim.Native.Nat.{◌+◌, ◌-◌, ◌≤◌}
use mathlib.Core.Path.{◌≡◌, refl}
use native.Mathlib.Omega.{arith}
use lib.ListN.{length, get_or, length-set}
use lib.Seq.{length-sets}
use Rattle.answer.proofs.Below.{each_at}
use Rattle.utf7.specs.Writing.{IsUnit}
use Rattle.utf7_write.proofs.Values.{last_none, last_one, last-two}
use Rattle.utf7_write.proofs.Several.{sets-three, sets-six}
use borrow.Author.Rules.{rules}
use Rattle.utf7_write.proofs.put_last.Statement.{statement}
use Rattle.utf7_write.proofs.put_last.Tie as tie

abbrev start1 : tie.Then-cells-i-eq1 → tie.Start
start1 c = c.before.before.before.before.before

unit : (c : tie.Then-cells-i-eq1) → let a = (start1 c).args in IsUnit (get_or a.cells.now a.i 0)
unit c = let s = start1 c in each_at IsUnit s.args.cells.now s.args.i s.requires.0 (omega (arith, c.if-cells-i-eq0.false))

single : (c : tie.Then-cells-i-eq1) → let a = (start1 c).args in length a.cells.now ≡ a.i + 1
single c = let s = start1 c in omega (arith, c.if-cells-i-eq1.true, s.requires.1)

room : (c : tie.Then-cells-i-eq1) → let a = (start1 c).args in a.at + 3 ≤ length a.out.now
room c = let s = start1 c in rw (last_one s.args.cells.now s.args.i s.requires.0 (single c)) at s.requires.3

abbrev start2 : tie.After-shared_slice_known-3-1 → tie.Start
start2 c = c.before.before.before.before.before.before

double : (c : tie.After-shared_slice_known-3-1) → let a = (start2 c).args in length a.cells.now ≡ a.i + 2
double c =
    let s = start2 c in
    let h : length s.args.cells.now - s.args.i ≡ 1 → ⊥ = c.if-cells-i-eq1.false in
    let k : length s.args.cells.now - s.args.i ≡ 0 → ⊥ = c.if-cells-i-eq0.false in
    omega (arith, s.requires.1, s.requires.2)

units :
    (c : tie.After-shared_slice_known-3-1) → let a = (start2 c).args in
    IsUnit (get_or a.cells.now a.i 0) × IsUnit (get_or a.cells.now (a.i + 1) 0)
units c =
    let s = start2 c in
    let h = double c in
    (each_at IsUnit s.args.cells.now s.args.i s.requires.0 (omega arith), each_at IsUnit s.args.cells.now (s.args.i + 1) s.requires.0 (omega arith))

room-two : (c : tie.After-shared_slice_known-3-1) → let a = (start2 c).args in a.at + 6 ≤ length a.out.now
room-two c = let s = start2 c in rw (last-two s.args.cells.now s.args.i s.requires.0 (double c)) at s.requires.3

sub-if1 : tie.Need-overflow_sub-cells
sub-if1 c = search rules

returns : tie.Need-returns-then-cells-i-eq0
returns c =
    let s = c.before.before.before in
    let e = last_none s.args.cells.now s.args.i s.requires.0 (omega (arith, c.if-cells-i-eq0.true)) in
    rw e (omega arith, refl)

mul-u : tie.Need-offset_bounds-cells-i
mul-u c = search rules

shared-slice-read-u : tie.Need-bounds-cells-i
shared-slice-read-u c = search rules

sub-if2 : tie.Need-overflow_sub-cells-2
sub-if2 c = search rules

cast-out : tie.Need-overflow_cast-out
cast-out c = let h = unit c in search rules

slice-write-out : tie.Need-bounds-out-at
slice-write-out c = let h = room c in search rules

cast-out-2 : tie.Need-overflow_cast-out-then-cells-i-eq1
cast-out-2 c = search rules

add-out : tie.Need-overflow_add-out
add-out c = search rules

slice-write-out-2 : tie.Need-bounds-out-at-then-cells-i-eq1
slice-write-out-2 c = let h = room c in simp length-set (omega arith)

mul-out : tie.Need-overflow_mul-out
mul-out c = search rules

cast-out-3 : tie.Need-overflow_cast-out-then-cells-i-eq1-2
cast-out-3 c = search rules

add-out-2 : tie.Need-overflow_add-out-then-cells-i-eq1
add-out-2 c = search rules

slice-write-out-3 : tie.Need-bounds-out-at-then-cells-i-eq1-2
slice-write-out-3 c = let h = room c in simp length-set (omega arith)

add-result : tie.Need-overflow_add-result
add-result c = search rules

same_length : tie.Need-shape_of-out-then-cells-i-eq1
same_length c = search rules

returns-2 : tie.Need-returns-then-cells-i-eq1
returns-2 c =
    let s = start1 c in
    rw (last_one s.args.cells.now s.args.i s.requires.0 (single c)) (refl, sets-three s.args.out.now s.args.at _ _ _)

add-w : tie.Need-overflow_add-w
add-w c = search rules

mul-w : tie.Need-offset_bounds-cells-i-2
mul-w c = search rules

shared-slice-read-w : tie.Need-bounds-cells-i-2
shared-slice-read-w c = search rules

mul-put-four : tie.Need-overflow_mul-u
mul-put-four c = let h = units c in search rules

add-put-four : tie.Need-overflow_add-u
add-put-four c = let h = units c in search rules

put-four-requires : tie.Need-put_four-requires
put-four-requires c κs =
    let t = c.before in
    let h = units t in
    (omega arith, omega (arith, room-two t))

cast-out-4 : tie.Need-overflow_cast-out-2
cast-out-4 c = search rules

add-out-3 : tie.Need-overflow_add-out-2
add-out-3 c = search rules

slice-write-out-4 : tie.Need-bounds-out-at-2
slice-write-out-4 c =
    let t = c.before.before.before.before in
    rw (c.put_four.ensures, length-sets) (omega (arith, room-two t))

mul-out-2 : tie.Need-overflow_mul-out-2
mul-out-2 c = search rules

cast-out-5 : tie.Need-overflow_cast-out-3
cast-out-5 c = search rules

add-out-4 : tie.Need-overflow_add-out-3
add-out-4 c = search rules

slice-write-out-5 : tie.Need-bounds-out-at-3
slice-write-out-5 c =
    let t = c.before.before.before.before in
    simp length-set (rw (c.put_four.ensures, length-sets) (omega (arith, room-two t)))

add-result-2 : tie.Need-overflow_add-result-2
add-result-2 c = search rules

same-length-2 : tie.Need-shape_of-out
same-length-2 c = search rules

returns-3 : tie.Need-returns
returns-3 c =
    let t = c.before.before.before.before in
    let s = start2 t in
    rw (last-two s.args.cells.now s.args.i s.requires.0 (double t), c.put_four.ensures)
    (refl, sets-six s.args.out.now s.args.at _ _ _ _ _ _)

pub put_last_spec : {M : Type 1} → statement M
put_last_spec =
    tie.close
    (tie.spec
    sub-if1
    returns
    mul-u
    shared-slice-read-u
    sub-if2
    cast-out
    slice-write-out
    cast-out-2
    add-out
    slice-write-out-2
    mul-out
    cast-out-3
    add-out-2
    slice-write-out-3
    add-result
    same_length
    returns-2
    add-w
    mul-w
    shared-slice-read-w
    mul-put-four
    add-put-four
    put-four-requires
    cast-out-4
    add-out-3
    slice-write-out-4
    mul-out-2
    cast-out-5
    add-out-4
    slice-write-out-5
    add-result-2
    same-length-2
    returns-3)
