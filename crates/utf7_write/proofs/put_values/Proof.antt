use Prim.Native.Nat.{ℕ, ◌+◌, ◌-◌, ◌*◌, ◌/◌, ◌%◌, ◌≤◌}
use mathlib.Core.Path.{◌≡◌, ◌∙◌}
use mathlib.Core.List.{List, ◌++◌}
use native.Mathlib.Omega.{arith}
use lib.ListN.{length, get_or, take, drop}
use lib.Seq.{sets}
use Rattle.answer.proofs.Below.{each_at}
use Rattle.answer.proofs.Put.{Put, put_as}
use Rattle.bits.specs.Bits.{bits_of}
use Rattle.utf7.specs.Writing.{IsUnit}
use Rattle.utf7_write.specs.Values.{values, four_of}
use Rattle.utf7_write.proofs.Values.{next-three}
use Rattle.utf7_write.proofs.Several.{put-several, put-from, put-sets, put_rest, put-rest-room}
use borrow.Author.Rules.{rules}
use Rattle.utf7_write.proofs.put_values.Statement.{statement}
use Rattle.utf7_write.proofs.put_values.Tie as tie

abbrev invariant-loop : tie.invariant-loop-i
invariant-loop cells out₀ from i₀ at₀ out i at = Put (take from out₀ ++ values (bits_of 16 cells)) out₀ out at (values (bits_of 16 (drop i cells))) × (i ≤ length cells)

abbrev decreases-loop : tie.decreases-loop-i
decreases-loop cells out₀ from i₀ at₀ out i at = length cells - i

abbrev at_of : tie.After-shared_slice_known-in-loop-i-3-1 invariant-loop decreases-loop → tie.At-loop-i invariant-loop decreases-loop
at_of c = c.before.before.before.before

abbrev start : tie.After-shared_slice_known-in-loop-i-3-1 invariant-loop decreases-loop → tie.Start invariant-loop decreases-loop
start c = (at_of c).before.before.before

three-left : (c : tie.After-shared_slice_known-in-loop-i-3-1 invariant-loop decreases-loop) → (at_of c).loop-i.i + 3 ≤ length (start c).args.cells.now
three-left c = omega (arith, c.loop-i-test.true)

three-units :
    (c : tie.After-shared_slice_known-in-loop-i-3-1 invariant-loop decreases-loop) → let us = (start c).args.cells.now in let i = (at_of c).loop-i.i in
    IsUnit (get_or us i 0) × IsUnit (get_or us (i + 1) 0) × IsUnit (get_or us (i + 2) 0)
three-units c =
    let us = (start c).args.cells.now in
    let i = (at_of c).loop-i.i in
    let e = (start c).requires.0 in
    let h = three-left c in
    (each_at IsUnit us i e (omega arith), each_at IsUnit us (i + 1) e (omega arith), each_at IsUnit us (i + 2) e (omega arith))

-- the two numbers of 24 bits, and the values from a place on
abbrev former : tie.After-shared_slice_known-in-loop-i-3-1 invariant-loop decreases-loop → ℕ
former c =
    let us = (start c).args.cells.now in
    let i = (at_of c).loop-i.i in
    get_or us i 0 * 256 + get_or us (i + 1) 0 / 256

abbrev latter : tie.After-shared_slice_known-in-loop-i-3-1 invariant-loop decreases-loop → ℕ
latter c =
    let us = (start c).args.cells.now in
    let i = (at_of c).loop-i.i in
    get_or us (i + 1) 0 % 256 * 65536 + get_or us (i + 2) 0

abbrev rest : tie.After-shared_slice_known-in-loop-i-3-1 invariant-loop decreases-loop → List ℕ
rest c = values (bits_of 16 (drop ((at_of c).loop-i.i + 3) (start c).args.cells.now))

abbrev ToPut : tie.After-shared_slice_known-in-loop-i-3-1 invariant-loop decreases-loop → List ℕ → ℕ → List ℕ → Type 0
ToPut c out at todo =
    let a = (start c).args in
    Put (take a.from a.out.now ++ values (bits_of 16 a.cells.now)) a.out.now out at todo

abbrev once : tie.After-shared_slice_known-in-loop-i-3-1 invariant-loop decreases-loop → List ℕ
once c = sets (at_of c).loop-i.out (at_of c).loop-i.at (four_of (former c))

first : (c : tie.After-shared_slice_known-in-loop-i-3-1 invariant-loop decreases-loop) → ToPut c (once c) ((at_of c).loop-i.at + 4) (four_of (latter c) ++ rest c)
first c =
    let l = at_of c in
    let s = start c in
    put-several (four_of (former c)) (four_of (latter c) ++ rest c) l.loop-i.out l.loop-i.at
    (put_as (next-three s.args.cells.now l.loop-i.i s.requires.0 (three-left c)) l.loop-i.invariant.0)

second : (c : tie.After-shared_slice_known-in-loop-i-3-1 invariant-loop decreases-loop) → ToPut c (sets (once c) ((at_of c).loop-i.at + 4) (four_of (latter c))) ((at_of c).loop-i.at + 4 + 4) (rest c)
second c = put-several (four_of (latter c)) (rest c) (once c) ((at_of c).loop-i.at + 4) (first c)

loop-holds : tie.Need-loop-i-init invariant-loop decreases-loop
loop-holds c = (put-from c.args.out.now (values (bits_of 16 c.args.cells.now)) c.args.from c.requires.1, omega arith)

sub-loop : tie.Need-overflow_sub-cells invariant-loop decreases-loop
sub-loop c = search rules

mul-u : tie.Need-offset_bounds-cells-i invariant-loop decreases-loop
mul-u c = search rules

shared-slice-read-u : tie.Need-bounds-cells-i invariant-loop decreases-loop
shared-slice-read-u c = search rules

add-w : tie.Need-overflow_add-w invariant-loop decreases-loop
add-w c = search rules

mul-w : tie.Need-offset_bounds-cells-i-in-loop-i invariant-loop decreases-loop
mul-w c = search rules

shared-slice-read-w : tie.Need-bounds-cells-i-in-loop-i invariant-loop decreases-loop
shared-slice-read-w c = search rules

add-x : tie.Need-overflow_add-x invariant-loop decreases-loop
add-x c = search rules

mul-x : tie.Need-offset_bounds-cells-i-in-loop-i-2 invariant-loop decreases-loop
mul-x c = search rules

shared-slice-read-x : tie.Need-bounds-cells-i-in-loop-i-2 invariant-loop decreases-loop
shared-slice-read-x c = search rules

mul-put-four : tie.Need-overflow_mul-u invariant-loop decreases-loop
mul-put-four c = let h = three-units c in search rules

add-put-four : tie.Need-overflow_add-u invariant-loop decreases-loop
add-put-four c = let h = three-units c in search rules

put-four-requires : tie.Need-put_four-requires invariant-loop decreases-loop
put-four-requires c κs =
    let t = c.before in
    let h = three-units t in
    let p = first t in
    (omega arith, omega (arith, p.upto, p.room, p.same, (at_of t).loop-i.invariant.0.same))

mul-put-four-2 : tie.Need-overflow_mul-w invariant-loop decreases-loop
mul-put-four-2 c = search rules

add-put-four-2 : tie.Need-overflow_add-w-in-loop-i invariant-loop decreases-loop
add-put-four-2 c = let h = three-units c.before.before.before.before in search rules

add-put-four-3 : tie.Need-overflow_add-at invariant-loop decreases-loop
add-put-four-3 c =
    let t = c.before.before.before.before.before in
    let p = first t in
    omega (arith, p.upto, p.room, (start t).well_formed)

put-four-requires-2 : tie.Need-put_four-requires-in-loop-i invariant-loop decreases-loop
put-four-requires-2 c κs =
    let t = c.before.before.before.before.before in
    let h = three-units t in
    let p = second t in
    (omega arith, rw c.put_four.ensures (omega (arith, p.upto, p.room, (first t).same)))

add_at : tie.Need-overflow_add-at-in-loop-i invariant-loop decreases-loop
add_at c =
    let t = c.before.before.before.before.before.before.before.before in
    let p = second t in
    omega (arith, p.upto, p.room, (start t).well_formed)

add-i : tie.Need-overflow_add-i invariant-loop decreases-loop
add-i c = let h = three-left c.before.before.before.before.before.before.before.before in search rules

loop-less : tie.Need-loop-i-smaller invariant-loop decreases-loop
loop-less c = let h = three-left c.before.before.before.before.before.before.before.before in search rules

loop-again : tie.Need-loop-i-preserved invariant-loop decreases-loop
loop-again c =
    let t = c.before.before.before.before.before.before.before.before in
    let e : (at_of t).loop-i.at + 4 + 4 ≡ (at_of t).loop-i.at + 8 = omega arith in
    (rw (c.put_four-in-loop-i.ensures, c.put_four.ensures, ← e) (second t), three-left t)

put-last-requires : tie.Need-put_last-requires invariant-loop decreases-loop
put-last-requires c κs =
    let l = c.before.before in
    let s = l.before.before.before in
    (s.requires.0, l.loop-i.invariant.1, omega (arith, c.loop-i-test.false), put-rest-room _ l.loop-i.invariant.0)

same_length : tie.Need-shape_of-out invariant-loop decreases-loop
same_length c =
    let l = c.before.before.before.before.before in
    rw c.put_last.ensures.1 (put_rest _ l.loop-i.invariant.0).same

returns : tie.Need-returns invariant-loop decreases-loop
returns c =
    let w = c.before.before in
    let l = w.before.before.before in
    let s = l.before.before.before in
    let q = put-sets s.args.out.now (values (bits_of 16 s.args.cells.now)) s.args.from s.requires.1 (put_rest _ l.loop-i.invariant.0) in
    (w.put_last.ensures.0 ∙ q.0, w.put_last.ensures.1 ∙ q.1)

pub put_values_spec : {M : Type 1} → statement M
put_values_spec =
    tie.close
    (tie.spec
    invariant-loop
    decreases-loop
    loop-holds
    sub-loop
    mul-u
    shared-slice-read-u
    add-w
    mul-w
    shared-slice-read-w
    add-x
    mul-x
    shared-slice-read-x
    mul-put-four
    add-put-four
    put-four-requires
    mul-put-four-2
    add-put-four-2
    add-put-four-3
    put-four-requires-2
    add_at
    add-i
    loop-less
    loop-again
    put-last-requires
    same_length
    returns)
