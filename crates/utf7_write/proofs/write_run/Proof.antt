use Prim.Native.Nat.{◌+◌, ◌-◌}
use mathlib.Core.Path.{◌≡◌, refl}
use native.Mathlib.Omega.{arith}
use lib.ListN.{length, length-set}
use lib.Seq.{length-sets}
use Rattle.bits.specs.Bits.{bits_of}
use Rattle.utf7.specs.Writing.{spell}
use Rattle.utf7.proofs.Sets.{sign-byte}
use Rattle.utf7_write.specs.Values.{values}
use Rattle.utf7_write.proofs.Runs.{values-room, close-room, turned, run-done}
use borrow.Author.Rules.{rules}
use Rattle.utf7_write.proofs.write_run.Statement.{statement}
use Rattle.utf7_write.proofs.write_run.Tie as tie

sign-of-requires : tie.Need-sign_of-requires
sign-of-requires c κs = search rules

cast-out : tie.Need-overflow_cast-out
cast-out c = omega (arith, c.sign_of.ensures, sign-byte c.args.style)

slice-write-out : tie.Need-bounds-out-0
unfolding spell
slice-write-out c = omega (arith, c.requires.1)

put-values-requires : tie.Need-put_values-end-requires
put-values-requires c κs =
    let g = c.before in
    let s = g.before.before.before in
    (s.requires.0, values-room s.args.style s.args.cells.now g.sign_of.ensures refl s.args.out.now s.requires.1)

last-of-requires : tie.Need-last_of-requires
last-of-requires c κs = search rules

turn-letters-requires : tie.Need-turn_letters-requires
turn-letters-requires c κs =
    let v = c.before.before.before.before in
    let g = v.before.before in
    let s = g.before.before.before in
    let h = values-room s.args.style s.args.cells.now g.sign_of.ensures c.last_of.ensures s.args.out.now s.requires.1 in
    (omega (arith, v.put_values-end.ensures.0), rw (v.put_values-end.ensures.1, length-sets, v.put_values-end.ensures.0) h)

slice-write-out-2 : tie.Need-bounds-out-end
slice-write-out-2 c =
    let w = c.before.before in
    let k = w.before.before in
    let v = k.before.before.before in
    let g = v.before.before in
    let s = g.before.before.before in
    rw (w.turn_letters.ensures, length-sets, v.put_values-end.ensures.1, length-sets, v.put_values-end.ensures.0)
    (close-room s.args.style s.args.cells.now g.sign_of.ensures k.last_of.ensures s.args.out.now s.requires.1)

add-result : tie.Need-overflow_add-result
add-result c =
    let k = c.before.before.before.before in
    let v = k.before.before.before in
    let g = v.before.before in
    let s = g.before.before.before in
    let h = rw length-set at (close-room s.args.style s.args.cells.now g.sign_of.ensures k.last_of.ensures s.args.out.now s.requires.1) in
    omega (arith, v.put_values-end.ensures.0, s.well_formed)

same_length : tie.Need-shape_of-out
same_length c =
    let w = c.before.before in
    let v = w.before.before.before.before.before in
    simp length-set (rw (w.turn_letters.ensures, length-sets, v.put_values-end.ensures.1, length-sets) (simp length-set))

returns : tie.Need-returns
returns c =
    let w = c.before.before in
    let k = w.before.before in
    let v = k.before.before.before in
    let g = v.before.before in
    let s = g.before.before.before in
    let n : 1 + length (values (bits_of 16 s.args.cells.now)) - 1 ≡ length (values (bits_of 16 s.args.cells.now)) = omega arith in
    rw (w.turn_letters.ensures, v.put_values-end.ensures.1, v.put_values-end.ensures.0, n, turned s.args.style s.args.cells.now g.sign_of.ensures k.last_of.ensures s.args.out.now s.requires.1)
    (run-done s.args.style s.args.cells.now g.sign_of.ensures k.last_of.ensures s.args.out.now s.requires.1)

pub write_run_spec : {M : Type 1} → statement M
write_run_spec =
    tie.close
    (tie.spec
    sign-of-requires
    cast-out
    slice-write-out
    put-values-requires
    last-of-requires
    turn-letters-requires
    slice-write-out-2
    add-result
    same_length
    returns)
