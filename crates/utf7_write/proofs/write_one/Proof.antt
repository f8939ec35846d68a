use native.Mathlib.Omega.{arith}
use Prim.Native.Nat.{◌≤◌}
use mathlib.Core.List.{[], ◌∷◌}
use lib.ListN.{length, length-set}
use Rattle.utf7.proofs.Sets.{sign-byte}
use Rattle.utf7.proofs.Pieces.{length_run}
use Rattle.utf7_write.proofs.Runs.{one-done}
use borrow.Author.Rules.{rules}
use Rattle.utf7_write.proofs.write_one.Statement.{statement}
use Rattle.utf7_write.proofs.write_one.Tie as tie

abbrev start : tie.After-sign_of-s → tie.Start
start c = c.before.before.before.before.before.before

five : (s : tie.Start) → 5 ≤ length s.args.out.now
five s = omega (arith, s.requires.1, length_run s.args.style (s.args.u ∷ []))

last-of-requires : tie.Need-last_of-last-requires
last-of-requires c κs = search rules

letter-of-requires : tie.Need-letter_of-a-requires
letter-of-requires c κs = search rules

letter-of-requires-2 : tie.Need-letter_of-b-requires
letter-of-requires-2 c κs = search rules

mul-letter-of : tie.Need-overflow_mul-u
mul-letter-of c = search rules

letter-of-requires-3 : tie.Need-letter_of-c-requires
letter-of-requires-3 c κs = search rules

sign-of-requires : tie.Need-sign_of-s-requires
sign-of-requires c κs = search rules

cast-s : tie.Need-overflow_cast-s
cast-s c = omega (arith, c.sign_of-s.ensures, sign-byte (start c).args.style)

slice-write-out : tie.Need-bounds-out-0
slice-write-out c = omega (arith, five (start c))

slice-write-out-2 : tie.Need-bounds-out-1
slice-write-out-2 c = simp length-set (omega (arith, five (start c)))

slice-write-out-3 : tie.Need-bounds-out-2
slice-write-out-3 c = simp length-set (omega (arith, five (start c)))

slice-write-out-4 : tie.Need-bounds-out-3
slice-write-out-4 c = simp length-set (omega (arith, five (start c)))

slice-write-out-5 : tie.Need-bounds-out-4
slice-write-out-5 c = simp length-set (omega (arith, five (start c)))

same_length : tie.Need-shape_of-out
same_length c = search rules

returns : tie.Need-returns
returns c =
    let z = c.before in
    let y = z.before in
    let x = y.before in
    let a = (start c).args in
    one-done a.style a.u (start c).requires.0 c.sign_of-s.ensures x.last_of-last.ensures x.letter_of-a.ensures y.letter_of-b.ensures z.letter_of-c.ensures a.out.now (start c).requires.1

pub write_one_spec : {M : Type 1} → statement M
write_one_spec =
    tie.close
    (tie.spec
    last-of-requires
    letter-of-requires
    letter-of-requires-2
    mul-letter-of
    letter-of-requires-3
    sign-of-requires
    cast-s
    slice-write-out
    slice-write-out-2
    slice-write-out-3
    slice-write-out-4
    slice-write-out-5
    same_length
    returns)
