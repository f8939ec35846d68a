use Prim.Native.Nat.{◌≤◌}
use mathlib.Core.Path.{refl}
use native.Mathlib.Omega.{arith}
use lib.ListN.{length}
use borrow.Author.Rules.{rules}
use borrow.Author.Tests.{eq-eqb, ne_eqb}
use Rattle.jp2_write.specs.Pieces.{one_of}
use Rattle.jp2_write.proofs.Cells.{store-one}
use Rattle.jp2_write.proofs.put_one.Statement.{statement}
use Rattle.jp2_write.proofs.put_one.Tie as tie

three-room : (c : tie.Then-size-eq3) → 3 ≤ length c.args.out.now
unfolding one_of
three-room c = rw (eq-eqb _ _ c.if-size-eq3.true) at c.requires.1

one-room : (c : tie.Else-size-eq3) → 1 ≤ length c.args.out.now
unfolding one_of
one-room c = rw (ne_eqb _ _ c.if-size-eq3.false) at c.requires.1

put-shifted-requires : tie.Need-put_shifted-requires
put-shifted-requires c κs = (c.requires.0, three-room c.before)

same_length : tie.Need-shape_of-out-then-size-eq3
same_length c = search rules

returns : tie.Need-returns-then-size-eq3
unfolding one_of
returns c =
    let p = c.before.before in
    rw (eq-eqb _ _ p.if-size-eq3.true) p.put_shifted.ensures

cast-out : tie.Need-overflow_cast-out
cast-out c = search rules

slice-write-out : tie.Need-bounds-out-0
slice-write-out c = omega (arith, one-room c)

same-length-2 : tie.Need-shape_of-out
same-length-2 c = search rules

returns-2 : tie.Need-returns
unfolding one_of
returns-2 c = rw (ne_eqb _ _ c.if-size-eq3.false) (record { so = store-one _ c.args.out.now (one-room c); size = refl })

pub put_one_spec : {M : Type 1} → statement M
put_one_spec =
    tie.close
    (tie.spec put-shifted-requires same_length returns cast-out slice-write-out same-length-2 returns-2)
