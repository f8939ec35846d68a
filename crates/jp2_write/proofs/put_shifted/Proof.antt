use mathlib.Core.Path.{refl}
use native.Mathlib.Omega.{arith}
use lib.ListN.{length-set}
use borrow.Author.Rules.{rules}
use Rattle.jp2_write.proofs.Cells.{store-three}
use Rattle.jp2_write.proofs.put_shifted.Statement.{statement}
use Rattle.jp2_write.proofs.put_shifted.Tie as tie

slice-write-out : tie.Need-bounds-out-0
slice-write-out c = search rules

slice-write-out-2 : tie.Need-bounds-out-1
slice-write-out-2 c = simp length-set (omega (arith, c.requires.1))

cast-out : tie.Need-overflow_cast-out
cast-out c = search rules

slice-write-out-3 : tie.Need-bounds-out-2
slice-write-out-3 c = search rules

same_length : tie.Need-shape_of-out
same_length c = search rules

returns : tie.Need-returns
returns c = record { so = store-three _ _ _ c.args.out.now c.requires.1; size = refl }

pub put_shifted_spec : {M : Type 1} → statement M
put_shifted_spec =
    tie.close
    (tie.spec slice-write-out slice-write-out-2 cast-out slice-write-out-3 same_length returns)
