use Prim.Native.Nat.{◌≤◌}
use mathlib.Core.Path.{◌≡◌}
use mathlib.Core.Bool.{true, false}
use native.Mathlib.Omega.{arith}
use lib.ListN.{length, length-set}
use borrow.Author.Rules.{rules}
use Rattle.jp2.specs.Writable.{pair_set}
use Rattle.jp2_write.specs.Pieces.{base_of}
use Rattle.jp2_write.proofs.Cells.{small-pair, byte-single, large-pair, store-one, store_two}
use Rattle.jp2_write.proofs.put_base.Statement.{statement}
use Rattle.jp2_write.proofs.put_base.Tie as tie

-- a single byte, or a pair
single : (c : tie.Then-c-lt256) → pair_set c.args.n ≡ false
single c = let p = c.requires in byte-single _ _ p.0 p.1 c.if-c-lt256.true

pair : (c : tie.Else-c-lt256) → pair_set c.args.n ≡ true
pair c = let p = c.requires in large-pair _ _ p.0 p.1 c.if-c-lt256.false

single-room : (c : tie.Then-c-lt256) → 1 ≤ length c.args.out.now
unfolding base_of
single-room c = rw (single c) at c.requires.2

pair-room : (c : tie.Else-c-lt256) → 2 ≤ length c.args.out.now
unfolding base_of
pair-room c = rw (pair c) at c.requires.2

cast-out : tie.Need-overflow_cast-out
cast-out c = search rules

slice-write-out : tie.Need-bounds-out-0
slice-write-out c = omega (arith, single-room c)

same_length : tie.Need-shape_of-out-then-c-lt256
same_length c = search rules

returns : tie.Need-returns-then-c-lt256
unfolding base_of
returns c = record { so = rw (single c) (store-one _ c.args.out.now (single-room c)); size = rw (single c) }

cast-out-2 : tie.Need-overflow_cast-out-2
cast-out-2 c = let h = small-pair _ _ c.requires.0 (pair c) in search rules

slice-write-out-2 : tie.Need-bounds-out-0-2
slice-write-out-2 c = omega (arith, pair-room c)

cast-out-3 : tie.Need-overflow_cast-out-3
cast-out-3 c = search rules

slice-write-out-3 : tie.Need-bounds-out-1
slice-write-out-3 c = simp length-set (omega (arith, pair-room c))

same-length-2 : tie.Need-shape_of-out
same-length-2 c = search rules

returns-2 : tie.Need-returns
unfolding base_of
returns-2 c = record { so = rw (pair c) (store_two _ _ c.args.out.now (pair-room c)); size = rw (pair c) }

pub put_base_spec : {M : Type 1} → statement M
put_base_spec =
    tie.close
    (tie.spec
    cast-out
    slice-write-out
    same_length
    returns
    cast-out-2
    slice-write-out-2
    cast-out-3
    slice-write-out-3
    same-length-2
    returns-2)
