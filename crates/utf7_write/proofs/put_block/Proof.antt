use Prim.Native.Nat.{◌-◌, ◌≤◌}
use mathlib.Core.Path.{◌≡◌}
use native.Mathlib.Omega.{arith}
use lib.ListN.{length}
use lib.Seq.{paste, paste-zero}
use Rattle.utf7_write.proofs.Blocks.{pasted_length, pasted-more}
use borrow.Author.Rules.{rules}
use Rattle.utf7_write.proofs.put_block.Statement.{statement}
use Rattle.utf7_write.proofs.put_block.Tie as tie

abbrev invariant-loop : tie.invariant-loop-k
invariant-loop out₀ at block k₀ out k = (out ≡ paste out₀ at block k) × (k ≤ 16)

abbrev decreases-loop : tie.decreases-loop-k
decreases-loop out₀ at block k₀ out k = 16 - k

whole : (s : tie.Start invariant-loop decreases-loop) → length s.args.block ≡ 16
whole s = omega (arith, s.well_formed)

same : (l : tie.At-loop-k invariant-loop decreases-loop) → length l.loop-k.out ≡ length l.args.out.now
same l =
    let a = l.args in
    pasted_length a.out.now a.block a.at 16 l.loop-k.k (whole l.before) l.requires l.loop-k.invariant.0 l.loop-k.invariant.1

loop-holds : tie.Need-loop-k-init invariant-loop decreases-loop
loop-holds c = (paste-zero c.args.out.now c.args.at c.args.block, omega arith)

array-read-out : tie.Need-bounds-block-k invariant-loop decreases-loop
array-read-out c = search rules

add-out : tie.Need-overflow_add-out invariant-loop decreases-loop
add-out c = search rules

slice-write-out : tie.Need-bounds-out-at invariant-loop decreases-loop
slice-write-out c = let h = same c.before in search rules

add-k : tie.Need-overflow_step-k invariant-loop decreases-loop
add-k c = search rules

loop-less : tie.Need-loop-k-smaller invariant-loop decreases-loop
loop-less c = search rules

loop-again : tie.Need-loop-k-preserved invariant-loop decreases-loop
loop-again c =
    let l = c.before in
    let a = l.args in
    (pasted-more a.out.now a.block a.at 16 l.loop-k.k (whole l.before) l.requires l.loop-k.invariant.0 c.loop-k-test.true, omega arith)

same_length : tie.Need-shape_of-out invariant-loop decreases-loop
same_length c = same c.before

returns : tie.Need-returns invariant-loop decreases-loop
returns c =
    let e : c.loop-k.k ≡ 16 = omega (arith, c.loop-k-test.false) in
    rw e at c.loop-k.invariant.0

pub put_block_spec : {M : Type 1} → statement M
put_block_spec =
    tie.close
    (tie.spec
    invariant-loop
    decreases-loop
    loop-holds
    array-read-out
    add-out
    slice-write-out
    add-k
    loop-less
    loop-again
    same_length
    returns)
