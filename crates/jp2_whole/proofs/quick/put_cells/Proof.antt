use Prim.Native.Nat.{◌-◌, ◌≤◌}
use mathlib.Core.Path.{◌≡◌}
use native.Mathlib.Omega.{arith}
use lib.Seq.{take_all}
use lib.ListN.{take}
use borrow.Author.Rules.{rules}
use Rattle.answer.proofs.Laid.{Laid, laid_none, laid_next}
use Rattle.jp2_whole.proofs.quick.put_cells.Statement.{statement}
use Rattle.jp2_whole.proofs.quick.put_cells.Tie as tie

abbrev invariant-loop : tie.invariant-loop-k
invariant-loop out₀ n x k₀ out k = (k ≤ 16) × Laid (take k x) n out₀ out

abbrev decreases-loop : tie.decreases-loop-k
decreases-loop out₀ n x k₀ out k = 16 - k

loop-holds : tie.Need-loop-k-init invariant-loop decreases-loop
loop-holds c = (omega arith, laid_none _ _)

mul-out : tie.Need-offset_bounds-x-k invariant-loop decreases-loop
mul-out c = search rules

array-read-out : tie.Need-bounds-x-k invariant-loop decreases-loop
array-read-out c = search rules

add-out : tie.Need-overflow_add-out invariant-loop decreases-loop
add-out c = search rules

mul-out-2 : tie.Need-offset_bounds-out-n invariant-loop decreases-loop
mul-out-2 c = search rules

slice-write-out : tie.Need-bounds-out-n invariant-loop decreases-loop
slice-write-out c = omega (arith, c.loop-k.invariant.1.same)

add-k : tie.Need-overflow_step-k invariant-loop decreases-loop
add-k c = search rules

loop-less : tie.Need-loop-k-smaller invariant-loop decreases-loop
loop-less c = search rules

loop-again : tie.Need-loop-k-preserved invariant-loop decreases-loop
loop-again c = let l = c in
    (omega arith, laid_next l.args.x l.loop-k.k l.loop-k.invariant.1 (omega arith) (omega (arith, l.loop-k.invariant.1.same)))

same_length : tie.Need-shape_of-out invariant-loop decreases-loop
same_length c = c.loop-k.invariant.1.same

returns : tie.Need-returns invariant-loop decreases-loop
returns c = let l = c.loop-k in
    let s = c in
    let e : take l.k s.args.x ≡ s.args.x = take_all l.k s.args.x (omega (arith, s.requires.0, c.loop-k-test.false)) in
    rw e at l.invariant.1

pub put_cells_spec : {M : Type 1} → statement M
put_cells_spec =
    tie.close
    (tie.spec
    invariant-loop
    decreases-loop
    loop-holds
    mul-out
    array-read-out
    add-out
    mul-out-2
    slice-write-out
    add-k
    loop-less
    loop-again
    same_length
    returns)
