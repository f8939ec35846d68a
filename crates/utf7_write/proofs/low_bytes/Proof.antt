use Prim.Native.Nat.{◌-◌, ◌%◌, ◌≤◌}
use mathlib.Core.Path.{◌≡◌, refl}
use native.Mathlib.Omega.{arith}
use lib.ListN.{length, length-set}
use Rattle.utf7_write.specs.Ahead.{Low}
use Rattle.utf7_write.proofs.Blocks.{made_more}
use borrow.Author.Rules.{rules}
use Rattle.utf7_write.proofs.low_bytes.Statement.{statement}
use Rattle.utf7_write.proofs.low_bytes.Tie as tie

abbrev invariant-loop : tie.invariant-loop-k
invariant-loop cells i bytes₀ k₀ bytes k = (length bytes ≡ 16) × Low cells i bytes k × (k ≤ 16)

abbrev decreases-loop : tie.decreases-loop-k
decreases-loop cells i bytes₀ k₀ bytes k = 16 - k

loop-holds : tie.Need-loop-k-init invariant-loop decreases-loop
loop-holds c = (refl, λ m h. absurd (omega arith), omega arith)

add-bytes : tie.Need-overflow_add-bytes invariant-loop decreases-loop
add-bytes c = search rules

mul-bytes : tie.Need-offset_bounds-cells-i invariant-loop decreases-loop
mul-bytes c = search rules

shared-slice-read-bytes : tie.Need-bounds-cells-i invariant-loop decreases-loop
shared-slice-read-bytes c = search rules

cast-bytes : tie.Need-overflow_cast-bytes invariant-loop decreases-loop
cast-bytes c = search rules

array-write-bytes : tie.Need-bounds-bytes-k invariant-loop decreases-loop
array-write-bytes c = search rules

add-k : tie.Need-overflow_step-k invariant-loop decreases-loop
add-k c = search rules

loop-less : tie.Need-loop-k-smaller invariant-loop decreases-loop
loop-less c = search rules

loop-again : tie.Need-loop-k-preserved invariant-loop decreases-loop
loop-again c =
    let l = c.before.before in
    let a = l.args in (
      simp length-set l.loop-k.invariant.0,
      made_more (λ u. u % 256) a.cells.now a.i l.loop-k.bytes l.loop-k.k _ (omega arith) l.loop-k.invariant.1 refl,
      omega arith,
    )

returns : tie.Need-returns invariant-loop decreases-loop
returns c =
    let l = c.before in
    let e : l.loop-k.k ≡ 16 = omega (arith, c.loop-k-test.false) in
    rw e at l.loop-k.invariant.1

pub low_bytes_spec : {M : Type 1} → statement M
low_bytes_spec =
    tie.close
    (tie.spec
    invariant-loop
    decreases-loop
    loop-holds
    add-bytes
    mul-bytes
    shared-slice-read-bytes
    cast-bytes
    array-write-bytes
    add-k
    loop-less
    loop-again
    returns)
