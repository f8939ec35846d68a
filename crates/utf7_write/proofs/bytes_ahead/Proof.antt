use Prim.Native.Nat.{◌-◌, ◌≤◌}
use mathlib.Core.Path.{◌≡◌, refl}
use native.Mathlib.Omega.{arith}
use lib.ListN.{length, length-set}
use Rattle.utf7_write.specs.Ahead.{narrow, Narrowed}
use Rattle.utf7_write.proofs.Blocks.{made_more}
use borrow.Author.Rules.{rules}
use Rattle.utf7_write.proofs.bytes_ahead.Statement.{statement}
use Rattle.utf7_write.proofs.bytes_ahead.Tie as tie

abbrev invariant-loop : tie.invariant-loop-k
invariant-loop cells i bytes₀ k₀ bytes k = (length bytes ≡ 16) × Narrowed cells i bytes k × (k ≤ 16)

abbrev decreases-loop : tie.decreases-loop-k
decreases-loop cells i bytes₀ k₀ bytes k = 16 - k

loop-holds : tie.Need-loop-k-init invariant-loop decreases-loop
loop-holds c = (refl, λ m h. absurd (omega arith), omega arith)

add-byte-of : tie.Need-overflow_add-i invariant-loop decreases-loop
add-byte-of c = search rules

mul-byte-of : tie.Need-offset_bounds-cells-i invariant-loop decreases-loop
mul-byte-of c = search rules

shared-slice-read-byte-of : tie.Need-bounds-cells-i invariant-loop decreases-loop
shared-slice-read-byte-of c = search rules

byte-of-requires : tie.Need-byte_of-requires invariant-loop decreases-loop
byte-of-requires c κs = search rules

array-write-bytes : tie.Need-bounds-bytes-k invariant-loop decreases-loop
array-write-bytes c = search rules

add-k : tie.Need-overflow_step-k invariant-loop decreases-loop
add-k c = search rules

loop-less : tie.Need-loop-k-smaller invariant-loop decreases-loop
loop-less c = search rules

loop-again : tie.Need-loop-k-preserved invariant-loop decreases-loop
loop-again c =
    let l = c.before.before.before in
    let a = l.args in (
      simp length-set l.loop-k.invariant.0,
      made_more narrow a.cells.now a.i l.loop-k.bytes l.loop-k.k c.byte_of.result (omega arith) l.loop-k.invariant.1 c.byte_of.ensures,
      omega arith,
    )

returns : tie.Need-returns invariant-loop decreases-loop
returns c =
    let l = c.before in
    let e : l.loop-k.k ≡ 16 = omega (arith, c.loop-k-test.false) in
    rw e at l.loop-k.invariant.1

pub bytes_ahead_spec : {M : Type 1} → statement M
bytes_ahead_spec =
    tie.close
    (tie.spec
    invariant-loop
    decreases-loop
    loop-holds
    add-byte-of
    mul-byte-of
    shared-slice-read-byte-of
    byte-of-requires
    array-write-bytes
    add-k
    loop-less
    loop-again
    returns)
