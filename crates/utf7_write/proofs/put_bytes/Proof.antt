use Prim.Native.Nat.{◌+◌, ◌-◌, ◌<◌, ◌≤◌}
use mathlib.Core.Path.{◌≡◌, refl, ◌∙◌, ap}
use native.Mathlib.Omega.{arith}
use lib.ListN.{length}
use lib.Seq.{length-paste}
use Rattle.utf7_write.specs.Ahead.{Narrowed}
use Rattle.utf7_write.proofs.Marks.{narrowed-block}
use borrow.Author.Rules.{rules}
use Rattle.utf7_write.proofs.put_bytes.Statement.{statement}
use Rattle.utf7_write.proofs.put_bytes.Tie as tie

abbrev invariant-loop : tie.invariant-loop-n
invariant-loop cells from out₀ most n₀ out n = Narrowed cells from out n × (length out ≡ length out₀) × (n ≤ most) × (0 < n → 16 ≤ n)

abbrev decreases-loop : tie.decreases-loop-n
decreases-loop cells from out₀ most n₀ out n = most - n

sub-room-for : tie.Need-overflow_sub-cells invariant-loop decreases-loop
sub-room-for c = search rules

room-for-requires : tie.Need-room_for-most-requires invariant-loop decreases-loop
room-for-requires c κs = search rules

loop-holds : tie.Need-loop-n-init invariant-loop decreases-loop
loop-holds c = (λ m h. absurd (omega arith), refl, omega arith, λ h. absurd (omega arith))

sub-loop : tie.Need-overflow_sub-most invariant-loop decreases-loop
sub-loop c = search rules

add-bytes-ahead : tie.Need-overflow_add-from invariant-loop decreases-loop
add-bytes-ahead c = search rules

bytes-ahead-requires : tie.Need-bytes_ahead-bytes-requires invariant-loop decreases-loop
bytes-ahead-requires c κs = search rules

put-block-requires : tie.Need-put_block-requires invariant-loop decreases-loop
put-block-requires c κs = search rules

add-n : tie.Need-overflow_add-n invariant-loop decreases-loop
add-n c = search rules

loop-less : tie.Need-loop-n-smaller invariant-loop decreases-loop
loop-less c = search rules

loop-again : tie.Need-loop-n-preserved invariant-loop decreases-loop
loop-again c =
    let p = c.before.before in
    let l = p.before.before.before.before in
    let g = p.bytes_ahead-bytes in
    let a = l.args in
    let v = l.loop-n.invariant in
    let w : length g.result ≡ 16 = omega (arith, g.type_inv) in
    let h : l.loop-n.n + 16 ≤ length l.loop-n.out = omega (arith, v.1, l.room_for-most.ensures.1, p.loop-n-test.true) in (
      narrowed-block a.cells.now a.from l.loop-n.out g.result l.loop-n.n h w v.0 g.ensures p.put_block.ensures,
      ap length p.put_block.ensures ∙ length-paste l.loop-n.out l.loop-n.n g.result 16 h (omega arith) ∙ v.1,
      omega (arith, p.loop-n-test.true),
      λ q. omega arith,
    )

same_length : tie.Need-shape_of-out invariant-loop decreases-loop
same_length c = c.loop-n.invariant.1

returns : tie.Need-returns invariant-loop decreases-loop
returns c =
    let l = c.before in
    let v = l.loop-n.invariant in
    let e = l.room_for-most.ensures in
    (omega (arith, v.2, e.1), v.0, λ h k. v.3 (omega (arith, c.loop-n-test.false, e.2 (omega arith) k)))

pub put_bytes_spec : {M : Type 1} → statement M
put_bytes_spec =
    tie.close
    (tie.spec
    invariant-loop
    decreases-loop
    sub-room-for
    room-for-requires
    loop-holds
    sub-loop
    add-bytes-ahead
    bytes-ahead-requires
    put-block-requires
    add-n
    loop-less
    loop-again
    same_length
    returns)
