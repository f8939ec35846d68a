use Prim.Native.Nat.{ℕ, ◌+◌, ◌-◌, ◌<◌, ◌≤◌}
use mathlib.Core.List.{List}
use native.Mathlib.Omega.{arith}
use lib.ListN.{length, get_or}
use borrow.Rule.Slice.PartMut.{put_mid}
use borrow.Author.Rules.{rules}
use Rattle.answer.proofs.Put.{Put, put-start}
use Rattle.jp2_write.specs.Pieces.{todo, one_of, Ready}
use Rattle.jp2_write.proofs.Cells.{code_at}
use Rattle.jp2_write.proofs.Turns.{Turn}
use Rattle.jp2_write.proofs.Counting.{ready-turn, ready-some}
use Rattle.jp2_write.proofs.Putting.{turn-room, turn-put}
use Rattle.jp2_write.proofs.put_ready.Statement.{statement}
use Rattle.jp2_write.proofs.put_ready.Tie as tie

abbrev invariant-loop : tie.invariant-loop-size
invariant-loop out₀ cells from g0 g2 first i₀ at₀ size₀ out i at size =
    (from ≤ i) × (i ≤ length cells) × (size ≤ 0 → from < i) × (0 < size → (i < length cells) × Ready (get_or cells i 0) g0 g2 size)
    × Put (todo cells from g0 g2) out₀ out at (todo cells i g0 g2)

abbrev decreases-loop : tie.decreases-loop-size
decreases-loop out₀ cells from g0 g2 first i₀ at₀ size₀ out i at size = length cells - i

-- the cell in hand
abbrev at-loop : tie.After-shared_slice_known-in-loop-size-1 invariant-loop decreases-loop → tie.At-loop-size invariant-loop decreases-loop
at-loop k = k.before.before.before

abbrev cells_of : tie.At-loop-size invariant-loop decreases-loop → List ℕ
cells_of l = l.args.cells.now

here :
    (k : tie.After-shared_slice_known-in-loop-size-1 invariant-loop decreases-loop) → let l = at-loop k in
    let a = l.args in
    (l.loop-size.i < length (cells_of l)) × Ready (get_or (cells_of l) l.loop-size.i 0) a.g0 a.g2 l.loop-size.size
here k = (at-loop k).loop-size.invariant.3 k.loop-size-test.true

turned :
    (k : tie.After-shared_slice_known-in-loop-size-1 invariant-loop decreases-loop) → let l = at-loop k in
    let a = l.args in
    Turn (cells_of l) l.loop-size.i a.g0 a.g2 (one_of (code_at (cells_of l) l.loop-size.i) l.loop-size.size) (l.loop-size.i + 1) a.g0 a.g2
turned k = ready-turn (here k).0 (here k).1

went :
    (p : tie.After-put_one-at invariant-loop decreases-loop) → let l = at-loop p.before in
    let a = l.args in
    let out = l.loop-size.out in
    let at = l.loop-size.at in
    Put (todo (cells_of l) a.from a.g0 a.g2) a.out.now (put_mid at (length out - at) out p.put_one-at.new.out) (at + p.put_one-at.result)
    (todo (cells_of l) (l.loop-size.i + 1) a.g0 a.g2)
went p = turn-put (at-loop p.before).loop-size.invariant.4 (turned p.before) p.put_one-at.ensures

loop-holds : tie.Need-loop-size-init invariant-loop decreases-loop
loop-holds c =
    let p = c.requires in
    (omega arith, omega (arith, p.0), λ h. absurd (omega (arith, ready-some p.1, h)), λ _. (p.0, p.1), put-start _ _ p.2)

sub-put-one : tie.Need-slice_bounds-put_one-count invariant-loop decreases-loop
sub-put-one c = search rules

part-put-one-start : tie.Need-slice_bounds-put_one-start invariant-loop decreases-loop
part-put-one-start c = search rules

part-put-one-end : tie.Need-slice_bounds-put_one-end invariant-loop decreases-loop
part-put-one-end c = search rules

mul-put-one : tie.Need-offset_bounds-cells-i invariant-loop decreases-loop
mul-put-one c = search rules

shared-slice-read-put-one : tie.Need-bounds-cells-i invariant-loop decreases-loop
shared-slice-read-put-one c = (c.loop-size.invariant.3 c.loop-size-test.true).0

put-one-requires : tie.Need-put_one-at-requires invariant-loop decreases-loop
put-one-requires c κs = (omega (arith, (here c).1.most), turn-room (at-loop c).loop-size.invariant.4 (turned c))

add_at : tie.Need-overflow_add-at invariant-loop decreases-loop
add_at c =
    let p = c.before.before in
    omega (arith, (went p).upto, (went p).room, (at-loop p.before).before.before.before.well_formed)

add-i : tie.Need-overflow_add-i invariant-loop decreases-loop
add-i c =
    let k = c.before.before.before in
    omega (arith, (here k).0, (at-loop k).well_formed)

ready-at-requires : tie.Need-ready_at-size-requires invariant-loop decreases-loop
ready-at-requires c κs = search rules

loop-less : tie.Need-loop-size-smaller invariant-loop decreases-loop
loop-less c = omega (arith, (here c.before.before.before.before).0)

loop-again : tie.Need-loop-size-preserved invariant-loop decreases-loop
loop-again c =
    let p = c.before.before.before in
    let k = p.before in
    let v = (at-loop k).loop-size.invariant in
    (omega (arith, v.0), omega (arith, (here k).0), λ _. omega (arith, v.0), c.ready_at-size.ensures, went p)

same_length : tie.Need-shape_of-out invariant-loop decreases-loop
same_length c = c.loop-size.invariant.4.same

returns : tie.Need-returns invariant-loop decreases-loop
returns c = let v = c.loop-size.invariant in (v.2 c.loop-size-test.false, v.1, v.4)

pub put_ready_spec : {M : Type 1} → statement M
put_ready_spec =
    tie.close
    (tie.spec
    invariant-loop
    decreases-loop
    loop-holds
    sub-put-one
    part-put-one-start
    part-put-one-end
    mul-put-one
    shared-slice-read-put-one
    put-one-requires
    add_at
    add-i
    ready-at-requires
    loop-less
    loop-again
    same_length
    returns)
