use Prim.Native.Nat.{ℕ, ◌+◌, ◌-◌, ◌<◌, ◌≤◌}
use mathlib.Core.Path.{◌≡◌, refl, sym, ◌∙◌}
use mathlib.Core.Bool.{Bool, true, false, true≢false}
use mathlib.Core.List.{List, [], ◌++◌, map, append-nil}
use native.Mathlib.Omega.{arith}
use lib.ListN.{length, take, drop, length-map}
use borrow.Rule.Slice.PartMut.{put_mid}
use borrow.Author.Rules.{rules}
use Rattle.answer.proofs.Below.{each_at}
use Rattle.answer.proofs.Put.{Put, put-start, put_as, put-lent-room, put-lent, put-done}
use Rattle.jp2.specs.Table.{row_of_number}
use Rattle.jp2.specs.Writable.{shift_set, codes, writable}
use Rattle.jp2.specs.Writing.{writing}
use Rattle.jp2.proofs.Sets.{Writable}
use Rattle.jp2.proofs.Rows.{row-found}
use Rattle.jp2_write.specs.Pieces.{designation_of, base_of, shifted_of, low_byte, g2_after, todo}
use Rattle.jp2_write.proofs.Cells.{small-shift, some-set, ascii-row, set_at, code_at}
use Rattle.jp2_write.proofs.Turns.{Turn, turns_left, turn-stretch, turn-base, turn-shift, turn-g2, turn-g0, last_none, last_some}
use Rattle.jp2_write.proofs.Putting.{held_after, Written, written_in, written-room, written_on, run-turn, run-puts}
use Rattle.jp2_write.proofs.write_all.Statement.{statement}
use Rattle.jp2_write.proofs.write_all.Tie as tie

abbrev invariant-loop : tie.invariant-loop-i
invariant-loop cells out₀ g0₀ g2₀ at₀ i₀ out g0 g2 at i = Written cells out₀ out at i g0 g2

abbrev decreases-loop : tie.decreases-loop-i
decreases-loop cells out₀ g0₀ g2₀ at₀ i₀ out g0 g2 at i = turns_left cells i g0 g2

-- the cell in hand, and where it is not ready
abbrev of-cell : tie.After-shared_slice_known-else-i-j-1 invariant-loop decreases-loop → tie.At-loop-i invariant-loop decreases-loop
of-cell k = k.before.before.before.before

abbrev at-loop : tie.Else-size-gt0 invariant-loop decreases-loop → tie.At-loop-i invariant-loop decreases-loop
at-loop e = of-cell e.before.before

abbrev cells_of : tie.At-loop-i invariant-loop decreases-loop → List ℕ
cells_of l = l.args.cells.now

in_cells : (k : tie.After-shared_slice_known-else-i-j-1 invariant-loop decreases-loop) → (of-cell k).loop-i.i < length (cells_of (of-cell k))
in_cells k = k.loop-i-test.true

in_list : (e : tie.Else-size-gt0 invariant-loop decreases-loop) → (at-loop e).loop-i.i < length (cells_of (at-loop e))
in_list e = in_cells e.before.before

coded :
    (k : tie.Else-size-gt0 invariant-loop decreases-loop) → let l = at-loop k in
    codes (set_at (cells_of l) l.loop-i.i) (code_at (cells_of l) l.loop-i.i) ≡ true
unfolding writable
coded k = let l = at-loop k in each_at Writable (cells_of l) l.loop-i.i l.requires.0 (in_list k)

known : (k : tie.Else-size-gt0 invariant-loop decreases-loop) → row_of_number (set_at (cells_of (at-loop k)) (at-loop k).loop-i.i) < 9
known k = row-found _ _ (coded k)

-- the five turns
stretched :
    (c : tie.Then-i-j invariant-loop decreases-loop) → let l = c.before.before.before in
    let j = c.stretch_end-j.result in
    Turn (cells_of l) l.loop-i.i l.loop-i.g0 l.loop-i.g2 (map low_byte (take (j - l.loop-i.i) (drop l.loop-i.i (cells_of l)))) j l.loop-i.g0 l.loop-i.g2
stretched c = turn-stretch _ c.stretch_end-j.ensures c.if-i-j.true c.loop-i.invariant.base

based :
    (c : tie.Then-n-g0 invariant-loop decreases-loop) → let l = at-loop c.before in
    let cells = cells_of l in
    Turn cells l.loop-i.i l.loop-i.g0 l.loop-i.g2 (base_of (set_at cells l.loop-i.i) (code_at cells l.loop-i.i)) (l.loop-i.i + 1) l.loop-i.g0 (g2_after cells l.loop-i.i l.loop-i.g2)
based c = turn-base _ _ (in_list c.before) c.if-n-g0.true (at-loop c.before).loop-i.invariant.base

-- the set in G2 is one of G2
is-shift : (c : tie.Then-n-g2 invariant-loop decreases-loop) → let l = at-loop c.before.before in shift_set (set_at (cells_of l) l.loop-i.i) ≡ true
is-shift c =
    let k = c.before.before in
    let some = some-set _ _ (coded k) in
    rw c.if-n-g2.true ((at-loop k).loop-i.invariant.held (rw c.if-n-g2.true at some))

shifted :
    (c : tie.Then-n-g2 invariant-loop decreases-loop) → let l = at-loop c.before.before in
    Turn
    (cells_of l)
    l.loop-i.i
    l.loop-i.g0
    l.loop-i.g2
    (shifted_of (code_at (cells_of l) l.loop-i.i))
    (l.loop-i.i + 1)
    l.loop-i.g0
    l.loop-i.g2
shifted c =
    let k = c.before.before in
    turn-shift _ _ (in_list k) c.if-n-g2.true (is-shift c) (at-loop k).loop-i.invariant.base

-- a set that is not in force, for G2 or for G0
module _ (e : tie.Else-n-g2 invariant-loop decreases-loop) where
  abbrev was : tie.At-loop-i invariant-loop decreases-loop
  was = at-loop e.before.before

  abbrev set : ℕ
  set = set_at (cells_of was) was.loop-i.i

  abbrev To : ℕ → ℕ → Type 0
  To g0 g2 = Turn (cells_of was) was.loop-i.i was.loop-i.g0 was.loop-i.g2 (designation_of set) was.loop-i.i g0 g2

  to-g2 : shift_set set ≡ true → To was.loop-i.g0 set
  to-g2 s = turn-g2 _ _ (in_list e.before.before) e.if-n-g2.false s was.loop-i.invariant.base

  to-g0 : shift_set set ≡ false → To set was.loop-i.g2
  to-g0 s = turn-g0 _ _ (in_list e.before.before) e.if-n-g0.false s

  either_room :
      (t : Bool) → shift_set set ≡ t →
      length (designation_of set) ≤ length (take (length was.loop-i.out - was.loop-i.at) (drop was.loop-i.at was.loop-i.out))
  either_room true s = written-room was.loop-i.invariant (to-g2 s)
  either_room false s = written-room was.loop-i.invariant (to-g0 s)

-- what each leaves of the output
abbrev Put-on : tie.At-loop-i invariant-loop decreases-loop → List ℕ → ℕ → ℕ → ℕ → ℕ → Type 0
Put-on l y count i g0 g2 =
    let out = l.loop-i.out in
    let at = l.loop-i.at in
    Written (cells_of l) l.args.out.now (put_mid at (length out - at) out y) (at + count) i g0 g2

stretch-put :
    (c : tie.After-put_plain-at invariant-loop decreases-loop) → let t = c.before.before.before in
    let l = t.before.before.before in
    Put-on l c.put_plain-at.new.out c.put_plain-at.result t.stretch_end-j.result l.loop-i.g0 l.loop-i.g2
stretch-put c =
    let t = c.before.before.before in
    let v = t.loop-i.invariant in
    written_on v (stretched t) v.held c.put_plain-at.ensures

base-put :
    (c : tie.After-put_base-at invariant-loop decreases-loop) → let l = at-loop c.before.before.before in
    Put-on l c.put_base-at.new.out c.put_base-at.result (l.loop-i.i + 1) l.loop-i.g0 (g2_after (cells_of l) l.loop-i.i l.loop-i.g2)
base-put c =
    let t = c.before.before in
    let l = at-loop t.before in
    written_on l.loop-i.invariant (based t) (held_after (cells_of l) l.loop-i.i l.loop-i.g2 l.loop-i.invariant.held) c.put_base-at.ensures

shift-put :
    (c : tie.After-put_shifted-at invariant-loop decreases-loop) → let l = at-loop c.before.before.before.before in
    Put-on l c.put_shifted-at.new.out c.put_shifted-at.result (l.loop-i.i + 1) l.loop-i.g0 l.loop-i.g2
shift-put c =
    let t = c.before.before in
    let v = (at-loop t.before.before).loop-i.invariant in
    written_on v (shifted t) v.held c.put_shifted-at.ensures

module _ (c : tie.After-designate-at invariant-loop decreases-loop) where
  abbrev waited : tie.Else-n-g2 invariant-loop decreases-loop
  waited = c.before.before

  g2-put :
      shift_set (set waited) ≡ true →
      Put-on (was waited) c.designate-at.new.out c.designate-at.result (was waited).loop-i.i (was waited).loop-i.g0 (set waited)
  g2-put s = written_on (was waited).loop-i.invariant (to-g2 waited s) (λ _. s) c.designate-at.ensures

  g0-put :
      shift_set (set waited) ≡ false →
      Put-on (was waited) c.designate-at.new.out c.designate-at.result (was waited).loop-i.i (set waited) (was waited).loop-i.g2
  g0-put s = let v = (was waited).loop-i.invariant in written_on v (to-g0 waited s) v.held c.designate-at.ensures

  either-in : (t : Bool) → shift_set (set waited) ≡ t → (was waited).loop-i.at + c.designate-at.result ≤ length (was waited).args.out.now
  either-in true s = written_in (g2-put s)
  either-in false s = written_in (g0-put s)

loop-holds : tie.Need-loop-i-init invariant-loop decreases-loop
unfolding writing shift_set
loop-holds c = record { put = put-start _ _ c.requires.1; within = omega arith; base = refl; held = λ e. absurd (true≢false e) }

stretch-end-requires : tie.Need-stretch_end-j-requires invariant-loop decreases-loop
stretch-end-requires c κs = c.loop-i.invariant.within

sub-put-plain : tie.Need-slice_bounds-put_plain-count invariant-loop decreases-loop
sub-put-plain c = search rules

part-put-plain-start : tie.Need-slice_bounds-put_plain-start invariant-loop decreases-loop
part-put-plain-start c = search rules

part-put-plain-end : tie.Need-slice_bounds-put_plain-end invariant-loop decreases-loop
part-put-plain-end c = search rules

mul-put-plain : tie.Need-offset_bounds-cells-i invariant-loop decreases-loop
mul-put-plain c = search rules

sub-put-plain-2 : tie.Need-slice_bounds-put_plain-count-then-i-j invariant-loop decreases-loop
sub-put-plain-2 c = search rules

part-put-plain-start-2 : tie.Need-slice_bounds-put_plain-start-then-i-j invariant-loop decreases-loop
part-put-plain-start-2 c = search rules

part-put-plain-end-2 : tie.Need-slice_bounds-put_plain-end-then-i-j invariant-loop decreases-loop
part-put-plain-end-2 c = search rules

put-plain-requires : tie.Need-put_plain-at-requires invariant-loop decreases-loop
put-plain-requires c κs =
    let t = c.before.before in
    simp length-map at (written-room t.loop-i.invariant (stretched t))

add_at : tie.Need-overflow_add-at invariant-loop decreases-loop
add_at c =
    let p = c.before.before in
    omega (arith, written_in (stretch-put p), p.well_formed)

loop-less : tie.Need-loop-i-smaller-then-i-j invariant-loop decreases-loop
loop-less c = (stretched c.before.before.before.before.before).less

loop-again : tie.Need-loop-i-preserved-then-i-j invariant-loop decreases-loop
loop-again c = stretch-put c.before.before

mul-v : tie.Need-offset_bounds-cells-i-else-i-j invariant-loop decreases-loop
mul-v c = search rules

shared-slice-read-v : tie.Need-bounds-cells-i invariant-loop decreases-loop
shared-slice-read-v c = search rules

ready-requires : tie.Need-ready-size-requires invariant-loop decreases-loop
ready-requires c κs = search rules

sub-put-ready : tie.Need-slice_bounds-put_ready-count invariant-loop decreases-loop
sub-put-ready c = search rules

part-put-ready-start : tie.Need-slice_bounds-put_ready-start invariant-loop decreases-loop
part-put-ready-start c = search rules

part-put-ready-end : tie.Need-slice_bounds-put_ready-end invariant-loop decreases-loop
part-put-ready-end c = search rules

put-ready-requires : tie.Need-put_ready-run-requires invariant-loop decreases-loop
put-ready-requires c κs =
    let t = c.before in
    let k = t.before.before in
    let l = of-cell k in
    let left = todo (cells_of l) l.loop-i.i l.loop-i.g0 l.loop-i.g2 in
    (in_cells k, t.ready-size.ensures t.if-size-gt0.true, put-lent-room left [] (put_as (sym (append-nil left)) l.loop-i.invariant.put))

-- a run of ready cells
ran :
    (c : tie.After-put_ready-run invariant-loop decreases-loop) → let l = of-cell c.before.before.before.before in
    Turn
    (cells_of l)
    l.loop-i.i
    l.loop-i.g0
    l.loop-i.g2
    (take c.put_ready-run.result.count (todo (cells_of l) l.loop-i.i l.loop-i.g0 l.loop-i.g2))
    c.put_ready-run.result.i
    l.loop-i.g0
    l.loop-i.g2
ran c =
    let l = of-cell c.before.before.before.before in
    let r = c.put_ready-run.ensures in
    run-turn (cells_of l) l.loop-i.i _ _ _ r.2 r.0 r.1 l.loop-i.invariant.base

run-put :
    (c : tie.After-put_ready-run invariant-loop decreases-loop) → let l = of-cell c.before.before.before.before in
    Put-on l c.put_ready-run.new.out c.put_ready-run.result.count c.put_ready-run.result.i l.loop-i.g0 l.loop-i.g2
run-put c =
    let l = of-cell c.before.before.before.before in
    let v = l.loop-i.invariant in
    written_on v (ran c) v.held (run-puts (cells_of l) l.loop-i.i c.put_ready-run.result.i l.loop-i.g0 l.loop-i.g2 c.put_ready-run.ensures.2)

add-at-2 : tie.Need-overflow_add-at-then-size-gt0 invariant-loop decreases-loop
add-at-2 c =
    let p = c.before.before.before in
    omega (arith, written_in (run-put p), (of-cell p.before.before.before.before).before.before.before.well_formed)

loop-less-2 : tie.Need-loop-i-smaller-then-size-gt0 invariant-loop decreases-loop
loop-less-2 c = (ran c.before.before.before).less

loop-again-2 : tie.Need-loop-i-preserved-then-size-gt0 invariant-loop decreases-loop
loop-again-2 c = run-put c.before.before.before

cast-n : tie.Need-overflow_cast-n invariant-loop decreases-loop
cast-n c = omega (arith, c.shared_slice_known-else-i-j-1.given (at-loop c).loop-i.i)

sub-put-base : tie.Need-slice_bounds-put_base-count invariant-loop decreases-loop
sub-put-base c = search rules

part-put-base-start : tie.Need-slice_bounds-put_base-start invariant-loop decreases-loop
part-put-base-start c = search rules

part-put-base-end : tie.Need-slice_bounds-put_base-end invariant-loop decreases-loop
part-put-base-end c = search rules

put-base-requires : tie.Need-put_base-at-requires invariant-loop decreases-loop
put-base-requires c κs =
    let t = c.before in
    let l = at-loop t.before in
    (coded t.before, rw t.if-n-g0.true l.loop-i.invariant.base, written-room l.loop-i.invariant (based t))

add-at-3 : tie.Need-overflow_add-at-then-n-g0 invariant-loop decreases-loop
add-at-3 c =
    let p = c.before.before in
    omega (arith, written_in (base-put p), (at-loop p.before.before.before).before.before.before.well_formed)

g2-after-requires : tie.Need-g2_after-g2-requires invariant-loop decreases-loop
g2-after-requires c κs = in_list c.before.before.before.before.before

add-i : tie.Need-overflow_add-i invariant-loop decreases-loop
add-i c =
    let k = c.before.before.before.before.before.before in
    omega (arith, in_list k, (at-loop k).well_formed)

loop-less-3 : tie.Need-loop-i-smaller-then-n-g0 invariant-loop decreases-loop
loop-less-3 c = rw c.g2_after-g2.ensures (based c.before.before.before.before.before).less

loop-again-3 : tie.Need-loop-i-preserved-then-n-g0 invariant-loop decreases-loop
loop-again-3 c = rw c.g2_after-g2.ensures (base-put c.before.before.before)

sub-put-shifted : tie.Need-slice_bounds-put_shifted-count invariant-loop decreases-loop
sub-put-shifted c = search rules

part-put-shifted-start : tie.Need-slice_bounds-put_shifted-start invariant-loop decreases-loop
part-put-shifted-start c = search rules

part-put-shifted-end : tie.Need-slice_bounds-put_shifted-end invariant-loop decreases-loop
part-put-shifted-end c = search rules

put-shifted-requires : tie.Need-put_shifted-at-requires invariant-loop decreases-loop
put-shifted-requires c κs =
    let t = c.before in
    let k = t.before.before in
    (omega (arith, small-shift _ _ (coded k) (is-shift t)), written-room (at-loop k).loop-i.invariant (shifted t))

add-at-4 : tie.Need-overflow_add-at-then-n-g2 invariant-loop decreases-loop
add-at-4 c =
    let p = c.before.before in
    omega (arith, written_in (shift-put p), (at-loop p.before.before.before.before).before.before.before.well_formed)

add-i-2 : tie.Need-overflow_add-i-then-n-g2 invariant-loop decreases-loop
add-i-2 c =
    let k = c.before.before.before.before.before.before in
    omega (arith, in_list k, (at-loop k).well_formed)

loop-less-4 : tie.Need-loop-i-smaller-then-n-g2 invariant-loop decreases-loop
loop-less-4 c = (shifted c.before.before.before.before).less

loop-again-4 : tie.Need-loop-i-preserved-then-n-g2 invariant-loop decreases-loop
loop-again-4 c = shift-put c.before.before

sub-designate : tie.Need-slice_bounds-designate-count invariant-loop decreases-loop
sub-designate c = search rules

part-designate-start : tie.Need-slice_bounds-designate-start invariant-loop decreases-loop
part-designate-start c = search rules

part-designate-end : tie.Need-slice_bounds-designate-end invariant-loop decreases-loop
part-designate-end c = search rules

designate-requires : tie.Need-designate-at-requires invariant-loop decreases-loop
designate-requires c κs =
    let e = c.before in
    (known e.before.before, either_room e (shift_set (set e)) refl)

add-at-5 : tie.Need-overflow_add-at-else-n-g2 invariant-loop decreases-loop
add-at-5 c =
    let d = c.before.before in
    omega (arith, either-in d (shift_set (set (waited d))) refl, (was (waited d)).before.before.before.well_formed)

cast-is-shift-set : tie.Need-overflow_cast-n-else-n-g2 invariant-loop decreases-loop
cast-is-shift-set c =
    let k = c.before.before.before.before.before.before in
    omega (arith, k.shared_slice_known-else-i-j-1.given (at-loop k).loop-i.i)

is-shift-set-requires : tie.Need-is_shift_set-requires invariant-loop decreases-loop
is-shift-set-requires c κs = search rules

shifts : (c : tie.Then-is_shift_set invariant-loop decreases-loop) → shift_set (set (waited c.before.before.before.before)) ≡ true
shifts c = sym c.is_shift_set.ensures ∙ c.if-is_shift_set.true

stays : (c : tie.Else-is_shift_set invariant-loop decreases-loop) → shift_set (set (waited c.before.before.before.before)) ≡ false
stays c = sym c.is_shift_set.ensures ∙ c.if-is_shift_set.false

loop-less-5 : tie.Need-loop-i-smaller-then-is_shift_set invariant-loop decreases-loop
loop-less-5 c = (to-g2 (waited c.before.before.before.before) (shifts c)).less

loop-again-5 : tie.Need-loop-i-preserved-then-is_shift_set invariant-loop decreases-loop
loop-again-5 c = g2-put c.before.before.before.before (shifts c)

loop-less-6 : tie.Need-loop-i-smaller invariant-loop decreases-loop
loop-less-6 c = (to-g0 (waited c.before.before.before.before) (stays c)).less

loop-again-6 : tie.Need-loop-i-preserved invariant-loop decreases-loop
loop-again-6 c = g0-put c.before.before.before.before (stays c)

-- the return to ASCII
return-left :
    (c : tie.Then-g0-ne6 invariant-loop decreases-loop) → let l = c.before.before in
    Put (writing (cells_of l)) l.args.out.now l.loop-i.out l.loop-i.at (designation_of 6 ++ [])
return-left c =
    put_as (last_some _ _ _ _ c.loop-i-test.false c.if-g0-ne6.true ∙ sym (append-nil (designation_of 6))) c.loop-i.invariant.put

returned :
    (c : tie.After-designate invariant-loop decreases-loop) → let l = c.before.before.before.before in
    let out = l.loop-i.out in
    let at = l.loop-i.at in
    Put (writing (cells_of l)) l.args.out.now (put_mid at (length out - at) out c.designate.new.out) (at + length (designation_of 6)) []
returned c = put-lent (designation_of 6) [] (return-left c.before.before) c.designate.ensures.so

sub-designate-2 : tie.Need-slice_bounds-designate-count-then-g0-ne6 invariant-loop decreases-loop
sub-designate-2 c = search rules

part-designate-start-2 : tie.Need-slice_bounds-designate-start-then-g0-ne6 invariant-loop decreases-loop
part-designate-start-2 c = search rules

part-designate-end-2 : tie.Need-slice_bounds-designate-end-then-g0-ne6 invariant-loop decreases-loop
part-designate-end-2 c = search rules

designate-requires-2 : tie.Need-designate-requires invariant-loop decreases-loop
designate-requires-2 c κs = (ascii-row, put-lent-room (designation_of 6) [] (return-left c.before))

same_length : tie.Need-shape_of-out-then-g0-ne6 invariant-loop decreases-loop
same_length c = (returned c.before.before).same

returns : tie.Need-returns-then-g0-ne6 invariant-loop decreases-loop
returns c = put-done (returned c.before.before)

same-length-2 : tie.Need-shape_of-out-else-g0-ne6 invariant-loop decreases-loop
same-length-2 c = c.loop-i.invariant.put.same

returns-2 : tie.Need-returns-else-g0-ne6 invariant-loop decreases-loop
returns-2 c = put-done (put_as (last_none _ _ _ _ c.loop-i-test.false c.if-g0-ne6.false) c.loop-i.invariant.put)

pub write_all_spec : {M : Type 1} → statement M
write_all_spec =
    tie.close
    (tie.spec
    invariant-loop
    decreases-loop
    loop-holds
    stretch-end-requires
    sub-put-plain
    part-put-plain-start
    part-put-plain-end
    mul-put-plain
    sub-put-plain-2
    part-put-plain-start-2
    part-put-plain-end-2
    put-plain-requires
    add_at
    loop-less
    loop-again
    mul-v
    shared-slice-read-v
    ready-requires
    sub-put-ready
    part-put-ready-start
    part-put-ready-end
    put-ready-requires
    add-at-2
    loop-less-2
    loop-again-2
    cast-n
    sub-put-base
    part-put-base-start
    part-put-base-end
    put-base-requires
    add-at-3
    g2-after-requires
    add-i
    loop-less-3
    loop-again-3
    sub-put-shifted
    part-put-shifted-start
    part-put-shifted-end
    put-shifted-requires
    add-at-4
    add-i-2
    loop-less-4
    loop-again-4
    sub-designate
    part-designate-start
    part-designate-end
    designate-requires
    add-at-5
    cast-is-shift-set
    is-shift-set-requires
    loop-less-5
    loop-again-5
    loop-less-6
    loop-again-6
    sub-designate-2
    part-designate-start-2
    part-designate-end-2
    designate-requires-2
    same_length
    returns
    same-length-2
    returns-2)
