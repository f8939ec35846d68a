use Prim.Native.Nat.{ℕ, ◌+◌, ◌-◌, ◌^◌, ◌<◌, ◌≤◌}
use mathlib.Core.Path.{◌≡◌, refl, sym, ap, ◌∙◌}
use mathlib.Core.Bool.{Bool, true, false, not}
use mathlib.Core.List.{List}
use native.Mathlib.Omega.{arith}
use lib.ListN.{length, get_or}
use borrow.Author.Rules.{rules}
use Rattle.answer.proofs.Once.{limit-small}
use Rattle.jp2.specs.Table.{row_of_number}
use Rattle.jp2.specs.Writable.{shift_set, writable, first_foreign}
use Rattle.jp2.specs.Writing.{writing}
use Rattle.jp2.proofs.Search.{passed_start, passed_here, passed-end}
use Rattle.jp2.proofs.Rows.{row-found}
use Rattle.jp2_write.specs.Pieces.{body_size, g2_after}
use Rattle.jp2_write.proofs.Cells.{set_at}
use Rattle.jp2_write.proofs.Turns.{turns_left, turn-stretch, turn-g2, turn-g0, last-first}
use Rattle.jp2_write.proofs.Counting.{stretch-length, Grows, grows, ready-writable, ready-grows, body-grows, not-g2, not-g0, Judged, judged-on, judged-to, judged-stretch, run-grows, writing-most, Counted, counted-on, counted-fits}
use Rattle.jp2_write.proofs.survey_cells.Statement.{statement}
use Rattle.jp2_write.proofs.survey_cells.Tie as tie

abbrev invariant-loop : tie.invariant-loop-i
invariant-loop cells g0₀ g2₀ total₀ i₀ g0 g2 total i = Counted cells i g0 g2 total

abbrev decreases-loop : tie.decreases-loop-i
decreases-loop cells g0₀ g2₀ total₀ i₀ g0 g2 total i = turns_left cells i g0 g2

-- the cell in hand
abbrev at-loop : tie.After-shared_slice_known-else-i-j-1 invariant-loop decreases-loop → tie.At-loop-i invariant-loop decreases-loop
at-loop k = k.before.before.before.before

abbrev cells_of : tie.At-loop-i invariant-loop decreases-loop → List ℕ
cells_of l = l.args.cells.now

in_list : (k : tie.After-shared_slice_known-else-i-j-1 invariant-loop decreases-loop) → (at-loop k).loop-i.i < length (cells_of (at-loop k))
in_list k = k.loop-i-test.true

-- a writable cell that is not ready
abbrev cell : tie.Else-not-is_writable invariant-loop decreases-loop → tie.After-shared_slice_known-else-i-j-1 invariant-loop decreases-loop
cell e = e.before.before.before.before

abbrev here : tie.Else-not-is_writable invariant-loop decreases-loop → tie.At-loop-i invariant-loop decreases-loop
here e = at-loop (cell e)

may : (e : tie.Else-not-is_writable invariant-loop decreases-loop) → writable (get_or (cells_of (here e)) (here e).loop-i.i 0) ≡ true
may e = sym e.is_writable.ensures ∙ e.if-not-is_writable.false

known : (e : tie.Else-not-is_writable invariant-loop decreases-loop) → row_of_number (set_at (cells_of (here e)) (here e).loop-i.i) < 9
unfolding writable
known e = row-found _ _ (may e)

on : (e : tie.Else-not-is_writable invariant-loop decreases-loop) → Judged (cells_of (here e)) ((here e).loop-i.i + 1)
on e = judged-on (here e).loop-i.invariant.judged (in_list (cell e)) (may e)

-- the five turns
stretched :
    (c : tie.Then-i-j invariant-loop decreases-loop) → let l = c.before.before.before in
    let j = c.stretch_end-j.result in
    Grows (cells_of l) l.loop-i.i l.loop-i.g0 l.loop-i.g2 (j - l.loop-i.i) j l.loop-i.g0 l.loop-i.g2
stretched c =
    let s = c.stretch_end-j.ensures in
    grows (turn-stretch _ s c.if-i-j.true c.loop-i.invariant.base) (sym (stretch-length s))

stood :
    (c : tie.Then-size-gt0 invariant-loop decreases-loop) → let l = at-loop c.before.before in
    Grows (cells_of l) l.loop-i.i l.loop-i.g0 l.loop-i.g2 c.ready-size.result (l.loop-i.i + 1) l.loop-i.g0 l.loop-i.g2
stood c =
    let k = c.before.before in
    ready-grows _ _ _ (in_list k) (c.ready-size.ensures c.if-size-gt0.true) (at-loop k).loop-i.invariant.base

stands :
    (c : tie.Then-bytes-gt0 invariant-loop decreases-loop) → let l = here c.before.before in
    Grows
    (cells_of l)
    l.loop-i.i
    l.loop-i.g0
    l.loop-i.g2
    c.body_size-bytes.result
    (l.loop-i.i + 1)
    l.loop-i.g0
    (g2_after (cells_of l) l.loop-i.i l.loop-i.g2)
stands c =
    let e = c.before.before in
    let size = c.body_size-bytes.ensures in
    rw size (body-grows _ _ (in_list (cell e)) (here e).loop-i.invariant.base (rw size at c.if-bytes-gt0.true))

abbrev waiting : tie.After-designation_size-total invariant-loop decreases-loop → tie.Else-not-is_writable invariant-loop decreases-loop
waiting d = d.before.before.before

none : (d : tie.After-designation_size-total invariant-loop decreases-loop) → let l = here (waiting d) in body_size (set_at (cells_of l) l.loop-i.i) l.loop-i.g0 l.loop-i.g2 ≤ 0
none d = rw d.body_size-bytes.ensures at d.if-bytes-gt0.false

module _ (d : tie.After-designation_size-total invariant-loop decreases-loop) where
  abbrev was : tie.At-loop-i invariant-loop decreases-loop
  was = here (waiting d)

  abbrev set : ℕ
  set = set_at (cells_of was) was.loop-i.i

  abbrev To : ℕ → ℕ → Type 0
  To g0 g2 = Grows (cells_of was) was.loop-i.i was.loop-i.g0 was.loop-i.g2 d.designation_size-total.result was.loop-i.i g0 g2

  to-g2 : shift_set set ≡ true → To was.loop-i.g0 set
  to-g2 s =
      grows (turn-g2 _ _ (in_list (cell (waiting d))) (not-g2 _ _ _ s (none d)) s was.loop-i.invariant.base) d.designation_size-total.ensures

  to-g0 : shift_set set ≡ false → To set was.loop-i.g2
  to-g0 s = grows (turn-g0 _ _ (in_list (cell (waiting d))) (not-g0 _ _ _ s (none d)) s) d.designation_size-total.ensures

  either-fits : (t : Bool) → shift_set set ≡ t → was.loop-i.total + d.designation_size-total.result < 2 ^ 35
  either-fits true s = counted-fits was.loop-i.invariant (to-g2 s)
  either-fits false s = counted-fits was.loop-i.invariant (to-g0 s)

shifts : (c : tie.Then-is_shift_set invariant-loop decreases-loop) → shift_set (set c.before.before) ≡ true
shifts c = sym c.is_shift_set.ensures ∙ c.if-is_shift_set.true

stays : (c : tie.Else-is_shift_set invariant-loop decreases-loop) → shift_set (set c.before.before) ≡ false
stays c = sym c.is_shift_set.ensures ∙ c.if-is_shift_set.false

loop-holds : tie.Need-loop-i-init invariant-loop decreases-loop
unfolding writing shift_set
loop-holds c =
    let s = c.before in
    record {
      judged = passed_start _ _;
      sum = omega arith;
      within = omega arith;
      base = refl;
      small = omega (arith, writing-most s.args.cells.now, s.requires, limit-small);
    }

stretch-end-requires : tie.Need-stretch_end-j-requires invariant-loop decreases-loop
stretch-end-requires c κs = c.loop-i.invariant.within

sub-total : tie.Need-overflow_sub-total invariant-loop decreases-loop
sub-total c = search rules

add_total : tie.Need-overflow_add-total invariant-loop decreases-loop
add_total c = omega (arith, counted-fits c.loop-i.invariant (stretched c))

loop-less : tie.Need-loop-i-smaller-then-i-j invariant-loop decreases-loop
loop-less c = (stretched c).less

loop-again : tie.Need-loop-i-preserved-then-i-j invariant-loop decreases-loop
loop-again c =
    let v = c.loop-i.invariant in
    counted-on v (stretched c) (judged-stretch v.judged c.stretch_end-j.ensures)

mul-v : tie.Need-offset_bounds-cells-i invariant-loop decreases-loop
mul-v c = search rules

shared-slice-read-v : tie.Need-bounds-cells-i invariant-loop decreases-loop
shared-slice-read-v c = search rules

ready-requires : tie.Need-ready-size-requires invariant-loop decreases-loop
ready-requires c κs = search rules

-- the run of ready cells behind it
ran :
    (c : tie.After-survey_ready-run invariant-loop decreases-loop) → let l = at-loop c.before.before.before in
    Grows
    (cells_of l)
    l.loop-i.i
    l.loop-i.g0
    l.loop-i.g2
    (c.ready-size.result + c.survey_ready-run.result.count)
    c.survey_ready-run.result.i
    l.loop-i.g0
    l.loop-i.g2
ran c = run-grows (stood c.before) c.survey_ready-run.ensures

add-survey-ready : tie.Need-overflow_add-i invariant-loop decreases-loop
add-survey-ready c =
    let k = c.before.before in
    omega (arith, in_list k, (at-loop k).well_formed)

survey-ready-requires : tie.Need-survey_ready-run-requires invariant-loop decreases-loop
survey-ready-requires c κs =
    let k = c.before.before in
    (omega (arith, in_list k), (at-loop k).requires)

add-total-2 : tie.Need-overflow_add-total-then-size-gt0 invariant-loop decreases-loop
add-total-2 c = omega (arith, counted-fits (at-loop c.before.before.before.before).loop-i.invariant (ran c.before))

add-total-3 : tie.Need-overflow_add-total-then-size-gt0-2 invariant-loop decreases-loop
add-total-3 c = omega (arith, counted-fits (at-loop c.before.before.before.before).loop-i.invariant (ran c.before))

loop-less-2 : tie.Need-loop-i-smaller-then-size-gt0 invariant-loop decreases-loop
loop-less-2 c = (ran c.before).less

loop-again-2 : tie.Need-loop-i-preserved-then-size-gt0 invariant-loop decreases-loop
loop-again-2 c =
    let t = c.before.before in
    let k = t.before.before in
    let v = (at-loop k).loop-i.invariant in
    let r = c.survey_ready-run.ensures in
    counted-on v (ran c.before)
    (judged-to (judged-on v.judged (in_list k) (ready-writable (t.ready-size.ensures t.if-size-gt0.true))) r.after r.within r.may)

is-writable-requires : tie.Need-is_writable-requires invariant-loop decreases-loop
is-writable-requires c κs = search rules

returns : tie.Need-returns-then-not-is_writable invariant-loop decreases-loop
unfolding first_foreign
returns c =
    let k = c.before.before.before.before in
    record {
      judged = passed_here (at-loop k).loop-i.invariant.judged 0 (in_list k) (ap not (sym c.is_writable.ensures ∙ c.if-not-is_writable.true));
      counted = λ h. absurd (omega (arith, in_list k, h));
    }

cast-n : tie.Need-overflow_cast-n invariant-loop decreases-loop
cast-n c = omega (arith, (cell c).shared_slice_known-else-i-j-1.given (here c).loop-i.i)

body-size-requires : tie.Need-body_size-bytes-requires invariant-loop decreases-loop
body-size-requires c κs = search rules

add-total-4 : tie.Need-overflow_add-total-then-bytes-gt0 invariant-loop decreases-loop
add-total-4 c = omega (arith, counted-fits (here c.before.before).loop-i.invariant (stands c))

g2-after-requires : tie.Need-g2_after-g2-requires invariant-loop decreases-loop
g2-after-requires c κs = in_list (cell c.before.before)

add-i : tie.Need-overflow_add-i-then-bytes-gt0 invariant-loop decreases-loop
add-i c =
    let k = cell c.before.before.before in
    omega (arith, in_list k, (at-loop k).before.before.well_formed)

loop-less-3 : tie.Need-loop-i-smaller-then-bytes-gt0 invariant-loop decreases-loop
loop-less-3 c = rw c.g2_after-g2.ensures (stands c.before).less

loop-again-3 : tie.Need-loop-i-preserved-then-bytes-gt0 invariant-loop decreases-loop
loop-again-3 c =
    let e = c.before.before.before in
    rw c.g2_after-g2.ensures (counted-on (here e).loop-i.invariant (stands c.before) (on e))

designation-size-requires : tie.Need-designation_size-total-requires invariant-loop decreases-loop
designation-size-requires c κs = known c.before.before

add-total-5 : tie.Need-overflow_add-total-else-bytes-gt0 invariant-loop decreases-loop
add-total-5 c = omega (arith, either-fits c (shift_set (set c)) refl)

cast-is-shift-set : tie.Need-overflow_cast-n-else-bytes-gt0 invariant-loop decreases-loop
cast-is-shift-set c =
    let e = waiting c in
    omega (arith, (cell e).shared_slice_known-else-i-j-1.given (here e).loop-i.i)

is-shift-set-requires : tie.Need-is_shift_set-requires invariant-loop decreases-loop
is-shift-set-requires c κs = search rules

loop-less-4 : tie.Need-loop-i-smaller-then-is_shift_set invariant-loop decreases-loop
loop-less-4 c = (to-g2 c.before.before (shifts c)).less

loop-again-4 : tie.Need-loop-i-preserved-then-is_shift_set invariant-loop decreases-loop
loop-again-4 c =
    let v = (here (waiting c.before.before)).loop-i.invariant in
    counted-on v (to-g2 c.before.before (shifts c)) v.judged

loop-less-5 : tie.Need-loop-i-smaller invariant-loop decreases-loop
loop-less-5 c = (to-g0 c.before.before (stays c)).less

loop-again-5 : tie.Need-loop-i-preserved invariant-loop decreases-loop
loop-again-5 c =
    let v = (here (waiting c.before.before)).loop-i.invariant in
    counted-on v (to-g0 c.before.before (stays c)) v.judged

-- all cells are judged, and the return to ASCII is left
return-size-requires : tie.Need-return_size-requires invariant-loop decreases-loop
return-size-requires c κs = search rules

returned :
    (c : tie.After-return_size invariant-loop decreases-loop) → let l = c.before.before in
    l.loop-i.total + c.return_size.result ≡ length (writing (cells_of l))
returned c =
    let l = c.before.before in
    rw (c.return_size.ensures, ← last-first (cells_of l) l.loop-i.i l.loop-i.g0 l.loop-i.g2 c.loop-i-test.false) l.loop-i.invariant.sum

add-t27 : tie.Need-overflow_add-result invariant-loop decreases-loop
add-t27 c = omega (arith, returned c, c.loop-i.invariant.small)

returns-2 : tie.Need-returns invariant-loop decreases-loop
unfolding first_foreign
returns-2 c =
    record { judged = passed-end c.loop-i.invariant.judged c.loop-i-test.false; counted = λ _. returned c }

pub survey_cells_spec : {M : Type 1} → statement M
survey_cells_spec =
    tie.close
    (tie.spec
    invariant-loop
    decreases-loop
    loop-holds
    stretch-end-requires
    sub-total
    add_total
    loop-less
    loop-again
    mul-v
    shared-slice-read-v
    ready-requires
    add-survey-ready
    survey-ready-requires
    add-total-2
    add-total-3
    loop-less-2
    loop-again-2
    is-writable-requires
    returns
    cast-n
    body-size-requires
    add-total-4
    g2-after-requires
    add-i
    loop-less-3
    loop-again-3
    designation-size-requires
    add-total-5
    cast-is-shift-set
    is-shift-set-requires
    loop-less-4
    loop-again-4
    loop-less-5
    loop-again-5
    return-size-requires
    add-t27
    returns-2)
