use Prim.Native.Nat.{ℕ, ◌+◌, ◌-◌, ◌<◌}
use mathlib.Core.Path.{sym, ◌∙◌}
use mathlib.Core.List.{List}
use native.Mathlib.Omega.{arith}
use lib.ListN.{length, drop, set, length-set}
use Rattle.answer.proofs.Below.{each_take, each-drop}
use Rattle.utf7.proofs.Sets.{sign-byte}
use Rattle.utf7.specs.Writing.{IsUnit}
use Rattle.utf7_write.specs.Begun.{Begun}
use Rattle.utf7_write.proofs.Stretches.{Stretched, Itself, stretched, itself}
use Rattle.utf7_write.proofs.Begun.{begun-room, begun-same, begun-upto, begun-done, begun-sign, begun-own, run_room, begun-run}
use borrow.Author.Rules.{rules}
use Rattle.utf7_write.proofs.write_all.Statement.{statement}
use Rattle.utf7_write.proofs.write_all.Tie as tie

abbrev invariant-loop : tie.invariant-loop-i
invariant-loop style cells out₀ sign i₀ at₀ out i at = (first : List ℕ) → Begun style cells first out₀ i₀ at₀ → Begun style cells first out i at

abbrev decreases-loop : tie.decreases-loop-i
decreases-loop style cells out₀ sign i₀ at₀ out i at = length cells - i

abbrev sign_at : tie.At-loop-i invariant-loop decreases-loop → tie.After-sign_of-sign invariant-loop decreases-loop
sign_at l = l.before.before.before.before.before.before.before

abbrev start : tie.At-loop-i invariant-loop decreases-loop → tie.Start invariant-loop decreases-loop
start l = (sign_at l).before.before.before

abbrev On : tie.At-loop-i invariant-loop decreases-loop → List ℕ → List ℕ → ℕ → ℕ → Type 0
On l first out i at = Begun (start l).args.style (start l).args.cells.now first out i at

-- what the quick loop left, and what is written since
quick : (l : tie.At-loop-i invariant-loop decreases-loop) → let w = l.before.before.before.before in On l (start l).args.out.now w.write_blocks-r.new.out w.write_blocks-r.result.i w.write_blocks-r.result.at
quick l = l.write_blocks-r.ensures

begun : (l : tie.At-loop-i invariant-loop decreases-loop) → On l (start l).args.out.now l.loop-i.out l.loop-i.i l.loop-i.at
begun l = l.loop-i.invariant _ (quick l)

-- where the loop stands once a unit is told apart
abbrev loop-at : tie.After-is_other invariant-loop decreases-loop → tie.At-loop-i invariant-loop decreases-loop
loop-at c = c.before.before.before

here : (t : tie.After-is_other invariant-loop decreases-loop) → (loop-at t).loop-i.i < length (start (loop-at t)).args.cells.now
here t = t.loop-i-test.true

-- a stretch
found :
    (c : tie.After-stretch_end-j invariant-loop decreases-loop) → let l = loop-at c.before.before in
    Stretched (start l).args.style (start l).args.cells.now l.loop-i.i c.stretch_end-j.result
found c =
    let t = c.before.before in
    stretched _ _ _ (here t) _ (sym t.is_other.ensures ∙ c.if-is_other.true) c.stretch_end-j.ensures

-- a sign
signed :
    (c : tie.Then-u-sign invariant-loop decreases-loop) → let l = loop-at c.before.before in
    (first : List ℕ) → On l first l.loop-i.out l.loop-i.i l.loop-i.at →
    (l.loop-i.at + 1 < length l.loop-i.out) × On l first (set (set l.loop-i.out l.loop-i.at (sign_at l).sign_of-sign.result) (l.loop-i.at + 1) 45) (l.loop-i.i + 1) (l.loop-i.at + 2)
signed c first b = let t = c.before.before in begun-sign b (here t) (sign_at (loop-at t)).sign_of-sign.ensures c.if-u-sign.true

-- a unit that is written as itself
own : (c : tie.Else-u-sign invariant-loop decreases-loop) → let l = loop-at c.before.before in Itself (start l).args.style (start l).args.cells.now l.loop-i.i
own c =
    let t = c.before.before in
    itself _ _ _ (here t) (sign_at (loop-at t)).sign_of-sign.ensures (sym t.is_other.ensures ∙ c.if-is_other.false) c.if-u-sign.false

sign-of-requires : tie.Need-sign_of-sign-requires invariant-loop decreases-loop
sign-of-requires c κs = search rules

slice-aggregate-write-blocks : tie.Need-slice_bounds-write_blocks-end invariant-loop decreases-loop
slice-aggregate-write-blocks c = search rules

write-blocks-requires : tie.Need-write_blocks-r-requires invariant-loop decreases-loop
write-blocks-requires c κs = let p = c.requires in (p.0, p.1, omega arith)

loop-holds : tie.Need-loop-i-init invariant-loop decreases-loop
loop-holds c = λ first b. b

mul-u : tie.Need-offset_bounds-cells-i invariant-loop decreases-loop
mul-u c = search rules

shared-slice-read-u : tie.Need-bounds-cells-i invariant-loop decreases-loop
shared-slice-read-u c = search rules

is-other-requires : tie.Need-is_other-requires invariant-loop decreases-loop
is-other-requires c κs = search rules

stretch-end-requires : tie.Need-stretch_end-j-requires invariant-loop decreases-loop
stretch-end-requires c κs = search rules

mul-write-run : tie.Need-offset_bounds-cells-i-then-is_other invariant-loop decreases-loop
mul-write-run c = search rules

sub-write-run : tie.Need-slice_bounds-write_run-count invariant-loop decreases-loop
sub-write-run c = let s = found c in omega arith

part-write-run-start : tie.Need-slice_bounds-write_run-start invariant-loop decreases-loop
part-write-run-start c = let s = found c in omega arith

part-write-run-end : tie.Need-slice_bounds-write_run-end invariant-loop decreases-loop
part-write-run-end c = let s = found c in omega arith

sub-write-run-2 : tie.Need-slice_bounds-write_run-count-then-is_other invariant-loop decreases-loop
sub-write-run-2 c = let h = begun-room (begun (loop-at c.before.before.before)) in search rules

part-write-run-start-2 : tie.Need-slice_bounds-write_run-start-then-is_other invariant-loop decreases-loop
part-write-run-start-2 c = let h = begun-room (begun (loop-at c.before.before.before)) in search rules

part-write-run-end-2 : tie.Need-slice_bounds-write_run-end-then-is_other invariant-loop decreases-loop
part-write-run-end-2 c = search rules

write-run-requires : tie.Need-write_run-n-requires invariant-loop decreases-loop
write-run-requires c κs =
    let f = c.before.before in
    let l = loop-at f.before.before in
    let s = start l in (
      each_take IsUnit (drop l.loop-i.i s.args.cells.now) (f.stretch_end-j.result - l.loop-i.i) (each-drop IsUnit s.args.cells.now l.loop-i.i s.requires.0),
      run_room (begun l) f.stretch_end-j.result (found f),
    )

add_at : tie.Need-overflow_add-at invariant-loop decreases-loop
add_at c =
    let w = c.before.before in
    let f = w.before.before.before in
    let l = loop-at f.before.before in
    omega (arith, begun-upto (begun-run (begun l) f.stretch_end-j.result (found f) w.write_run-n.ensures.0 w.write_run-n.ensures.1), (start l).well_formed)

loop-less : tie.Need-loop-i-smaller-then-is_other invariant-loop decreases-loop
loop-less c = let s = found c.before.before.before.before.before in omega arith

loop-again : tie.Need-loop-i-preserved-then-is_other invariant-loop decreases-loop
loop-again c =
    let w = c.before.before in
    let f = w.before.before.before in
    λ first b. begun-run ((loop-at f.before.before).loop-i.invariant first b) f.stretch_end-j.result (found f) w.write_run-n.ensures.0 w.write_run-n.ensures.1

cast-out : tie.Need-overflow_cast-out invariant-loop decreases-loop
cast-out c = let l = loop-at c.before.before in omega (arith, (sign_at l).sign_of-sign.ensures, sign-byte (start l).args.style)

slice-write-out : tie.Need-bounds-out-at invariant-loop decreases-loop
slice-write-out c = let h = (signed c _ (begun (loop-at c.before.before))).0 in omega arith

add-out : tie.Need-overflow_add-out invariant-loop decreases-loop
add-out c = let l = loop-at c.before.before in omega (arith, begun-upto (signed c _ (begun l)).1, (start l).well_formed)

slice-write-out-2 : tie.Need-bounds-out-at-then-u-sign invariant-loop decreases-loop
slice-write-out-2 c = simp length-set (signed c _ (begun (loop-at c.before.before))).0

add-at-2 : tie.Need-overflow_add-at-then-u-sign invariant-loop decreases-loop
add-at-2 c = let l = loop-at c.before.before in omega (arith, begun-upto (signed c _ (begun l)).1, (start l).well_formed)

add-i : tie.Need-overflow_add-i invariant-loop decreases-loop
add-i c = search rules

loop-less-2 : tie.Need-loop-i-smaller-then-u-sign invariant-loop decreases-loop
loop-less-2 c = search rules

loop-again-2 : tie.Need-loop-i-preserved-then-u-sign invariant-loop decreases-loop
loop-again-2 c = λ first b. (signed c first ((loop-at c.before.before).loop-i.invariant first b)).1

cast-out-2 : tie.Need-overflow_cast-out-else-u-sign invariant-loop decreases-loop
cast-out-2 c = let o = own c in omega arith

slice-write-out-3 : tie.Need-bounds-out-at-else-u-sign invariant-loop decreases-loop
slice-write-out-3 c = let t = c.before.before in (begun-own (begun (loop-at t)) (here t) (own c)).0

add-at-3 : tie.Need-overflow_add-at-else-u-sign invariant-loop decreases-loop
add-at-3 c = let l = loop-at c.before.before in omega (arith, begun-upto (begun-own (begun l) (here c.before.before) (own c)).1, (start l).well_formed)

add-i-2 : tie.Need-overflow_add-i-else-u-sign invariant-loop decreases-loop
add-i-2 c = search rules

loop-less-3 : tie.Need-loop-i-smaller invariant-loop decreases-loop
loop-less-3 c = search rules

loop-again-3 : tie.Need-loop-i-preserved invariant-loop decreases-loop
loop-again-3 c = let t = c.before.before in λ first b. (begun-own ((loop-at t).loop-i.invariant first b) (here t) (own c)).1

same_length : tie.Need-shape_of-out invariant-loop decreases-loop
same_length c = begun-same (begun c.before)

returns : tie.Need-returns invariant-loop decreases-loop
returns c = begun-done (begun c.before) c.loop-i-test.false

pub write_all_spec : {M : Type 1} → statement M
write_all_spec =
    tie.close
    (tie.spec
    invariant-loop
    decreases-loop
    sign-of-requires
    slice-aggregate-write-blocks
    write-blocks-requires
    loop-holds
    mul-u
    shared-slice-read-u
    is-other-requires
    stretch-end-requires
    mul-write-run
    sub-write-run
    part-write-run-start
    part-write-run-end
    sub-write-run-2
    part-write-run-start-2
    part-write-run-end-2
    write-run-requires
    add_at
    loop-less
    loop-again
    cast-out
    slice-write-out
    add-out
    slice-write-out-2
    add-at-2
    add-i
    loop-less-2
    loop-again-2
    cast-out-2
    slice-write-out-3
    add-at-3
    add-i-2
    loop-less-3
    loop-again-3
    same_length
    returns)
