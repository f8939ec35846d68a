use Prim.Native.Nat.{ℕ, ◌+◌, ◌-◌, ◌<◌, ◌≤◌}
use mathlib.Core.Path.{◌≡◌, refl, sym, ap, ◌∙◌}
use mathlib.Core.Bool.{true, false}
use mathlib.Core.List.{List}
use native.Mathlib.Omega.{arith}
use lib.ListN.{length, get_or, drop, set, length-set}
use Rattle.answer.proofs.Below.{each_at, each_take, each-drop}
use Rattle.utf7.specs.Sets.{own}
use Rattle.utf7.specs.Writing.{IsUnit}
use Rattle.utf7.specs.declared.Style.{Style}
use Rattle.utf7.proofs.Sets.{sign-byte}
use Rattle.utf7_write.specs.Stretch.{other}
use Rattle.answer.specs.Ahead.{Ahead}
use Rattle.utf7_write.specs.Ahead.{Own, Marked}
use Rattle.utf7_write.specs.Begun.{Begun}
use Rattle.utf7_write.proofs.Stretches.{Stretched, stretched, not-own-other, one-alone}
use Rattle.utf7_write.proofs.Begun.{begun-start, begun-room, begun-same, begun-upto, begun-copy, begun-sign, run_room, begun-run, one-room, begun-one, begun-block}
use Rattle.utf7_write.proofs.Marks.{marked-bits, marked-own, marked_other, low-cells}
use borrow.Author.Rules.{rules}
use Rattle.utf7_write.proofs.write_blocks.Statement.{statement}
use Rattle.utf7_write.proofs.write_blocks.Tie as tie

abbrev invariant-loop : tie.invariant-loop-i
invariant-loop style cells out₀ marks₀ sign low high long i₀ to₀ base₀ count₀ out marks i to base count =
    Begun style cells out₀ out i to × (Marked style cells base marks count × (base ≤ i) × (count ≤ length marks) × (length marks ≡ length marks₀))

abbrev decreases-loop : tie.decreases-loop-i
decreases-loop style cells out₀ marks₀ sign low high long i₀ to₀ base₀ count₀ out marks i to base count = length cells - i

abbrev start : tie.At-loop-i invariant-loop decreases-loop → tie.Start invariant-loop decreases-loop
start l = l.before.before.before.before.before.before.before.before

-- the cells from i on are begun, and the bytes behind `at`
abbrev On : tie.At-loop-i invariant-loop decreases-loop → List ℕ → ℕ → ℕ → Type 0
On l out i at = Begun (start l).args.style (start l).args.cells.now (start l).args.out.now out i at

-- once a block is stored and its bytes are told apart
abbrev loop-of : tie.After-zeros_ahead-k invariant-loop decreases-loop → tie.At-loop-i invariant-loop decreases-loop
loop-of c = c.before.before.before.before.before.before.before.before.before.before.before

abbrev stored : tie.After-zeros_ahead-k invariant-loop decreases-loop → List ℕ
stored c = c.put_block.new.out

more : (c : tie.After-zeros_ahead-k invariant-loop decreases-loop) → (loop-of c).loop-i.i + 17 ≤ length (start (loop-of c)).args.cells.now
more c = omega (arith, c.loop-i-test.true)

-- the window, and the cells that are told by it
abbrev at-window : tie.After-zeros_ahead-k invariant-loop decreases-loop → tie.After-window_at-w invariant-loop decreases-loop
at-window c = c.before.before.before.before.before.before.before.before

abbrev marks-of : tie.After-zeros_ahead-k invariant-loop decreases-loop → List ℕ
marks-of c = (at-window c).window_at-w.new.marks

kept :
    (c : tie.After-zeros_ahead-k invariant-loop decreases-loop) (i : ℕ) → (loop-of c).loop-i.i ≤ i → let a = (start (loop-of c)).args in let w = (at-window c).window_at-w.result in
    Marked a.style a.cells.now w.base (marks-of c) w.count × (w.base ≤ i) × (w.count ≤ length (marks-of c)) × (length (marks-of c) ≡ length a.marks.now)
kept c i h =
    let w = (at-window c).window_at-w in
    let e = w.ensures in
    let l : length (marks-of c) ≡ length (loop-of c).loop-i.marks = w.auto.marks in
    (e.0, omega (arith, e.1), omega (arith, e.3, l), l ∙ (loop-of c).loop-i.invariant.1.3)

own-ahead :
    (c : tie.After-zeros_ahead-k invariant-loop decreases-loop) → let a = (start (loop-of c)).args in
    Ahead (Own a.style) a.cells.now (loop-of c).loop-i.i c.zeros_ahead-k.result
own-ahead c =
    let a = (start (loop-of c)).args in
    let w = (at-window c).window_at-w in
    let e = w.ensures in
    let z = c.zeros_ahead-k.ensures in
    marked-own a.style a.cells.now w.result.base (marks-of c) w.result.count (loop-of c).loop-i.i e.0 e.1 c.zeros_ahead-k.result
    (omega (arith, z.0, e.2)) z.1

stands :
    (c : tie.After-zeros_ahead-k invariant-loop decreases-loop) (k : ℕ) → k ≤ c.zeros_ahead-k.result → let l = loop-of c in On l (stored c) (l.loop-i.i + k) (l.loop-i.to + k)
stands c k h =
    let p = c.before.before.before.before in
    let g = p.low_bytes-bytes in
    let a = (start (loop-of c)).args in
    let z = c.zeros_ahead-k.ensures in
    let m = more c in
    let n : length g.result ≡ 16 = omega (arith, g.type_inv) in
    let o : Ahead (Own a.style) a.cells.now (loop-of c).loop-i.i k = λ m q. own-ahead c m (omega arith) in
    begun-block (loop-of c).loop-i.invariant.0 16 g.result (omega arith) n k (omega (arith, z.0)) o
    (low-cells a.style a.cells.now (loop-of c).loop-i.i g.result 16 (omega arith) n g.ensures k (omega (arith, z.0)) o) c.put_block.ensures

block :
    (c : tie.After-zeros_ahead-k invariant-loop decreases-loop) → let l = loop-of c in On l (stored c) (l.loop-i.i + c.zeros_ahead-k.result) (l.loop-i.to + c.zeros_ahead-k.result)
block c = stands c c.zeros_ahead-k.result (omega arith)

sixteen : (t : tie.Then-k-eq16 invariant-loop decreases-loop) → let l = loop-of t.before in On l (stored t.before) (l.loop-i.i + 16) (l.loop-i.to + 16)
sixteen t = stands t.before 16 (omega (arith, t.if-k-eq16.true))

-- more blocks
copied :
    (c : tie.After-copy_blocks-j invariant-loop decreases-loop) → let t = c.before.before.before in let l = loop-of t.before in
    On l c.copy_blocks-j.new.out c.copy_blocks-j.result (l.loop-i.to + 16 + (c.copy_blocks-j.result - (l.loop-i.i + 16)))
copied c =
    let w = c.before.before in
    let t = w.before in
    let l = loop-of t.before in
    let e = c.copy_blocks-j.ensures in
    let n = c.copy_blocks-j.result - (l.loop-i.i + 16) in
    let q : l.loop-i.i + 16 + n ≡ c.copy_blocks-j.result = omega (arith, e.0) in
    let body = l.is_long-long.ensures w.if-long.true in
    rw q at (begun-copy (sixteen t) n (omega (arith, e.0, e.1)) (λ m h. ap (λ (s : Style). own s (get_or (start l).args.cells.now (l.loop-i.i + 16 + m) 0)) body ∙ e.2 m h) e.3)

-- the cell behind those that stand: it is not written as itself
abbrev cell : tie.Else-k-eq16 invariant-loop decreases-loop → ℕ
cell e = (loop-of e.before).loop-i.i + e.zeros_ahead-k.result

few : (e : tie.Else-k-eq16 invariant-loop decreases-loop) → e.zeros_ahead-k.result < 16
few e = omega (arith, e.if-k-eq16.false, e.zeros_ahead-k.ensures.0)

inside : (e : tie.Else-k-eq16 invariant-loop decreases-loop) → cell e + 1 < length (start (loop-of e.before)).args.cells.now
inside e = omega (arith, few e, more e.before)

here : (e : tie.Else-k-eq16 invariant-loop decreases-loop) → cell e < length (start (loop-of e.before)).args.cells.now
here e = omega (arith, inside e)

not_own :
    (e : tie.Else-k-eq16 invariant-loop decreases-loop) → let a = (start (loop-of e.before)).args in own a.style (get_or a.cells.now (cell e) 0) ≡ false
not_own e =
    let c = e.before in
    let a = (start (loop-of c)).args in
    let w = (at-window c).window_at-w in
    marked_other a.style a.cells.now w.result.base (marks-of c) w.result.count (loop-of c).loop-i.i w.ensures.0 w.ensures.1
    c.zeros_ahead-k.result (omega (arith, few e, w.ensures.2)) (c.zeros_ahead-k.ensures.2 (few e))

abbrev behind : tie.Else-k-eq16 invariant-loop decreases-loop → ℕ
behind e = (loop-of e.before).loop-i.to + e.zeros_ahead-k.result

-- a sign
signed :
    (t : tie.Then-u-sign invariant-loop decreases-loop) → let e = t.before.before in let l = loop-of e.before in
    let s = l.sign_of-sign.result in
    (behind e + 1 < length (stored e.before)) × On l (set (set (stored e.before) (behind e) s) (behind e + 1) 45) (cell e + 1) (behind e + 2)
signed t =
    let e = t.before.before in
    begun-sign (block e.before) (here e) (loop-of e.before).sign_of-sign.ensures t.if-u-sign.true

-- a unit of a run
in-run :
    (t : tie.Else-u-sign invariant-loop decreases-loop) → let e = t.before.before in let a = (start (loop-of e.before)).args in
    other a.style (get_or a.cells.now (cell e) 0) ≡ true
in-run t =
    let e = t.before.before in
    let l = loop-of e.before in
    not-own-other (start l).args.style _ (not_own e) (λ q. t.if-u-sign.false (q ∙ sym l.sign_of-sign.ensures))

-- a run of one
one :
    (t : tie.Then-in_sets invariant-loop decreases-loop) → let e = t.before.before.before.before.before in let a = (start (loop-of e.before)).args in
    Stretched a.style a.cells.now (cell e) (cell e + 1)
one t =
    let f = t.before.before.before in
    let e = f.before.before in
    let b = (loop-of e.before).before.before in
    let a = (start (loop-of e.before)).args in
    one-alone a.style a.cells.now (cell e) (inside e) (in-run f)
    (sym (t.in_sets.ensures a.style b.low_set-low.ensures b.high_set-high.ensures) ∙ t.if-in_sets.true)

-- a longer one
found :
    (c : tie.After-stretch_end-j invariant-loop decreases-loop) → let e = c.before.before.before.before.before.before in
    let a = (start (loop-of e.before)).args in
    Stretched a.style a.cells.now (cell e) c.stretch_end-j.result
found c =
    let f = c.before.before.before.before in
    stretched _ _ _ (here f.before.before) _ (in-run f) c.stretch_end-j.ensures

sign-of-requires : tie.Need-sign_of-sign-requires invariant-loop decreases-loop
sign-of-requires c κs = search rules

low-set-requires : tie.Need-low_set-low-requires invariant-loop decreases-loop
low-set-requires c κs = search rules

high-set-requires : tie.Need-high_set-high-requires invariant-loop decreases-loop
high-set-requires c κs = search rules

is-long-requires : tie.Need-is_long-long-requires invariant-loop decreases-loop
is-long-requires c κs = search rules

loop-holds : tie.Need-loop-i-init invariant-loop decreases-loop
loop-holds c = (begun-start _ _ _ c.requires.1, (λ m h. absurd (omega arith), omega arith, omega arith, refl))

sub-loop : tie.Need-overflow_sub-cells invariant-loop decreases-loop
sub-loop c = search rules

window-at-requires : tie.Need-window_at-w-requires invariant-loop decreases-loop
window-at-requires c κs =
    let l = c.before.before in
    let v = l.loop-i.invariant.1 in
    (omega (arith, c.loop-i-test.true), omega (arith, v.3, (start l).requires.2), v.0, v.1, v.2)

low-bytes-requires : tie.Need-low_bytes-bytes-requires invariant-loop decreases-loop
low-bytes-requires c κs = search rules

put-block-requires : tie.Need-put_block-requires invariant-loop decreases-loop
put-block-requires c κs =
    let t = c.before.before.before.before.before.before in
    omega (arith, begun-room t.loop-i.invariant.0, t.loop-i-test.true)

sub-zeros-ahead : tie.Need-overflow_sub-i invariant-loop decreases-loop
sub-zeros-ahead c = let h = c.window_at-w.ensures.1 in omega arith

zeros-ahead-requires : tie.Need-zeros_ahead-k-requires invariant-loop decreases-loop
zeros-ahead-requires c κs =
    let w = c.window_at-w in
    let l = c.before.before.before.before.before.before.before.before.before.before in
    let a = (start l).args in
    let e = w.ensures in
    let ms = w.new.marks in
    let h : l.loop-i.i - w.result.base + 16 ≤ length ms = omega (arith, e.1, e.2, e.3, w.auto.marks) in
    (h, marked-bits a.style a.cells.now w.result.base ms w.result.count l.loop-i.i e.0 e.1 e.2)

add-to : tie.Need-overflow_add-to invariant-loop decreases-loop
add-to c = search rules

add-i : tie.Need-overflow_add-i invariant-loop decreases-loop
add-i c = search rules

copy-blocks-requires : tie.Need-copy_blocks-j-requires invariant-loop decreases-loop
copy-blocks-requires c κs = ((sixteen c.before.before).inside, begun-room (sixteen c.before.before))

sub-to : tie.Need-overflow_sub-to invariant-loop decreases-loop
sub-to c = search rules

add-to-2 : tie.Need-overflow_add-to-then-long invariant-loop decreases-loop
add-to-2 c =
    let d = c.before.before in
    omega (arith, begun-upto (copied d), (start (loop-of d.before.before.before.before)).well_formed)

loop-less : tie.Need-loop-i-smaller-then-long invariant-loop decreases-loop
loop-less c = search rules

loop-again : tie.Need-loop-i-preserved-then-long invariant-loop decreases-loop
loop-again c = let d = c.before.before in (copied d, kept d.before.before.before.before _ (omega (arith, d.copy_blocks-j.ensures.0)))

loop-less-2 : tie.Need-loop-i-smaller-else-long invariant-loop decreases-loop
loop-less-2 c = search rules

loop-again-2 : tie.Need-loop-i-preserved-else-long invariant-loop decreases-loop
loop-again-2 c = (sixteen c.before, kept c.before.before _ (omega arith))

add-to-3 : tie.Need-overflow_add-to-else-k-eq16 invariant-loop decreases-loop
add-to-3 c = search rules

add-i-2 : tie.Need-overflow_add-i-else-k-eq16 invariant-loop decreases-loop
add-i-2 c = search rules

mul-u : tie.Need-offset_bounds-cells-i invariant-loop decreases-loop
mul-u c = search rules

shared-slice-read-u : tie.Need-bounds-cells-i invariant-loop decreases-loop
shared-slice-read-u c = search rules

cast-out : tie.Need-overflow_cast-out invariant-loop decreases-loop
cast-out c = let l = loop-of c.before.before.before in omega (arith, l.sign_of-sign.ensures, sign-byte (start l).args.style)

slice-write-out : tie.Need-bounds-out-to invariant-loop decreases-loop
slice-write-out c = let h = (signed c).0 in omega arith

add-out : tie.Need-overflow_add-out invariant-loop decreases-loop
add-out c = search rules

slice-write-out-2 : tie.Need-bounds-out-to-then-u-sign invariant-loop decreases-loop
slice-write-out-2 c = simp length-set (signed c).0

add-to-4 : tie.Need-overflow_add-to-then-u-sign invariant-loop decreases-loop
add-to-4 c = search rules

add-i-3 : tie.Need-overflow_add-i-then-u-sign invariant-loop decreases-loop
add-i-3 c = search rules

loop-less-3 : tie.Need-loop-i-smaller-then-u-sign invariant-loop decreases-loop
loop-less-3 c = search rules

loop-again-3 : tie.Need-loop-i-preserved-then-u-sign invariant-loop decreases-loop
loop-again-3 c = ((signed c).1, kept c.before.before.before _ (omega arith))

add-in-sets : tie.Need-overflow_add-i-else-u-sign invariant-loop decreases-loop
add-in-sets c = search rules

mul-in-sets : tie.Need-offset_bounds-cells-i-else-u-sign invariant-loop decreases-loop
mul-in-sets c = search rules

shared-slice-read-in-sets : tie.Need-bounds-cells-i-else-u-sign invariant-loop decreases-loop
shared-slice-read-in-sets c = search rules

in-sets-requires : tie.Need-in_sets-requires invariant-loop decreases-loop
in-sets-requires c κs = search rules

sub-write-one : tie.Need-slice_bounds-write_one-count invariant-loop decreases-loop
sub-write-one c = let h = begun-room (block c.before.before.before.before.before.before) in search rules

part-write-one-start : tie.Need-slice_bounds-write_one-start invariant-loop decreases-loop
part-write-one-start c = let h = begun-room (block c.before.before.before.before.before.before) in search rules

part-write-one-end : tie.Need-slice_bounds-write_one-end invariant-loop decreases-loop
part-write-one-end c = search rules

write-one-requires : tie.Need-write_one-requires invariant-loop decreases-loop
write-one-requires c κs =
    let t = c.before in
    let e = t.before.before.before.before.before in
    let s = start (loop-of e.before) in
    (each_at IsUnit s.args.cells.now (cell e) s.requires.0 (here e), one-room (block e.before) (one t))

add-to-5 : tie.Need-overflow_add-to-then-in_sets invariant-loop decreases-loop
add-to-5 c =
    let w = c.before.before in
    let t = w.before.before in
    let z = t.before.before.before.before.before.before in
    omega (arith, begun-upto (begun-one (block z) (one t) w.write_one.ensures), (start (loop-of z)).well_formed)

add-i-4 : tie.Need-overflow_add-i-then-in_sets invariant-loop decreases-loop
add-i-4 c =
    let e = c.before.before.before.before.before.before.before.before.before in
    omega (arith, inside e, (start (loop-of e.before)).well_formed)

loop-less-4 : tie.Need-loop-i-smaller-then-in_sets invariant-loop decreases-loop
loop-less-4 c = search rules

loop-again-4 : tie.Need-loop-i-preserved-then-in_sets invariant-loop decreases-loop
loop-again-4 c =
    let w = c.before.before in
    let t = w.before.before in
    let z = t.before.before.before.before.before.before in
    (begun-one (block z) (one t) w.write_one.ensures, kept z _ (omega arith))

stretch-end-requires : tie.Need-stretch_end-j-requires invariant-loop decreases-loop
stretch-end-requires c κs = search rules

mul-write-run : tie.Need-offset_bounds-cells-i-else-in_sets invariant-loop decreases-loop
mul-write-run c =
    let f = found c in
    let l = loop-of c.before.before.before.before.before.before.before in
    let h = l.shared_slice_known-1.given in
    search rules

sub-write-run : tie.Need-slice_bounds-write_run-count invariant-loop decreases-loop
sub-write-run c = let s = found c in omega arith

part-write-run-start : tie.Need-slice_bounds-write_run-start invariant-loop decreases-loop
part-write-run-start c = let s = found c in omega arith

part-write-run-end : tie.Need-slice_bounds-write_run-end invariant-loop decreases-loop
part-write-run-end c = let s = found c in omega arith

sub-write-run-2 : tie.Need-slice_bounds-write_run-count-else-in_sets invariant-loop decreases-loop
sub-write-run-2 c = let h = begun-room (block c.before.before.before.before.before.before.before.before) in search rules

part-write-run-start-2 : tie.Need-slice_bounds-write_run-start-else-in_sets invariant-loop decreases-loop
part-write-run-start-2 c = let h = begun-room (block c.before.before.before.before.before.before.before.before) in search rules

part-write-run-end-2 : tie.Need-slice_bounds-write_run-end-else-in_sets invariant-loop decreases-loop
part-write-run-end-2 c = search rules

write-run-requires : tie.Need-write_run-n-requires invariant-loop decreases-loop
write-run-requires c κs =
    let f = c.before.before in
    let e = f.before.before.before.before.before.before in
    let s = start (loop-of e.before) in (
      each_take IsUnit (drop (cell e) s.args.cells.now) (f.stretch_end-j.result - cell e) (each-drop IsUnit s.args.cells.now (cell e) s.requires.0),
      run_room (block e.before) f.stretch_end-j.result (found f),
    )

add-to-6 : tie.Need-overflow_add-to-else-in_sets invariant-loop decreases-loop
add-to-6 c =
    let w = c.before.before in
    let f = w.before.before.before in
    let b = f.before.before.before.before.before.before.before in
    omega (arith, begun-upto (begun-run (block b) f.stretch_end-j.result (found f) w.write_run-n.ensures.0 w.write_run-n.ensures.1), (start (loop-of b)).well_formed)

loop-less-5 : tie.Need-loop-i-smaller invariant-loop decreases-loop
loop-less-5 c = let s = found c.before.before.before.before.before in omega arith

loop-again-5 : tie.Need-loop-i-preserved invariant-loop decreases-loop
loop-again-5 c =
    let w = c.before.before in
    let f = w.before.before.before in
    let z = f.before.before.before.before.before.before.before in
    let s = found f in
    (begun-run (block z) f.stretch_end-j.result s w.write_run-n.ensures.0 w.write_run-n.ensures.1, kept z _ (omega arith))

same_length : tie.Need-shape_of-out invariant-loop decreases-loop
same_length c = begun-same c.loop-i.invariant.0

same-length-2 : tie.Need-shape_of-marks invariant-loop decreases-loop
same-length-2 c = c.loop-i.invariant.1.3

returns : tie.Need-returns invariant-loop decreases-loop
returns c = c.loop-i.invariant.0

pub write_blocks_spec : {M : Type 1} → statement M
write_blocks_spec =
    tie.close
    (tie.spec
    invariant-loop
    decreases-loop
    sign-of-requires
    low-set-requires
    high-set-requires
    is-long-requires
    loop-holds
    sub-loop
    window-at-requires
    low-bytes-requires
    put-block-requires
    sub-zeros-ahead
    zeros-ahead-requires
    add-to
    add-i
    copy-blocks-requires
    sub-to
    add-to-2
    loop-less
    loop-again
    loop-less-2
    loop-again-2
    add-to-3
    add-i-2
    mul-u
    shared-slice-read-u
    cast-out
    slice-write-out
    add-out
    slice-write-out-2
    add-to-4
    add-i-3
    loop-less-3
    loop-again-3
    add-in-sets
    mul-in-sets
    shared-slice-read-in-sets
    in-sets-requires
    sub-write-one
    part-write-one-start
    part-write-one-end
    write-one-requires
    add-to-5
    add-i-4
    loop-less-4
    loop-again-4
    stretch-end-requires
    mul-write-run
    sub-write-run
    part-write-run-start
    part-write-run-end
    sub-write-run-2
    part-write-run-start-2
    part-write-run-end-2
    write-run-requires
    add-to-6
    loop-less-5
    loop-again-5
    same_length
    same-length-2
    returns)
