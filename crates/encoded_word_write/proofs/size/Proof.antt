use Prim.Native.Nat.{ℕ, ◌+◌, ◌-◌, ◌<◌, ◌≤◌}
use mathlib.Core.Bool.{cond}
use mathlib.Core.List.{List}
use native.Mathlib.Nat.{zero-add}
use lib.Dec.{ltb}
use Rattle.answer.specs.Answer.{limit}
use Rattle.encoded_word.specs.Inner.{q_size}
use Rattle.encoded_word.proofs.Greedy.{line-few}
use Rattle.encoded_word.proofs.Shares.{rest-whole, line-none, step-asked}
use Rattle.encoded_word_write.proofs.Lines.{word_on, word_bytes}
use mathlib.Core.Path.{◌≡◌, ap, ◌∙◌}
use native.Mathlib.Omega.{arith}
use lib.ListN.{length, take, drop, drop_of_length-le}
use Rattle.encoded_word.specs.Writing.{share_of, line_of}
use borrow.Author.Rules.{rules}
use Rattle.encoded_word_write.proofs.size.Statement.{statement}
use Rattle.encoded_word_write.proofs.size.Tie as tie

abbrev invariant-loop : tie.invariant-loop-i
invariant-loop units i₀ total₀ i total = (i ≤ length units) × (total + length (line_of (drop i units)) ≡ length (line_of units))

abbrev decreases-loop : tie.decreases-loop-i
decreases-loop units i₀ total₀ i total = length units - i

-- what a share's call found
abbrev at-start : tie.After-share-s invariant-loop decreases-loop → tie.Start invariant-loop decreases-loop
at-start c = c.before.before.before.before.before

abbrev at-loop : tie.After-share-s invariant-loop decreases-loop → tie.At-loop-i invariant-loop decreases-loop
at-loop c = c.before.before.before

abbrev units : tie.After-share-s invariant-loop decreases-loop → List ℕ
units c = (at-start c).args.units.now

abbrev rest : tie.After-share-s invariant-loop decreases-loop → List ℕ
rest c = drop (at-loop c).loop-i.i (units c)

here : (c : tie.After-share-s invariant-loop decreases-loop) → (at-loop c).loop-i.i < length (units c)
here c = c.loop-i-test.true

found :
    (c : tie.After-share-s invariant-loop decreases-loop) →
    (c.share-s.result.count ≡ share_of (rest c)) × (c.share-s.result.size ≡ q_size (take (share_of (rest c)) (rest c)))
found c = rw (rest-whole (units c) (at-loop c).loop-i.i) at c.share-s.ensures

on :
    (c : tie.After-share-s invariant-loop decreases-loop) →
    (0 < c.share-s.result.count) × ((at-loop c).loop-i.i + c.share-s.result.count ≤ length (units c))
on c = word_on (units c) (at-loop c).loop-i.i c.share-s.result.count (at-start c).requires.0 (here c) (found c).0

bytes :
    (c : tie.After-share-s invariant-loop decreases-loop) → let i = (at-loop c).loop-i.i in
    (at-loop c).loop-i.total
    + (12 + c.share-s.result.size + cond (ltb (i + c.share-s.result.count) (length (units c))) 3 0)
    + length (line_of (drop (i + c.share-s.result.count) (units c)))
    ≡ length (line_of (units c))
bytes c =
    let l = (at-loop c).loop-i in
    word_bytes (units c) l.i c.share-s.result.count (at-start c).requires.0 (here c) (found c).0 l.total
    c.share-s.result.size (found c).1 l.invariant.1

few_bytes : (c : tie.After-share-s invariant-loop decreases-loop) → length (line_of (at-start c).args.units.now) ≤ 100000000
unfolding limit
few_bytes c = let s = at-start c in omega (arith, line-few s.args.units.now s.requires.0, s.requires.1)

loop-holds : tie.Need-loop-i-init invariant-loop decreases-loop
loop-holds c = (omega arith, zero-add _)

mul-share : tie.Need-offset_bounds-units-i invariant-loop decreases-loop
mul-share c = search rules

sub-share : tie.Need-slice_bounds-share-count invariant-loop decreases-loop
sub-share c = search rules

part-share-start : tie.Need-slice_bounds-share-start invariant-loop decreases-loop
part-share-start c = search rules

part-share-end : tie.Need-slice_bounds-share-end invariant-loop decreases-loop
part-share-end c = search rules

share-requires : tie.Need-share-s-requires invariant-loop decreases-loop
share-requires c κs =
    let s = c.before.before.before.before in
    let i = c.loop-i.i in
    rw (rest-whole s.args.units.now i)
    (step-asked s.args.units.now i s.requires.0 c.loop-i-test.true s.requires.1)

add-i : tie.Need-overflow_add-i invariant-loop decreases-loop
unfolding limit
add-i c = let w = c.before in omega (arith, (on w).1, (at-start w).requires.1)

add_total : tie.Need-overflow_add-total invariant-loop decreases-loop
add_total c = let w = c.before.before in omega (arith, bytes w, few_bytes w)

gap-requires : tie.Need-gap-requires invariant-loop decreases-loop
gap-requires c κs = search rules

add-total-2 : tie.Need-overflow_add-total-in-loop-i invariant-loop decreases-loop
add-total-2 c = let w = c.before.before.before in omega (arith, bytes w, few_bytes w, c.gap.ensures)

add-total-3 : tie.Need-overflow_add-total-in-loop-i-2 invariant-loop decreases-loop
add-total-3 c = let w = c.before.before.before in omega (arith, bytes w, few_bytes w, c.gap.ensures)

loop-less : tie.Need-loop-i-smaller invariant-loop decreases-loop
loop-less c = let w = c.before.before.before in omega (arith, (on w).0, (on w).1, here w)

loop-again : tie.Need-loop-i-preserved invariant-loop decreases-loop
loop-again c = let w = c.before.before.before in ((on w).1, rw c.gap.ensures (bytes w))

returns : tie.Need-returns invariant-loop decreases-loop
returns c =
    let l = c.loop-i in
    let e =
    ap length (ap line_of (drop_of_length-le c.args.units.now c.loop-i-test.false)
    ∙ line-none) in
    omega (arith, e, l.invariant.1)

pub size_spec : {M : Type 1} → statement M
size_spec =
    tie.close
    (tie.spec
    invariant-loop
    decreases-loop
    loop-holds
    mul-share
    sub-share
    part-share-start
    part-share-end
    share-requires
    add-i
    add_total
    gap-requires
    add-total-2
    add-total-3
    loop-less
    loop-again
    returns)
