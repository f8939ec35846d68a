use Prim.Native.Nat.{ℕ, ◌+◌, ◌-◌, ◌<◌, ◌≤◌}
use mathlib.Core.List.{List}
use Rattle.answer.specs.Answer.{limit}
use Rattle.encoded_word.specs.Inner.{q_size}
use Rattle.encoded_word.proofs.Shares.{rest-whole, line-none, step-asked}
use Rattle.encoded_word_write.proofs.Lines.{word-asked, word_line, word_on, word_room}
use mathlib.Core.Path.{◌≡◌, ap, ◌∙◌}
use native.Mathlib.Omega.{arith}
use lib.ListN.{length, take, drop, drop_of_length-le}
use Rattle.answer.proofs.Put.{Put, put-start, put_as, put-end, put-done}
use Rattle.encoded_word.specs.Writing.{share_of, line_of}
use borrow.Author.Rules.{rules}
use Rattle.encoded_word_write.proofs.put_line.Statement.{statement}
use Rattle.encoded_word_write.proofs.put_line.Tie as tie

abbrev invariant-loop : tie.invariant-loop-i
invariant-loop units out₀ i₀ at₀ out i at = (i ≤ length units) × Put (line_of units) out₀ out at (line_of (drop i units))

abbrev decreases-loop : tie.decreases-loop-i
decreases-loop units out₀ i₀ at₀ out i at = length units - i

-- what a share's call found
abbrev at-start : tie.After-share-s invariant-loop decreases-loop → tie.Start invariant-loop decreases-loop
at-start c = c.before.before.before.before.before.before

abbrev at-loop : tie.After-share-s invariant-loop decreases-loop → tie.At-loop-i invariant-loop decreases-loop
at-loop c = c.before.before.before

abbrev units : tie.After-share-s invariant-loop decreases-loop → List ℕ
units c = (at-start c).args.units.now

abbrev rest : tie.After-share-s invariant-loop decreases-loop → List ℕ
rest c = drop (at-loop c).loop-i.i (units c)

here : (c : tie.After-share-s invariant-loop decreases-loop) → (at-loop c).loop-i.i < length (units c)
here c = c.loop-i-test.true

found :
    (c : tie.After-share-s invariant-loop decreases-loop) →
    (c.share-s.result.count ≡ share_of (rest c)) × (c.share-s.result.size ≡ q_size (take (share_of (rest c)) (rest c)))
found c = rw (rest-whole (units c) (at-loop c).loop-i.i) at c.share-s.ensures

on :
    (c : tie.After-share-s invariant-loop decreases-loop) →
    (0 < c.share-s.result.count) × ((at-loop c).loop-i.i + c.share-s.result.count ≤ length (units c))
on c = word_on (units c) (at-loop c).loop-i.i c.share-s.result.count (at-start c).requires.0 (here c) (found c).0

loop-holds : tie.Need-loop-i-init invariant-loop decreases-loop
loop-holds c = (omega arith, put-start _ _ c.requires.2)

mul-share : tie.Need-offset_bounds-units-i invariant-loop decreases-loop
mul-share c = search rules

sub-share : tie.Need-slice_bounds-share-count invariant-loop decreases-loop
sub-share c = search rules

part-share-start : tie.Need-slice_bounds-share-start invariant-loop decreases-loop
part-share-start c = search rules

part-share-end : tie.Need-slice_bounds-share-end invariant-loop decreases-loop
part-share-end c = search rules

share-requires : tie.Need-share-s-requires invariant-loop decreases-loop
share-requires c κs =
    let s = c.before.before.before.before.before in
    let i = c.loop-i.i in
    rw (rest-whole s.args.units.now i)
    (step-asked s.args.units.now i s.requires.0 c.loop-i-test.true s.requires.1)

add-j : tie.Need-overflow_add-j invariant-loop decreases-loop
unfolding limit
add-j c = let w = c.before in omega (arith, (on w).1, (at-start w).requires.1)

mul-put-word : tie.Need-offset_bounds-units-i-in-loop-i invariant-loop decreases-loop
mul-put-word c = search rules

sub-put-word : tie.Need-slice_bounds-put_word-count invariant-loop decreases-loop
sub-put-word c = search rules

part-put-word-start : tie.Need-slice_bounds-put_word-start invariant-loop decreases-loop
part-put-word-start c = search rules

part-put-word-end : tie.Need-slice_bounds-put_word-end invariant-loop decreases-loop
part-put-word-end c = let w = c.before in omega (arith, (on w).1)

put-word-requires : tie.Need-put_word-at-requires invariant-loop decreases-loop
put-word-requires c κs =
    let w = c.before.before.before in
    let a =
    word-asked (units w) (at-loop w).loop-i.i w.share-s.result.count (at-start w).requires.0 (here w) (found w).0
    w.share-s.result.size (found w).1 (at-start w).requires.1 in
    let r =
    word_room (units w) (at-loop w).loop-i.i w.share-s.result.count (at-start w).requires.0 (here w) (found w).0
    (at-loop w).loop-i.invariant.1 in
    (a.0, a.1, a.2, r)

loop-less : tie.Need-loop-i-smaller invariant-loop decreases-loop
loop-less c = let w = c.before.before.before.before.before.before in omega (arith, (on w).0, (on w).1, here w)

loop-again : tie.Need-loop-i-preserved invariant-loop decreases-loop
loop-again c =
    let w = c.before.before.before.before.before.before in
    let p = c.put_word-at.ensures in
    let l = (at-loop w).loop-i in
    let e = word_line (units w) l.i w.share-s.result.count (at-start w).requires.0 (here w) (found w).0 in
    let rest = line_of (drop (l.i + w.share-s.result.count) (units w)) in
    let q = p.1.1 (line_of (units w)) (at-start w).args.out.now rest (put_as e l.invariant.1) in
    ((on w).1, rw p.0 q)

same_length : tie.Need-shape_of-out invariant-loop decreases-loop
same_length c = c.loop-i.invariant.1.same

returns : tie.Need-returns invariant-loop decreases-loop
returns c =
    let e =
    ap line_of (drop_of_length-le c.args.units.now c.loop-i-test.false)
    ∙ line-none in
    let p = put_as e c.loop-i.invariant.1 in
    (put-end p, put-done p)

pub put_line_spec : {M : Type 1} → statement M
put_line_spec =
    tie.close
    (tie.spec
    invariant-loop
    decreases-loop
    loop-holds
    mul-share
    sub-share
    part-share-start
    part-share-end
    share-requires
    add-j
    mul-put-word
    sub-put-word
    part-put-word-start
    part-put-word-end
    put-word-requires
    loop-less
    loop-again
    same_length
    returns)
