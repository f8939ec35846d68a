use Prim.Native.Nat.{◌+◌, ◌-◌}
use borrow.Rule.Slice.PartMut.{put_mid}
use lib.ListN.{length}
use native.Mathlib.Omega.{arith}
use mathlib.Core.Path.{◌≡◌, refl}
use Rattle.reading.specs.Inner.{Filling}
use Rattle.reading.proofs.Filling.{filling-start}
use Rattle.encoded_word.specs.Rule.{subject}
use Rattle.encoded_word_read.specs.Words.{part_at}
use Rattle.encoded_word_read.proofs.Words.{filling-upto, filling-word, filling-same}
use borrow.Author.Rules.{rules}
use Rattle.encoded_word_read.proofs.fill_through.Statement.{statement}
use Rattle.encoded_word_read.proofs.fill_through.Tie as tie

abbrev invariant-loop : tie.invariant-loop-at
invariant-loop line bytes₀ out₀ at₀ n₀ bytes out at n =
    Filling subject line at (part_at at) n out₀ out × (length bytes ≡ length bytes₀)

abbrev decreases-loop : tie.decreases-loop-at
decreases-loop line bytes₀ out₀ at₀ n₀ bytes out at n = length line - at

-- behind the word
abbrev at-loop : tie.Else-end-at invariant-loop decreases-loop → tie.At-loop-at invariant-loop decreases-loop
at-loop c = c.before.before.before.before.before.before.before.before.before

next :
    (c : tie.Else-end-at invariant-loop decreases-loop) →
    let w = c.word_cells-w in
    let l = (at-loop c).loop-at in
    let a = (at-loop c).args in
    Filling subject a.line.now w.result.end (part_at w.result.end) (l.n + w.result.count) a.out.now
    (put_mid l.n (length l.out - l.n) l.out w.new.out)
next c =
    let w = c.word_cells-w in
    filling-word (at-loop c).loop-at.invariant.0 c.if-end-at.false (w.ensures.0 c.if-end-at.false)

loop-holds : tie.Need-loop-at-init invariant-loop decreases-loop
loop-holds c = (filling-start subject _ _ c.requires.1, refl)

mul-word-cells : tie.Need-offset_bounds-out-n invariant-loop decreases-loop
mul-word-cells c = search rules

sub-word-cells : tie.Need-slice_bounds-word_cells-count invariant-loop decreases-loop
sub-word-cells c = filling-upto c.loop-at.invariant.0

part-word-cells-start : tie.Need-slice_bounds-word_cells-start invariant-loop decreases-loop
part-word-cells-start c = filling-upto c.loop-at.invariant.0

part-word-cells-end : tie.Need-slice_bounds-word_cells-end invariant-loop decreases-loop
part-word-cells-end c = search rules

word-cells-requires : tie.Need-word_cells-w-requires invariant-loop decreases-loop
word-cells-requires c κs =
    let l = c.loop-at in
    let p = c.requires in
    (l.invariant.0.left.within, omega (arith, l.invariant.1, p.0))

same_length : tie.Need-shape_of-bytes-then-end-at invariant-loop decreases-loop
same_length c = search rules

same-length-2 : tie.Need-shape_of-out-then-end-at invariant-loop decreases-loop
same-length-2 c = search rules

returns : tie.Need-returns-then-end-at invariant-loop decreases-loop
returns c =
    let l = c.loop-at in
    filling-same l.invariant.0 (c.word_cells-w.ensures.1 c.if-end-at.true)

add-n : tie.Need-overflow_add-n invariant-loop decreases-loop
add-n c =
    let f = (next c.before).left in
    search rules

loop-less : tie.Need-loop-at-smaller invariant-loop decreases-loop
loop-less c =
    let f = (next c.before).left in
    omega (arith, c.if-end-at.false, f.within)

loop-again : tie.Need-loop-at-preserved invariant-loop decreases-loop
loop-again c = (next c.before, search rules)

same-length-3 : tie.Need-shape_of-bytes invariant-loop decreases-loop
same-length-3 c = search rules

same-length-4 : tie.Need-shape_of-out invariant-loop decreases-loop
same-length-4 c = search rules

returns-2 : tie.Need-returns invariant-loop decreases-loop
returns-2 c = c.loop-at.invariant.0

pub fill_through_spec : {M : Type 1} → statement M
fill_through_spec =
    tie.close
    (tie.spec
    invariant-loop
    decreases-loop
    loop-holds
    mul-word-cells
    sub-word-cells
    part-word-cells-start
    part-word-cells-end
    word-cells-requires
    same_length
    same-length-2
    returns
    add-n
    loop-less
    loop-again
    same-length-3
    same-length-4
    returns-2)
