use Prim.Native.Nat.{◌+◌, ◌-◌}
use lib.ListN.{length}
use native.Mathlib.Omega.{arith}
use mathlib.Core.Path.{◌≡◌, refl}
use Rattle.reading.specs.Inner.{Left}
use Rattle.reading.proofs.Laws.{left-start}
use Rattle.encoded_word.specs.Rule.{subject}
use Rattle.encoded_word_read.specs.Words.{part_at}
use Rattle.encoded_word_read.proofs.Words.{left_word}
use borrow.Author.Rules.{rules}
use Rattle.encoded_word_read.proofs.count_through.Statement.{statement}
use Rattle.encoded_word_read.proofs.count_through.Tie as tie

abbrev invariant-loop : tie.invariant-loop-at
invariant-loop line bytes₀ cells₀ at₀ n₀ bytes cells at n =
    Left subject line at (part_at at) n × (length bytes ≡ length bytes₀) × (length cells ≡ length cells₀)

abbrev decreases-loop : tie.decreases-loop-at
decreases-loop line bytes₀ cells₀ at₀ n₀ bytes cells at n = length line - at

-- behind the word
next :
    (c : tie.Else-end-at invariant-loop decreases-loop) →
    let w = c.word_cells-w in
    let l = c.before.before.before.before.before.before.before.before.before in
    let a = l.args in
    Left subject a.line.now w.result.end (part_at w.result.end) (l.loop-at.n + w.result.count)
next c =
    let w = c.word_cells-w in
    let l = c in
    left_word l.loop-at.invariant.0 c.if-end-at.false (w.ensures.0 c.if-end-at.false)

loop-holds : tie.Need-loop-at-init invariant-loop decreases-loop
loop-holds c = (left-start subject _, refl, refl)

word-cells-requires : tie.Need-word_cells-w-requires invariant-loop decreases-loop
word-cells-requires c κs =
    let l = c.loop-at in
    (l.invariant.0.within, omega (arith, l.invariant.1, c.requires))

same_length : tie.Need-shape_of-bytes-then-end-at invariant-loop decreases-loop
same_length c = search rules

same-length-2 : tie.Need-shape_of-cells-then-end-at invariant-loop decreases-loop
same-length-2 c = search rules

returns : tie.Need-returns-then-end-at invariant-loop decreases-loop
returns c = c.loop-at.invariant.0

add-n : tie.Need-overflow_add-n invariant-loop decreases-loop
add-n c =
    let l = next c.before in
    search rules

loop-less : tie.Need-loop-at-smaller invariant-loop decreases-loop
loop-less c = omega (arith, c.if-end-at.false, (next c.before).within)

loop-again : tie.Need-loop-at-preserved invariant-loop decreases-loop
loop-again c = (next c.before, search rules, search rules)

same-length-3 : tie.Need-shape_of-bytes invariant-loop decreases-loop
same-length-3 c = search rules

same-length-4 : tie.Need-shape_of-cells invariant-loop decreases-loop
same-length-4 c = search rules

returns-2 : tie.Need-returns invariant-loop decreases-loop
returns-2 c = c.loop-at.invariant.0

pub count_through_spec : {M : Type 1} → statement M
count_through_spec =
    tie.close
    (tie.spec
    invariant-loop
    decreases-loop
    loop-holds
    word-cells-requires
    same_length
    same-length-2
    returns
    add-n
    loop-less
    loop-again
    same-length-3
    same-length-4
    returns-2)
