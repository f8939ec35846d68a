use native.Mathlib.Omega.{arith}
use Prim.Native.Nat.{◌-◌, ◌≤◌}
use mathlib.Core.Path.{◌≡◌, refl, sym, ◌∙◌}
use lib.Seq.{slice}
use Rattle.answer.proofs.Once.{limit-small}
use Rattle.scan.specs.Inner.{hexes_at}
use Rattle.records.specs.Walking.{walk_in}
use Rattle.records.proofs.Walks.{walk_end, walk-cut, walk-past, walk-beyond, walk-long, walk-next}
use Rattle.page_read.proofs.Values.{length-hexes}
use borrow.Author.Rules.{rules}
use Rattle.page_read.proofs.walk.walk_records.Statement.{statement}
use Rattle.page_read.proofs.walk.walk_records.Tie as tie

abbrev invariant-loop : tie.invariant-loop-at
invariant-loop file base n from to start before room at₀ len₀ last₀ at len last = (at ≤ to) × (len ≤ room) ×
    (walk_in room from start before (slice from to (hexes_at file base 8 n)) ≡ walk_in room at len last
    (slice at to (hexes_at file base 8 n)))

abbrev decreases-loop : tie.decreases-loop-at
decreases-loop file base n from to start before room at₀ len₀ last₀ at len last = to - at

loop-holds : tie.Need-loop-at-init invariant-loop decreases-loop
loop-holds c = (omega arith, omega arith, refl)

sub-if1 : tie.Need-overflow_sub-to invariant-loop decreases-loop
sub-if1 c = search rules

returns : tie.Need-returns-then-to-at-lt3 invariant-loop decreases-loop
returns c =
    let a = c.args in
    let l = c.loop-at in
    sym (l.invariant.2 ∙ walk-cut (hexes_at a.file.now a.base 8 a.n) a.to a.room l.at l.len l.last
    (omega (arith, length-hexes a.file.now a.base 8 a.n)) (omega arith) (omega arith))

word-of-requires : tie.Need-word_of-place-requires invariant-loop decreases-loop
word-of-requires c κs = search rules

add-word-of : tie.Need-overflow_add-at invariant-loop decreases-loop
add-word-of c = search rules

word-of-requires-2 : tie.Need-word_of-removed-requires invariant-loop decreases-loop
word-of-requires-2 c κs = search rules

add-word-of-2 : tie.Need-overflow_add-at-in-loop-at invariant-loop decreases-loop
add-word-of-2 c = search rules

word-of-requires-3 : tie.Need-word_of-added-requires invariant-loop decreases-loop
word-of-requires-3 c κs = search rules

add-size : tie.Need-overflow_add-size invariant-loop decreases-loop
add-size c = omega (arith, limit-small)

add-size-2 : tie.Need-overflow_add-size-in-loop-at invariant-loop decreases-loop
add-size-2 c = omega (arith, limit-small)

sub-if2 : tie.Need-overflow_sub-to-in-loop-at invariant-loop decreases-loop
sub-if2 c = search rules

returns-2 : tie.Need-returns-then-to-at invariant-loop decreases-loop
returns-2 c =
    let a = c.args in
    let l = c.loop-at in
    let word-of' = c.word_of-place in
    let word-of2' = c.word_of-removed in
    let word-of3' = c.word_of-added in
    sym (l.invariant.2 ∙ walk-past (hexes_at a.file.now a.base 8 a.n) a.to a.room l.at l.len l.last
    (omega (arith, length-hexes a.file.now a.base 8 a.n)) word-of'.result word-of2'.result
    word-of3'.result word-of'.ensures.0 word-of2'.ensures.0 word-of3'.ensures.0 (omega arith)
    (omega arith))

add-if3 : tie.Need-overflow_add-place invariant-loop decreases-loop
add-if3 c = omega (arith, limit-small)

returns-3 : tie.Need-returns-then-len-place invariant-loop decreases-loop
returns-3 c =
    let a = c.args in
    let l = c.loop-at in
    let word-of' = c.word_of-place in
    let word-of2' = c.word_of-removed in
    let word-of3' = c.word_of-added in
    sym (l.invariant.2 ∙ walk-beyond (hexes_at a.file.now a.base 8 a.n) a.to a.room l.at l.len
    l.last (omega (arith, length-hexes a.file.now a.base 8 a.n)) word-of'.result
    word-of2'.result word-of3'.result word-of'.ensures.0 word-of2'.ensures.0 word-of3'.ensures.0
    (omega arith) (omega arith) (omega arith))

sub-after : tie.Need-overflow_sub-after invariant-loop decreases-loop
sub-after c = search rules

add-after : tie.Need-overflow_add-after invariant-loop decreases-loop
add-after c = omega (arith, limit-small)

returns-4 : tie.Need-returns-then-room-after invariant-loop decreases-loop
returns-4 c =
    let a = c.args in
    let l = c.loop-at in
    let word-of' = c.word_of-place in
    let word-of2' = c.word_of-removed in
    let word-of3' = c.word_of-added in
    sym (l.invariant.2 ∙ walk-long (hexes_at a.file.now a.base 8 a.n) a.to a.room l.at l.len l.last
    (omega (arith, length-hexes a.file.now a.base 8 a.n)) word-of'.result word-of2'.result
    word-of3'.result word-of'.ensures.0 word-of2'.ensures.0 word-of3'.ensures.0 (omega arith)
    (omega arith) (omega arith) (omega arith))

add_at : tie.Need-overflow_add-at-in-loop-at-2 invariant-loop decreases-loop
add_at c = omega (arith, limit-small)

loop-less : tie.Need-loop-at-smaller invariant-loop decreases-loop
loop-less c = omega arith

loop-again : tie.Need-loop-at-preserved invariant-loop decreases-loop
loop-again c =
    let a = c.args in
    let l = c.loop-at in
    let word-of' = c.word_of-place in
    let word-of2' = c.word_of-removed in
    let word-of3' = c.word_of-added in (
      omega arith,
      omega arith,
      l.invariant.2 ∙ walk-next (hexes_at a.file.now a.base 8 a.n) a.to a.room
          l.at l.len l.last (omega (arith, length-hexes a.file.now a.base 8 a.n)) word-of'.result
          word-of2'.result word-of3'.result word-of'.ensures.0 word-of2'.ensures.0 word-of3'.ensures.0
          (omega arith) (omega arith) (omega arith) (omega arith),
    )

returns-5 : tie.Need-returns invariant-loop decreases-loop
returns-5 c =
    let a = c.args in
    let l = c.loop-at in
    sym (l.invariant.2 ∙ walk_end (hexes_at a.file.now a.base 8 a.n) a.to a.room l.at l.len l.last
    (omega (arith, length-hexes a.file.now a.base 8 a.n)) (omega arith))

pub walk_records_spec : {M : Type 1} → statement M
walk_records_spec =
    tie.close
    (tie.spec
    invariant-loop
    decreases-loop
    loop-holds
    sub-if1
    returns
    word-of-requires
    add-word-of
    word-of-requires-2
    add-word-of-2
    word-of-requires-3
    add-size
    add-size-2
    sub-if2
    returns-2
    add-if3
    returns-3
    sub-after
    add-after
    returns-4
    add_at
    loop-less
    loop-again
    returns-5)
