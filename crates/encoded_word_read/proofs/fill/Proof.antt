use Prim.Native.Nat.{◌-◌, ◌<◌}
use native.Mathlib.Omega.{arith}
use lib.ListN.{length}
use borrow.Author.Rules.{rules}
use Rattle.reading.proofs.Filling.{Filling, filling-index, filling-give, filling-go, filling-bad}
use Rattle.reading.proofs.Filling.{filling-end}
use Rattle.encoded_word.specs.Rule.{subject}
use Rattle.encoded_word.proofs.Kept.{filling-faulty}
use Rattle.encoded_word_read.specs.Line.{part_of}
use Rattle.encoded_word_read.proofs.Texts.{turned}
use Rattle.encoded_word_read.proofs.Words.{filling-anew, filled-anew}
use mathlib.Core.Path.{◌∙◌}
use Rattle.encoded_word_read.proofs.fill.Statement.{statement}
use Rattle.encoded_word_read.proofs.fill.Tie as tie

abbrev invariant-loop : tie.invariant-loop-at
invariant-loop line out₀ at₀ n₀ p₀ out at n p = Filling subject line at (part_of p) n out₀ out

abbrev decreases-loop : tie.decreases-loop-at
decreases-loop line out₀ at₀ n₀ p₀ out at n p = length line - at

fill-words-requires : tie.Need-fill_words-w-requires invariant-loop decreases-loop
fill-words-requires c κs = c.requires

part-at-requires : tie.Need-part_at-p-requires invariant-loop decreases-loop
part-at-requires c κs = search rules

loop-holds : tie.Need-loop-at-init invariant-loop decreases-loop
loop-holds c = rw c.part_at-p.ensures (filling-anew c.fill_words-w.ensures)

shared-slice-read-feed : tie.Need-bounds-line-at invariant-loop decreases-loop
shared-slice-read-feed c = search rules

feed-requires : tie.Need-feed-requires invariant-loop decreases-loop
feed-requires c κs = search rules

enum-known-value : tie.Need-enum_known-value invariant-loop decreases-loop
enum-known-value c = search rules

-- the next cell has a place
index :
    (c : tie.In-Give invariant-loop decreases-loop) →
    let l = c.loop-at in l.n < length l.out
index c =
    let f = c in
    let i = f in
    filling-index i.loop-at.invariant i.loop-at-test.true (turned f.feed.ensures c.in-Give.is)

mul-out : tie.Need-offset_bounds-out-n invariant-loop decreases-loop
mul-out c = omega (arith, index c)

slice-write-out : tie.Need-bounds-out-n invariant-loop decreases-loop
slice-write-out c = index c

add-n : tie.Need-overflow_add-n invariant-loop decreases-loop
add-n c = search rules

add_at : tie.Need-overflow_add-at invariant-loop decreases-loop
add_at c = search rules

loop-less : tie.Need-loop-at-smaller-in-Give invariant-loop decreases-loop
loop-less c = search rules

loop-again : tie.Need-loop-at-preserved-in-Give invariant-loop decreases-loop
loop-again c =
    let f = c in
    let i = f in
    let m = turned f.feed.ensures c.in-Give.is in
    filling-give i.loop-at.invariant i.loop-at-test.true m

enum-known-next : tie.Need-enum_known-next invariant-loop decreases-loop
enum-known-next c = search rules

add-at-2 : tie.Need-overflow_add-at-in-Go invariant-loop decreases-loop
add-at-2 c = search rules

loop-less-2 : tie.Need-loop-at-smaller invariant-loop decreases-loop
loop-less-2 c = search rules

loop-again-2 : tie.Need-loop-at-preserved invariant-loop decreases-loop
loop-again-2 c =
    let f = c in
    let i = f in
    let m = turned f.feed.ensures c.in-Go.is in
    filling-go i.loop-at.invariant i.loop-at-test.true m

enum_told : tie.Need-enum_told-1 invariant-loop decreases-loop
enum_told c = search rules

same_length : tie.Need-shape_of-out-in-Bad invariant-loop decreases-loop
same_length c = search rules

returns : tie.Need-returns-in-Bad invariant-loop decreases-loop
returns c =
    let f = c in
    let i = f in
    filling-bad i.loop-at.invariant i.loop-at-test.true (turned f.feed.ensures c.in-Bad.is)
    ∙ filled-anew i.fill_words-w.ensures

enum-told-2 : tie.Need-enum_told-in-Pair invariant-loop decreases-loop
enum-told-2 c = search rules

same-length-2 : tie.Need-shape_of-out-in-Pair invariant-loop decreases-loop
same-length-2 c = search rules

returns-2 : tie.Need-returns-in-Pair invariant-loop decreases-loop
returns-2 c =
    let f = c in
    let i = f in
    let m = turned f.feed.ensures c.in-Pair.is in
    filling-faulty (filling-go i.loop-at.invariant i.loop-at-test.true m)
    ∙ filled-anew i.fill_words-w.ensures

same-length-3 : tie.Need-shape_of-out invariant-loop decreases-loop
same-length-3 c = search rules

returns-3 : tie.Need-returns invariant-loop decreases-loop
returns-3 c =
    filling-end c.loop-at.invariant c.loop-at-test.false
    ∙ filled-anew c.fill_words-w.ensures

pub fill_spec : {M : Type 1} → statement M
fill_spec =
    tie.close
    (tie.spec
    invariant-loop
    decreases-loop
    fill-words-requires
    part-at-requires
    loop-holds
    shared-slice-read-feed
    feed-requires
    enum-known-value
    mul-out
    slice-write-out
    add-n
    add_at
    loop-less
    loop-again
    enum-known-next
    add-at-2
    loop-less-2
    loop-again-2
    enum_told
    same_length
    returns
    enum-told-2
    same-length-2
    returns-2
    same-length-3
    returns-3)
