use Prim.Native.Nat.{◌-◌}
use mathlib.Core.Path.{◌∙◌}
use lib.ListN.{length}
use borrow.Author.Rules.{rules}
use Rattle.reading.proofs.Laws.{Left, left-give, left-go, left-bad, left_end}
use Rattle.encoded_word.specs.Rule.{subject}
use Rattle.encoded_word.proofs.Kept.{left-faulty}
use Rattle.encoded_word_read.specs.Line.{part_of}
use Rattle.encoded_word_read.proofs.Texts.{turned}
use Rattle.encoded_word_read.proofs.count.Statement.{statement}
use Rattle.encoded_word_read.proofs.count.Tie as tie

abbrev invariant-loop : tie.invariant-loop-at
invariant-loop line at₀ n₀ p₀ at n p = Left subject line at (part_of p) n

abbrev decreases-loop : tie.decreases-loop-at
decreases-loop line at₀ n₀ p₀ at n p = length line - at

count-words-requires : tie.Need-count_words-w-requires invariant-loop decreases-loop
count-words-requires c κs = search rules

part-at-requires : tie.Need-part_at-p-requires invariant-loop decreases-loop
part-at-requires c κs = search rules

loop-holds : tie.Need-loop-at-init invariant-loop decreases-loop
loop-holds c = rw c.part_at-p.ensures c.count_words-w.ensures

shared-slice-read-feed : tie.Need-bounds-line-at invariant-loop decreases-loop
shared-slice-read-feed c = search rules

feed-requires : tie.Need-feed-requires invariant-loop decreases-loop
feed-requires c κs = search rules

enum-known-next : tie.Need-enum_known-next invariant-loop decreases-loop
enum-known-next c = search rules

add-n : tie.Need-overflow_add-n invariant-loop decreases-loop
add-n c = search rules

add_at : tie.Need-overflow_add-at invariant-loop decreases-loop
add_at c = search rules

loop-less : tie.Need-loop-at-smaller-in-Give invariant-loop decreases-loop
loop-less c = search rules

loop-again : tie.Need-loop-at-preserved-in-Give invariant-loop decreases-loop
loop-again c =
    let f = c in
    let i = f in
    let m = turned f.feed.ensures c.in-Give.is in
    left-give i.loop-at.invariant i.loop-at-test.true m

enum-known-next-2 : tie.Need-enum_known-next-in-Go-1 invariant-loop decreases-loop
enum-known-next-2 c = search rules

add-at-2 : tie.Need-overflow_add-at-in-Go invariant-loop decreases-loop
add-at-2 c = search rules

loop-less-2 : tie.Need-loop-at-smaller invariant-loop decreases-loop
loop-less-2 c = search rules

loop-again-2 : tie.Need-loop-at-preserved invariant-loop decreases-loop
loop-again-2 c =
    let f = c in
    let i = f in
    let m = turned f.feed.ensures c.in-Go.is in
    left-go i.loop-at.invariant i.loop-at-test.true m

enum-known-why : tie.Need-enum_known-why invariant-loop decreases-loop
enum-known-why c = search rules

returns : tie.Need-returns-in-Bad invariant-loop decreases-loop
returns c =
    let f = c in
    let i = f in
    (left-bad i.loop-at.invariant i.loop-at-test.true (turned f.feed.ensures c.in-Bad.is)).1

enum-known-why-2 : tie.Need-enum_known-why-in-Pair-1 invariant-loop decreases-loop
enum-known-why-2 c = search rules

add-equals-before : tie.Need-overflow_add-at-in-Pair invariant-loop decreases-loop
add-equals-before c = search rules

equals-before-requires : tie.Need-equals_before-requires invariant-loop decreases-loop
equals-before-requires c κs = search rules

returns-2 : tie.Need-returns-in-Pair invariant-loop decreases-loop
returns-2 c =
    let k = c in
    let f = k in
    let i = f in
    let m = turned f.feed.ensures k.in-Pair.is in
    rw c.equals_before.ensures (left-faulty (left-go i.loop-at.invariant i.loop-at-test.true m))

finish-requires : tie.Need-finish-requires invariant-loop decreases-loop
finish-requires c κs = search rules

returns-3 : tie.Need-returns invariant-loop decreases-loop
returns-3 c = c.finish.ensures ∙ (left_end c.loop-at.invariant c.loop-at-test.false).1

pub count_spec : {M : Type 1} → statement M
count_spec =
    tie.close
    (tie.spec
    invariant-loop
    decreases-loop
    count-words-requires
    part-at-requires
    loop-holds
    shared-slice-read-feed
    feed-requires
    enum-known-next
    add-n
    add_at
    loop-less
    loop-again
    enum-known-next-2
    add-at-2
    loop-less-2
    loop-again-2
    enum-known-why
    returns
    enum-known-why-2
    add-equals-before
    equals-before-requires
    returns-2
    finish-requires
    returns-3)
