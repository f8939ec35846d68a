use Prim.Native.Nat.{◌-◌}
use mathlib.Core.Path.{◌∙◌}
use native.Mathlib.Omega.{arith}
use lib.ListN.{length}
use Rattle.reading.proofs.Laws.{Left, left-start, left-give, left-go, left-bad, left_end}
use Rattle.jp2.specs.Rule.{jp2}
use Rattle.jp2_read.specs.Cursor.{state_of}
use Rattle.jp2_read.proofs.Moves.{moved}
use borrow.Author.Rules.{rules}
use Rattle.page_keep.proofs.opened.jp2_answer.Statement.{statement}
use Rattle.page_keep.proofs.opened.jp2_answer.Tie as tie

abbrev invariant-loop : tie.invariant-loop-at
invariant-loop text at₀ n₀ st₀ at n st = Left jp2 text at (state_of st) n

abbrev decreases-loop : tie.decreases-loop-at
decreases-loop text at₀ n₀ st₀ at n st = length text - at

begin-requires : tie.Need-begin-st-requires invariant-loop decreases-loop
begin-requires c κs = search rules

loop-holds : tie.Need-loop-at-init invariant-loop decreases-loop
loop-holds c =
    let begin' = c.begin-st in
    rw begin'.ensures (left-start jp2 _)

shared-slice-read-feed : tie.Need-bounds-text-at invariant-loop decreases-loop
shared-slice-read-feed c = search rules

feed-requires : tie.Need-feed-requires invariant-loop decreases-loop
feed-requires c κs = search rules

enum-known-state : tie.Need-enum_known-state invariant-loop decreases-loop
enum-known-state c = search rules

add-n : tie.Need-overflow_add-n invariant-loop decreases-loop
add-n c =
    let l = c.loop-at in
    omega (arith, l.invariant.few)

add_at : tie.Need-overflow_add-at invariant-loop decreases-loop
add_at c = search rules

loop-less : tie.Need-loop-at-smaller-in-Give invariant-loop decreases-loop
loop-less c = search rules

loop-again : tie.Need-loop-at-preserved-in-Give invariant-loop decreases-loop
loop-again c =
    let l = c.loop-at in
    let loop-test' = c.loop-at-test in
    let feed' = c.feed in
    left-give l.invariant loop-test'.true (moved feed'.ensures c.in-Give.is)

enum-known-state-2 : tie.Need-enum_known-state-in-Go-1 invariant-loop decreases-loop
enum-known-state-2 c = search rules

add-at-2 : tie.Need-overflow_add-at-in-Go invariant-loop decreases-loop
add-at-2 c = search rules

loop-less-2 : tie.Need-loop-at-smaller invariant-loop decreases-loop
loop-less-2 c = search rules

loop-again-2 : tie.Need-loop-at-preserved invariant-loop decreases-loop
loop-again-2 c =
    let l = c.loop-at in
    let loop-test' = c.loop-at-test in
    let feed' = c.feed in
    left-go l.invariant loop-test'.true (moved feed'.ensures c.in-Go.is)

enum-known-why : tie.Need-enum_known-why invariant-loop decreases-loop
enum-known-why c = search rules

returns : tie.Need-returns-in-Bad invariant-loop decreases-loop
returns c =
    let l = c.loop-at in
    let loop-test' = c.loop-at-test in
    let feed' = c.feed in
    (left-bad l.invariant loop-test'.true (moved feed'.ensures c.in-Bad.is)).1

finish-requires : tie.Need-finish-requires invariant-loop decreases-loop
finish-requires c κs = search rules

returns-2 : tie.Need-returns invariant-loop decreases-loop
returns-2 c =
    let l = c.loop-at in
    let loop-test' = c.loop-at-test in
    let finish' = c.finish in
    finish'.ensures ∙ (left_end l.invariant loop-test'.false).1

pub jp2_answer_spec : {M : Type 1} → statement M
jp2_answer_spec =
    tie.close
    (tie.spec
    invariant-loop
    decreases-loop
    begin-requires
    loop-holds
    shared-slice-read-feed
    feed-requires
    enum-known-state
    add-n
    add_at
    loop-less
    loop-again
    enum-known-state-2
    add-at-2
    loop-less-2
    loop-again-2
    enum-known-why
    returns
    finish-requires
    returns-2)
