use Prim.Native.Nat.{◌-◌}
use mathlib.Core.Path.{◌∙◌}
use native.Mathlib.Omega.{arith}
use lib.ListN.{length}
use Rattle.reading.proofs.Laws.{Left, left-start, left-give, left-go, left-bad, left_end}
use Rattle.utf7.specs.Rule.{utf7}
use Rattle.utf7_read.specs.Cursor.{shift_of}
use Rattle.utf7_read.proofs.Moves.{byte-moved}
use borrow.Author.Rules.{rules}
use Rattle.page_keep.proofs.opened.utf7_answer.Statement.{statement}
use Rattle.page_keep.proofs.opened.utf7_answer.Tie as tie

abbrev invariant-loop : tie.invariant-loop-at
invariant-loop text at₀ n₀ st₀ at n st = Left utf7 text at (shift_of st) n

abbrev decreases-loop : tie.decreases-loop-at
decreases-loop text at₀ n₀ st₀ at n st = length text - at

loop-holds : tie.Need-loop-at-init invariant-loop decreases-loop
loop-holds c = left-start utf7 _

shared-slice-read-byte-does : tie.Need-bounds-text-at invariant-loop decreases-loop
shared-slice-read-byte-does c = search rules

byte-does-requires : tie.Need-byte_does-requires invariant-loop decreases-loop
byte-does-requires c κs = search rules

enum-known-state : tie.Need-enum_known-state invariant-loop decreases-loop
enum-known-state c = search rules

add-n : tie.Need-overflow_add-n invariant-loop decreases-loop
add-n c =
    let l = c.loop-at in
    omega (arith, l.invariant.few)

add_at : tie.Need-overflow_add-at invariant-loop decreases-loop
add_at c = search rules

loop-less : tie.Need-loop-at-smaller-in-Give invariant-loop decreases-loop
loop-less c = search rules

loop-again : tie.Need-loop-at-preserved-in-Give invariant-loop decreases-loop
loop-again c =
    let l = c.loop-at in
    let loop-test' = c.loop-at-test in
    let byte-does' = c.byte_does in
    left-give l.invariant loop-test'.true (byte-moved _ _ byte-does'.ensures c.in-Give.is)

enum-known-state-2 : tie.Need-enum_known-state-in-Go-1 invariant-loop decreases-loop
enum-known-state-2 c = search rules

add-at-2 : tie.Need-overflow_add-at-in-Go invariant-loop decreases-loop
add-at-2 c = search rules

loop-less-2 : tie.Need-loop-at-smaller invariant-loop decreases-loop
loop-less-2 c = search rules

loop-again-2 : tie.Need-loop-at-preserved invariant-loop decreases-loop
loop-again-2 c =
    let l = c.loop-at in
    let loop-test' = c.loop-at-test in
    let byte-does' = c.byte_does in
    left-go l.invariant loop-test'.true (byte-moved _ _ byte-does'.ensures c.in-Go.is)

enum-known-why : tie.Need-enum_known-why invariant-loop decreases-loop
enum-known-why c = search rules

returns : tie.Need-returns-in-Bad invariant-loop decreases-loop
returns c =
    let l = c.loop-at in
    let loop-test' = c.loop-at-test in
    let byte-does' = c.byte_does in
    (left-bad l.invariant loop-test'.true (byte-moved _ _ byte-does'.ensures c.in-Bad.is)).1

ends-in-requires : tie.Need-ends_in-requires invariant-loop decreases-loop
ends-in-requires c κs = search rules

returns-2 : tie.Need-returns invariant-loop decreases-loop
returns-2 c =
    let l = c.loop-at in
    let loop-test' = c.loop-at-test in
    let ends-in' = c.ends_in in
    ends-in'.ensures ∙ (left_end l.invariant loop-test'.false).1

pub utf7_answer_spec : {M : Type 1} → statement M
utf7_answer_spec =
    tie.close
    (tie.spec
    invariant-loop
    decreases-loop
    loop-holds
    shared-slice-read-byte-does
    byte-does-requires
    enum-known-state
    add-n
    add_at
    loop-less
    loop-again
    enum-known-state-2
    add-at-2
    loop-less-2
    loop-again-2
    enum-known-why
    returns
    ends-in-requires
    returns-2)
