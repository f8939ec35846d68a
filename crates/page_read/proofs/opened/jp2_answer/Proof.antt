use Prim.Native.Nat.{◌-◌}
use mathlib.Core.Path.{sym, ◌∙◌}
use native.Mathlib.Omega.{arith}
use Rattle.scan.specs.Inner.{hexes_at}
use Rattle.reading.proofs.Laws.{Left, left-start, left-give, left-go, left-bad, left_end}
use Rattle.jp2.specs.Rule.{jp2}
use Rattle.jp2_read.specs.Cursor.{state_of}
use Rattle.jp2_read.proofs.Moves.{moved}
use Rattle.page_read.proofs.Values.{at_byte, hexes-at, length-hexes}
use borrow.Author.Rules.{rules}
use Rattle.page_read.proofs.opened.jp2_answer.Statement.{statement}
use Rattle.page_read.proofs.opened.jp2_answer.Tie as tie

abbrev invariant-loop : tie.invariant-loop-at
invariant-loop file base n at₀ count₀ st₀ at count st = Left jp2 (hexes_at file base 2 n) at (state_of st) count

abbrev decreases-loop : tie.decreases-loop-at
decreases-loop file base n at₀ count₀ st₀ at count st = n - at

begin-requires : tie.Need-begin-st-requires invariant-loop decreases-loop
begin-requires c κs = search rules

loop-holds : tie.Need-loop-at-init invariant-loop decreases-loop
loop-holds c =
    let begin' = c.begin-st in
    rw begin'.ensures (left-start jp2 _)

mul-byte-at : tie.Need-overflow_mul-at invariant-loop decreases-loop
mul-byte-at c = search rules

add-byte-at : tie.Need-overflow_add-base invariant-loop decreases-loop
add-byte-at c = search rules

byte-at-requires : tie.Need-byte_at-b-requires invariant-loop decreases-loop
byte-at-requires c κs = search rules

feed-requires : tie.Need-feed-requires invariant-loop decreases-loop
feed-requires c κs = search rules

enum-known-state : tie.Need-enum_known-state invariant-loop decreases-loop
enum-known-state c = search rules

add-count : tie.Need-overflow_add-count invariant-loop decreases-loop
add-count c =
    let l = c.loop-at in
    omega (arith, l.invariant.few)

add_at : tie.Need-overflow_add-at invariant-loop decreases-loop
add_at c = search rules

loop-less : tie.Need-loop-at-smaller-in-Give invariant-loop decreases-loop
loop-less c = search rules

loop-again : tie.Need-loop-at-preserved-in-Give invariant-loop decreases-loop
loop-again c =
    let a = c.args in
    let l = c.loop-at in
    let byte-at' = c.byte_at-b in
    let feed' = c.feed in
    left-give l.invariant (omega (arith, length-hexes a.file.now a.base 2 a.n))
    (at_byte jp2 (state_of l.st) (hexes-at a.file.now a.base 2 a.n l.at (omega arith) ∙ sym
    byte-at'.ensures) (moved feed'.ensures c.in-Give.is))

enum-known-state-2 : tie.Need-enum_known-state-in-Go-1 invariant-loop decreases-loop
enum-known-state-2 c = search rules

add-at-2 : tie.Need-overflow_add-at-in-Go invariant-loop decreases-loop
add-at-2 c = search rules

loop-less-2 : tie.Need-loop-at-smaller invariant-loop decreases-loop
loop-less-2 c = search rules

loop-again-2 : tie.Need-loop-at-preserved invariant-loop decreases-loop
loop-again-2 c =
    let a = c.args in
    let l = c.loop-at in
    let byte-at' = c.byte_at-b in
    let feed' = c.feed in
    left-go l.invariant (omega (arith, length-hexes a.file.now a.base 2 a.n))
    (at_byte jp2 (state_of l.st) (hexes-at a.file.now a.base 2 a.n l.at (omega arith) ∙ sym
    byte-at'.ensures) (moved feed'.ensures c.in-Go.is))

enum-known-why : tie.Need-enum_known-why invariant-loop decreases-loop
enum-known-why c = search rules

returns : tie.Need-returns-in-Bad invariant-loop decreases-loop
returns c =
    let a = c.args in
    let l = c.loop-at in
    let byte-at' = c.byte_at-b in
    let feed' = c.feed in
    (left-bad l.invariant (omega (arith, length-hexes a.file.now a.base 2 a.n))
    (at_byte jp2 (state_of l.st) (hexes-at a.file.now a.base 2 a.n l.at (omega arith) ∙ sym
    byte-at'.ensures) (moved feed'.ensures c.in-Bad.is))).1

finish-requires : tie.Need-finish-requires invariant-loop decreases-loop
finish-requires c κs = search rules

returns-2 : tie.Need-returns invariant-loop decreases-loop
returns-2 c =
    let a = c.args in
    let l = c.loop-at in
    let finish' = c.finish in
    finish'.ensures ∙ (left_end l.invariant (omega (arith, length-hexes a.file.now a.base 2 a.n))).1

pub jp2_answer_spec : {M : Type 1} → statement M
jp2_answer_spec =
    tie.close
    (tie.spec
    invariant-loop
    decreases-loop
    begin-requires
    loop-holds
    mul-byte-at
    add-byte-at
    byte-at-requires
    feed-requires
    enum-known-state
    add-count
    add_at
    loop-less
    loop-again
    enum-known-state-2
    add-at-2
    loop-less-2
    loop-again-2
    enum-known-why
    returns
    finish-requires
    returns-2)
