use Prim.Native.Nat.{◌-◌}
use mathlib.Core.Path.{sym, ◌∙◌}
use native.Mathlib.Omega.{arith}
use Rattle.scan.specs.Inner.{hexes_at}
use Rattle.reading.proofs.Laws.{Left, left-start, left-give, left-go, left-bad, left_end}
use Rattle.utf7.specs.Rule.{utf7}
use Rattle.utf7_read.specs.Cursor.{shift_of}
use Rattle.utf7_read.proofs.Moves.{byte-moved}
use Rattle.page_read.proofs.Values.{at_byte, hexes-at, length-hexes}
use borrow.Author.Rules.{rules}
use Rattle.page_read.proofs.opened.utf7_answer.Statement.{statement}
use Rattle.page_read.proofs.opened.utf7_answer.Tie as tie

abbrev invariant-loop : tie.invariant-loop-at
invariant-loop file base n at₀ count₀ st₀ at count st = Left utf7 (hexes_at file base 2 n) at (shift_of st) count

abbrev decreases-loop : tie.decreases-loop-at
decreases-loop file base n at₀ count₀ st₀ at count st = n - at

loop-holds : tie.Need-loop-at-init invariant-loop decreases-loop
loop-holds c = left-start utf7 _

mul-byte-at : tie.Need-overflow_mul-at invariant-loop decreases-loop
mul-byte-at c = search rules

add-byte-at : tie.Need-overflow_add-base invariant-loop decreases-loop
add-byte-at c = search rules

byte-at-requires : tie.Need-byte_at-b-requires invariant-loop decreases-loop
byte-at-requires c κs = search rules

byte-does-requires : tie.Need-byte_does-requires invariant-loop decreases-loop
byte-does-requires c κs = search rules

enum-known-state : tie.Need-enum_known-state invariant-loop decreases-loop
enum-known-state c = search rules

add-count : tie.Need-overflow_add-count invariant-loop decreases-loop
add-count c =
    let l = c.loop-at in
    omega (arith, l.invariant.few)

add_at : tie.Need-overflow_add-at invariant-loop decreases-loop
add_at c = search rules

loop-less : tie.Need-loop-at-smaller-in-Give invariant-loop decreases-loop
loop-less c = search rules

loop-again : tie.Need-loop-at-preserved-in-Give invariant-loop decreases-loop
loop-again c =
    let a = c.args in
    let l = c.loop-at in
    let byte-at' = c.byte_at-b in
    let byte-does' = c.byte_does in
    left-give l.invariant (omega (arith, length-hexes a.file.now a.base 2 a.n))
    (at_byte utf7 (shift_of l.st) (hexes-at a.file.now a.base 2 a.n l.at (omega arith) ∙ sym
    byte-at'.ensures) (byte-moved _ _ byte-does'.ensures c.in-Give.is))

enum-known-state-2 : tie.Need-enum_known-state-in-Go-1 invariant-loop decreases-loop
enum-known-state-2 c = search rules

add-at-2 : tie.Need-overflow_add-at-in-Go invariant-loop decreases-loop
add-at-2 c = search rules

loop-less-2 : tie.Need-loop-at-smaller invariant-loop decreases-loop
loop-less-2 c = search rules

loop-again-2 : tie.Need-loop-at-preserved invariant-loop decreases-loop
loop-again-2 c =
    let a = c.args in
    let l = c.loop-at in
    let byte-at' = c.byte_at-b in
    let byte-does' = c.byte_does in
    left-go l.invariant (omega (arith, length-hexes a.file.now a.base 2 a.n))
    (at_byte utf7 (shift_of l.st) (hexes-at a.file.now a.base 2 a.n l.at (omega arith) ∙ sym
    byte-at'.ensures) (byte-moved _ _ byte-does'.ensures c.in-Go.is))

enum-known-why : tie.Need-enum_known-why invariant-loop decreases-loop
enum-known-why c = search rules

returns : tie.Need-returns-in-Bad invariant-loop decreases-loop
returns c =
    let a = c.args in
    let l = c.loop-at in
    let byte-at' = c.byte_at-b in
    let byte-does' = c.byte_does in
    (left-bad l.invariant (omega (arith, length-hexes a.file.now a.base 2 a.n))
    (at_byte utf7 (shift_of l.st) (hexes-at a.file.now a.base 2 a.n l.at (omega arith) ∙ sym
    byte-at'.ensures) (byte-moved _ _ byte-does'.ensures c.in-Bad.is))).1

ends-in-requires : tie.Need-ends_in-requires invariant-loop decreases-loop
ends-in-requires c κs = search rules

returns-2 : tie.Need-returns invariant-loop decreases-loop
returns-2 c =
    let a = c.args in
    let l = c.loop-at in
    let ends-in' = c.ends_in in
    ends-in'.ensures ∙ (left_end l.invariant (omega (arith, length-hexes a.file.now a.base 2 a.n))).1

pub utf7_answer_spec : {M : Type 1} → statement M
utf7_answer_spec =
    tie.close
    (tie.spec
    invariant-loop
    decreases-loop
    loop-holds
    mul-byte-at
    add-byte-at
    byte-at-requires
    byte-does-requires
    enum-known-state
    add-count
    add_at
    loop-less
    loop-again
    enum-known-state-2
    add-at-2
    loop-less-2
    loop-again-2
    enum-known-why
    returns
    ends-in-requires
    returns-2)
