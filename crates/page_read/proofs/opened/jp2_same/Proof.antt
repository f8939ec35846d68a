use Prim.Native.Nat.{◌-◌}
use mathlib.Core.Path.{sym, ap, ◌∙◌}
use native.Mathlib.Omega.{arith}
use lib.Dec.{eqb}
use Rattle.scan.specs.Inner.{hexes_at}
use Rattle.reading.proofs.Matches.{Matching, matching-start, matching-give, matching-other, matching-past, matching-go}
use Rattle.reading.proofs.Matches.{matching-bad, matching-refused, matching-accepted}
use Rattle.jp2.specs.Rule.{jp2}
use Rattle.jp2_read.specs.Cursor.{state_of}
use Rattle.jp2_read.proofs.Moves.{moved}
use Rattle.jp2.proofs.Kept.{ends-sound}
use Rattle.page_read.proofs.Values.{at_byte, hexes-at, length-hexes}
use borrow.Author.Rules.{rules}
use Rattle.page_read.proofs.opened.jp2_same.Statement.{statement}
use Rattle.page_read.proofs.opened.jp2_same.Tie as tie

abbrev invariant-loop : tie.invariant-loop-at
invariant-loop file base n text m at₀ count₀ st₀ at count st = Matching jp2 (hexes_at file base 2 n) (hexes_at file text 8 m)
    at (state_of st) count

abbrev decreases-loop : tie.decreases-loop-at
decreases-loop file base n text m at₀ count₀ st₀ at count st = n - at

begin-requires : tie.Need-begin-st-requires invariant-loop decreases-loop
begin-requires c κs = search rules

loop-holds : tie.Need-loop-at-init invariant-loop decreases-loop
loop-holds c =
    let begin' = c.begin-st in
    rw begin'.ensures (matching-start jp2 _ _)

mul-byte-at : tie.Need-overflow_mul-at invariant-loop decreases-loop
mul-byte-at c = search rules

add-byte-at : tie.Need-overflow_add-base invariant-loop decreases-loop
add-byte-at c = search rules

byte-at-requires : tie.Need-byte_at-b-requires invariant-loop decreases-loop
byte-at-requires c κs = search rules

feed-requires : tie.Need-feed-requires invariant-loop decreases-loop
feed-requires c κs = search rules

enum-known-value : tie.Need-enum_known-value invariant-loop decreases-loop
enum-known-value c = search rules

returns : tie.Need-returns-then-m-count invariant-loop decreases-loop
returns c =
    let a = c.args in
    let l = c.loop-at in
    let byte-at' = c.byte_at-b in
    let feed' = c.feed in
    matching-past l.invariant (omega (arith, length-hexes a.file.now a.base 2 a.n))
    (at_byte jp2 (state_of l.st) (hexes-at a.file.now a.base 2 a.n l.at (omega arith) ∙ sym
    byte-at'.ensures) (moved feed'.ensures c.in-Give.is))
    (omega (arith, length-hexes a.file.now a.text 8 a.m))

mul-word-at : tie.Need-overflow_mul-count invariant-loop decreases-loop
mul-word-at c = search rules

add-word-at : tie.Need-overflow_add-text invariant-loop decreases-loop
add-word-at c = search rules

word-at-requires : tie.Need-word_at-requires invariant-loop decreases-loop
word-at-requires c κs = search rules

returns-2 : tie.Need-returns-then-word_at-value invariant-loop decreases-loop
returns-2 c =
    let a = c.args in
    let l = c.loop-at in
    let byte-at' = c.byte_at-b in
    let feed' = c.feed in
    let word-at' = c.word_at in
    matching-other l.invariant (omega (arith, length-hexes a.file.now a.base 2 a.n))
    (at_byte jp2 (state_of l.st) (hexes-at a.file.now a.base 2 a.n l.at (omega arith) ∙ sym
    byte-at'.ensures) (moved feed'.ensures c.in-Give.is))
    (omega (arith, length-hexes a.file.now a.text 8 a.m))
    (λ q. c.if-word_at-value.true (word-at'.ensures ∙ sym (hexes-at a.file.now a.text 8 a.m l.count
    (omega arith)) ∙ q))

add-count : tie.Need-overflow_add-count invariant-loop decreases-loop
add-count c =
    let l = c.loop-at in
    omega (arith, l.invariant.few)

add_at : tie.Need-overflow_add-at invariant-loop decreases-loop
add_at c = search rules

loop-less : tie.Need-loop-at-smaller-in-Give invariant-loop decreases-loop
loop-less c = search rules

loop-again : tie.Need-loop-at-preserved-in-Give invariant-loop decreases-loop
loop-again c =
    let a = c.args in
    let l = c.loop-at in
    let byte-at' = c.byte_at-b in
    let feed' = c.feed in
    let word-at' = c.word_at in
    matching-give l.invariant (omega (arith, length-hexes a.file.now a.base 2 a.n))
    (at_byte jp2 (state_of l.st) (hexes-at a.file.now a.base 2 a.n l.at (omega arith) ∙ sym
    byte-at'.ensures) (moved feed'.ensures c.in-Give.is))
    (omega (arith, length-hexes a.file.now a.text 8 a.m))
    (hexes-at a.file.now a.text 8 a.m l.count (omega arith) ∙ sym word-at'.ensures ∙ c.if-word_at-value.false)

enum-known-state : tie.Need-enum_known-state invariant-loop decreases-loop
enum-known-state c = search rules

add-at-2 : tie.Need-overflow_add-at-in-Go invariant-loop decreases-loop
add-at-2 c = search rules

loop-less-2 : tie.Need-loop-at-smaller invariant-loop decreases-loop
loop-less-2 c = search rules

loop-again-2 : tie.Need-loop-at-preserved invariant-loop decreases-loop
loop-again-2 c =
    let a = c.args in
    let l = c.loop-at in
    let byte-at' = c.byte_at-b in
    let feed' = c.feed in
    matching-go l.invariant (omega (arith, length-hexes a.file.now a.base 2 a.n))
    (at_byte jp2 (state_of l.st) (hexes-at a.file.now a.base 2 a.n l.at (omega arith) ∙ sym
    byte-at'.ensures) (moved feed'.ensures c.in-Go.is))

enum_told : tie.Need-enum_told-1 invariant-loop decreases-loop
enum_told c = search rules

returns-3 : tie.Need-returns-in-Bad invariant-loop decreases-loop
returns-3 c =
    let a = c.args in
    let l = c.loop-at in
    let byte-at' = c.byte_at-b in
    let feed' = c.feed in
    matching-bad l.invariant (omega (arith, length-hexes a.file.now a.base 2 a.n))
    (at_byte jp2 (state_of l.st) (hexes-at a.file.now a.base 2 a.n l.at (omega arith) ∙ sym
    byte-at'.ensures) (moved feed'.ensures c.in-Bad.is))

finish-requires : tie.Need-finish-requires invariant-loop decreases-loop
finish-requires c κs = search rules

enum-told-2 : tie.Need-enum_told-in-Ok invariant-loop decreases-loop
enum-told-2 c = search rules

enum-told-3 : tie.Need-enum_told-in-Err invariant-loop decreases-loop
enum-told-3 c = search rules

returns-4 : tie.Need-returns-in-Ok invariant-loop decreases-loop
returns-4 c =
    let a = c.args in
    let l = c.loop-at in
    let finish' = c.finish in
    ap (eqb l.count) (sym (length-hexes a.file.now a.text 8 a.m)) ∙
    (matching-accepted l.invariant (omega (arith, length-hexes a.file.now a.base 2 a.n)) _ (ends-sound _ _)
    finish'.ensures c.in-Ok.is)

returns-5 : tie.Need-returns-in-Err invariant-loop decreases-loop
returns-5 c =
    let a = c.args in
    let l = c.loop-at in
    let finish' = c.finish in
    matching-refused l.invariant (omega (arith, length-hexes a.file.now a.base 2 a.n)) _ finish'.ensures
    c.in-Err.is

pub jp2_same_spec : {M : Type 1} → statement M
jp2_same_spec =
    tie.close
    (tie.spec
    invariant-loop
    decreases-loop
    begin-requires
    loop-holds
    mul-byte-at
    add-byte-at
    byte-at-requires
    feed-requires
    enum-known-value
    returns
    mul-word-at
    add-word-at
    word-at-requires
    returns-2
    add-count
    add_at
    loop-less
    loop-again
    enum-known-state
    add-at-2
    loop-less-2
    loop-again-2
    enum_told
    returns-3
    finish-requires
    enum-told-2
    enum-told-3
    returns-4
    returns-5)
