use Prim.Native.Nat.{◌-◌}
use lib.ListN.{length, length-set}
use native.Mathlib.Omega.{arith}
use mathlib.Core.Path.{◌≡◌, refl}
use Prim.Native.Nat.{◌<◌}
use Rattle.encoded_word_read.specs.Words.{Unspells, SpellsAt}
use Rattle.encoded_word_read.proofs.Words.{unspells-start, unspells-next}
use borrow.Author.Rules.{rules}
use Rattle.encoded_word_read.proofs.unspell.Statement.{statement}
use Rattle.encoded_word_read.proofs.unspell.Tie as tie

abbrev invariant-loop : tie.invariant-loop-at
invariant-loop line from bytes₀ at₀ n₀ bytes at n = Unspells line from at bytes n × (length bytes ≡ length bytes₀)

abbrev decreases-loop : tie.decreases-loop-at
decreases-loop line from bytes₀ at₀ n₀ bytes at n = length line - at

some : (c : tie.Else-size-eq0 invariant-loop decreases-loop) → 0 < c.char_at-c.result.size
some c = omega (arith, c.if-size-eq0.false)

-- what stands at the place
spelt :
    (c : tie.Else-size-eq0 invariant-loop decreases-loop) →
    let l = c.before.before.before in
    let r = c.char_at-c.result in
    SpellsAt l.args.line.now l.loop-at.at r.size r.byte
spelt c = c.char_at-c.ensures (some c)

loop-holds : tie.Need-loop-at-init invariant-loop decreases-loop
loop-holds c = (unspells-start _ _ _ c.requires.0 c.requires.1, refl)

char-at-requires : tie.Need-char_at-c-requires invariant-loop decreases-loop
char-at-requires c κs = search rules

same_length : tie.Need-shape_of-bytes-then-size-eq0 invariant-loop decreases-loop
same_length c = c.loop-at.invariant.1

returns : tie.Need-returns-then-size-eq0 invariant-loop decreases-loop
returns c = c.loop-at.invariant.0

sub-if2 : tie.Need-overflow_sub-at invariant-loop decreases-loop
sub-if2 c = omega (arith, c.loop-at.invariant.0.after)

add-if2 : tie.Need-overflow_add-at invariant-loop decreases-loop
add-if2 c =
    let l = c.loop-at.invariant.0 in
    omega (arith, l.after, (spelt (c)).within)

same-length-2 : tie.Need-shape_of-bytes-then-at-from-gt63 invariant-loop decreases-loop
same-length-2 c = c.loop-at.invariant.1

returns-2 : tie.Need-returns-then-at-from-gt63 invariant-loop decreases-loop
returns-2 c = c.loop-at.invariant.0

slice-write-bytes : tie.Need-bounds-bytes-n invariant-loop decreases-loop
slice-write-bytes c =
    let l = c.loop-at.invariant.0 in
    omega (arith, l.count, l.room, c.if-at-from-gt63.false, some c.before)

add-n : tie.Need-overflow_add-n invariant-loop decreases-loop
add-n c = search rules

add_at : tie.Need-overflow_add-at-in-loop-at invariant-loop decreases-loop
add_at c = omega (arith, (spelt c.before).within)

loop-less : tie.Need-loop-at-smaller invariant-loop decreases-loop
loop-less c = omega (arith, (spelt c.before).within, some c.before, c.loop-at-test.true)

loop-again : tie.Need-loop-at-preserved invariant-loop decreases-loop
loop-again c =
    let l = c.loop-at in
    let e = c.before in
    (unspells-next _ _ _ _ _ l.invariant.0 (spelt e) (some e) c.if-at-from-gt63.false, simp length-set l.invariant.1)

same-length-3 : tie.Need-shape_of-bytes invariant-loop decreases-loop
same-length-3 c = c.loop-at.invariant.1

returns-3 : tie.Need-returns invariant-loop decreases-loop
returns-3 c = c.loop-at.invariant.0

pub unspell_spec : {M : Type 1} → statement M
unspell_spec =
    tie.close
    (tie.spec
    invariant-loop
    decreases-loop
    loop-holds
    char-at-requires
    same_length
    returns
    sub-if2
    add-if2
    same-length-2
    returns-2
    slice-write-bytes
    add-n
    add_at
    loop-less
    loop-again
    same-length-3
    returns-3)
