use Rattle.encoded_word_read.proofs.Texts.{pair-over, pair-in, char-over, char-in}
use mathlib.Core.Path.{sym, ◌∙◌}
use Rattle.utf7_read.proofs.Moves.{byte-moves}
use Rattle.encoded_word.specs.Rule.{text_does}
use borrow.Author.Tests.{eq-eqb, ne_eqb}
use borrow.Author.Rules.{rules}
use Rattle.encoded_word_read.proofs.in_text.Statement.{statement}
use Rattle.encoded_word_read.proofs.in_text.Tie as tie

returns : tie.Need-returns-then-n-eq0
unfolding text_does
returns c = rw (eq-eqb _ _ c.if-b-eq63.true, eq-eqb _ _ c.if-n-eq0.true)

word-end-requires : tie.Need-word_end-requires
word-end-requires c κs = search rules

returns-2 : tie.Need-returns-then-b-eq63
unfolding text_does
returns-2 c = rw (eq-eqb _ _ c.if-b-eq63.true, ne_eqb _ _ c.if-n-eq0.false) c.word_end.ensures

returns-3 : tie.Need-returns-then-n-gt60
unfolding text_does
returns-3 c =
    rw (ne_eqb _ _ c.if-b-eq63.false, eq-eqb _ _ c.if-b-eq61.true, pair-over _ c.if-n-gt60.true)

add-t9 : tie.Need-overflow_add-result
add-t9 c = search rules

returns-4 : tie.Need-returns-then-b-eq61
unfolding text_does
returns-4 c =
    rw (ne_eqb _ _ c.if-b-eq63.false, eq-eqb _ _ c.if-b-eq61.true, pair-in _ c.if-n-gt60.false)

returns-5 : tie.Need-returns-then-n-gt62
unfolding text_does
returns-5 c =
    rw (ne_eqb _ _ c.if-b-eq63.false, ne_eqb _ _ c.if-b-eq61.false, char-over _ c.if-n-gt62.true)

add-of-char : tie.Need-overflow_add-n
add-of-char c = search rules

byte-does-requires : tie.Need-byte_does-requires
byte-does-requires c κs = search rules

of-char-requires : tie.Need-of_char-requires
of-char-requires c κs = search rules

returns-6 : tie.Need-returns-then-b-eq95
unfolding text_does
returns-6 c =
    let m =
    byte-moves c.args.st 32 {r = c.byte_does.result}
    c.byte_does.ensures in
    rw (ne_eqb _ _ c.if-b-eq63.false, ne_eqb _ _ c.if-b-eq61.false, char-in _ c.if-n-gt62.false, eq-eqb _ _ c.if-b-eq95.true, ← m.so) c.of_char.ensures

is-itself-requires : tie.Need-is_itself-requires
is-itself-requires c κs = search rules

add-of-char-2 : tie.Need-overflow_add-n-then-is_itself
add-of-char-2 c = search rules

byte-does-requires-2 : tie.Need-byte_does-requires-then-is_itself
byte-does-requires-2 c κs = search rules

of-char-requires-2 : tie.Need-of_char-requires-then-is_itself
of-char-requires-2 c κs = search rules

returns-7 : tie.Need-returns-then-is_itself
unfolding text_does
returns-7 c =
    let m =
    byte-moves c.args.st
    c.args.b {r = c.byte_does-then-is_itself.result}
    c.byte_does-then-is_itself.ensures in
    rw (ne_eqb _ _ c.if-b-eq63.false, ne_eqb _ _ c.if-b-eq61.false, char-in _ c.if-n-gt62.false, ne_eqb _ _ c.if-b-eq95.false, sym c.is_itself.ensures ∙ c.if-is_itself.true, ← m.so) c.of_char-then-is_itself.ensures

returns-8 : tie.Need-returns
unfolding text_does
returns-8 c =
    rw (ne_eqb _ _ c.if-b-eq63.false, ne_eqb _ _ c.if-b-eq61.false, char-in _ c.if-n-gt62.false, ne_eqb _ _ c.if-b-eq95.false, sym c.is_itself.ensures ∙ c.if-is_itself.false)

pub in_text_spec : {M : Type 1} → statement M
in_text_spec =
    tie.close
    (tie.spec
    returns
    word-end-requires
    returns-2
    returns-3
    add-t9
    returns-4
    returns-5
    add-of-char
    byte-does-requires
    of-char-requires
    returns-6
    is-itself-requires
    add-of-char-2
    byte-does-requires-2
    of-char-requires-2
    returns-7
    returns-8)
