use Prim.Native.Nat.{◌+◌, ◌*◌, ◌%◌}
use Rattle.utf7_read.proofs.Moves.{byte-moves}
use native.Mathlib.Nat.{mul_comm}
use Rattle.encoded_word_read.proofs.Texts.{digit-none, digit-some}
use Rattle.encoded_word.specs.Rule.{part_does}
use borrow.Author.Rules.{rules}
use Rattle.encoded_word_read.proofs.in_pair.Statement.{statement}
use Rattle.encoded_word_read.proofs.in_pair.Tie as tie

digit-value-requires : tie.Need-digit_value-v-requires
digit-value-requires c κs = search rules

returns : tie.Need-returns-then-v-gt15
unfolding part_does
returns c = rw (← c.digit_value-v.ensures, digit-none _ c.if-v-gt15.true)

mul-byte-does : tie.Need-overflow_mul-d
mul-byte-does c = search rules

add-byte-does : tie.Need-overflow_add-d
add-byte-does c = search rules

byte-does-requires : tie.Need-byte_does-requires
byte-does-requires c κs = search rules

of-pair-requires : tie.Need-of_pair-requires
of-pair-requires c κs = search rules

returns-2 : tie.Need-returns
unfolding part_does
returns-2 c =
    let a = c.args in
    let v = c.digit_value-v.result in
    let m =
    byte-moves a.st (a.d % 16 * 16 + v) {r = c.byte_does.result} c.byte_does.ensures in
    rw (← c.digit_value-v.ensures, digit-some _ c.if-v-gt15.false, mul_comm 16 (a.d % 16), ← m.so) c.of_pair.ensures

pub in_pair_spec : {M : Type 1} → statement M
in_pair_spec =
    tie.close
    (tie.spec
    digit-value-requires
    returns
    mul-byte-does
    add-byte-does
    byte-does-requires
    of-pair-requires
    returns-2)
