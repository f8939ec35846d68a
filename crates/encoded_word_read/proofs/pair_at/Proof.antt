use Rattle.encoded_word_read.proofs.Words.{pair-at}
use native.Mathlib.Omega.{arith}
use mathlib.Core.Path.{refl, sym}
use borrow.Author.Rules.{rules}
use Rattle.encoded_word_read.proofs.pair_at.Statement.{statement}
use Rattle.encoded_word_read.proofs.pair_at.Tie as tie

sub-if1 : tie.Need-overflow_sub-line
sub-if1 c = search rules

returns : tie.Need-returns-then-line-at-lt3
returns c = λ h. absurd (omega (arith, h))

add-digit-value : tie.Need-overflow_add-at
add-digit-value c = omega (arith, c.if-line-at-lt3.false, c.requires.0)

shared-slice-read-digit-value : tie.Need-bounds-line-at
shared-slice-read-digit-value c = search rules

digit-value-requires : tie.Need-digit_value-d-requires
digit-value-requires c κs = search rules

add-digit-value-2 : tie.Need-overflow_add-at-2
add-digit-value-2 c = search rules

shared-slice-read-digit-value-2 : tie.Need-bounds-line-at-2
shared-slice-read-digit-value-2 c = search rules

digit-value-requires-2 : tie.Need-digit_value-e-requires
digit-value-requires-2 c κs = search rules

returns-2 : tie.Need-returns-then-d-gt15
returns-2 c = λ h. absurd (omega (arith, h))

returns-3 : tie.Need-returns-then-e-gt15
returns-3 c = λ h. absurd (omega (arith, h))

mul-t9 : tie.Need-overflow_mul-result
mul-t9 c = search rules

add-t11 : tie.Need-overflow_add-result
add-t11 c = search rules

returns-4 : tie.Need-returns
returns-4 c =
    let s = c in
    let d = c.digit_value-d in
    let e = c.digit_value-e in
    let i = c.if-line-at-lt3.false in
    λ _. pair-at s.args.line.now s.args.at d.result e.result _ (omega (arith, i, s.requires.0)) s.requires.1
    (sym d.ensures) (sym e.ensures) c.if-d-gt15.false c.if-e-gt15.false refl

pub pair_at_spec : {M : Type 1} → statement M
pair_at_spec =
    tie.close
    (tie.spec
    sub-if1
    returns
    add-digit-value
    shared-slice-read-digit-value
    digit-value-requires
    add-digit-value-2
    shared-slice-read-digit-value-2
    digit-value-requires-2
    returns-2
    returns-3
    mul-t9
    add-t11
    returns-4)
