use mathlib.Core.Path.{◌∙◌, sym}
use native.Mathlib.Omega.{arith}
use lib.Pow.{pow_pos, pow-lt}
use borrow.Author.Rules.{rules}
use Rattle.bits.proofs.Bits.{power_small}
use Rattle.mailbox_read.proofs.Moves.{letter-go, letter-needless, letter-give}
use Rattle.mailbox_read.proofs.letter.Statement.{statement}
use Rattle.mailbox_read.proofs.letter.Tie as tie

mul-all : tie.Need-overflow_mul-all
mul-all c = omega (arith, pow-lt c.requires.0)

add-all : tie.Need-overflow_add-all
add-all c = omega (arith, pow-lt c.requires.0)

add-t10 : tie.Need-overflow_add-result
add-t10 c = search rules

returns : tie.Need-returns-then-n-lt10
returns c = let p = c.requires in letter-go _ _ _ p.0 p.1 p.2 c.if-n-lt10.true

power-requires : tie.Need-power-w-requires
power-requires c κs = search rules

div-unit : tie.Need-nonzero_div-unit
div-unit c = rw c.power-w.ensures (pow_pos _)

is-printable-requires : tie.Need-is_printable-requires
is-printable-requires c κs = search rules

returns-2 : tie.Need-returns-then-is_printable
returns-2 c =
    let d = c.before.before in
    let p = d.requires in
    let w = power_small _ _ d.power-w.ensures (omega arith) in
    letter-needless _ _ _ p.0 p.1 p.2 d.if-n-lt10.false (rw w at (sym c.is_printable.ensures ∙ c.if-is_printable.true))

rem-t8 : tie.Need-nonzero_rem-result
rem-t8 c = rw c.power-w.ensures (pow_pos _)

returns-3 : tie.Need-returns
returns-3 c =
    let d = c.before.before in
    let p = d.requires in
    let w = power_small _ _ d.power-w.ensures (omega arith) in
    rw w (letter-give _ _ _ p.0 p.1 p.2 d.if-n-lt10.false (rw w at (sym c.is_printable.ensures ∙ c.if-is_printable.false)))

pub letter_spec : {M : Type 1} → statement M
letter_spec =
    tie.close
    (tie.spec
    mul-all
    add-all
    add-t10
    returns
    power-requires
    div-unit
    is-printable-requires
    returns-2
    rem-t8
    returns-3)
