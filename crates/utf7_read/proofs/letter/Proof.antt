use native.Mathlib.Omega.{arith}
use lib.Pow.{pow_pos, pow-lt}
use borrow.Author.Rules.{rules}
use Rattle.bits.proofs.Bits.{power_small}
use Rattle.utf7_read.proofs.Moves.{letter-go, letter-give}
use Rattle.utf7_read.proofs.letter.Statement.{statement}
use Rattle.utf7_read.proofs.letter.Tie as tie

mul-all : tie.Need-overflow_mul-all
mul-all c = omega (arith, pow-lt c.requires.0)

add-all : tie.Need-overflow_add-all
add-all c = omega (arith, pow-lt c.requires.0)

add-t9 : tie.Need-overflow_add-result
add-t9 c = search rules

returns : tie.Need-returns-then-n-lt10
returns c = let p = c.requires in letter-go _ _ _ p.0 p.1 p.2 c.if-n-lt10.true

power-requires : tie.Need-power-w-requires
power-requires c κs = search rules

div-t7 : tie.Need-nonzero_div-result
div-t7 c = rw c.power-w.ensures (pow_pos _)

rem-t11 : tie.Need-nonzero_rem-result
rem-t11 c = rw c.power-w.ensures (pow_pos _)

returns-2 : tie.Need-returns
returns-2 c =
    let p = c.requires in
    rw (power_small _ _ c.power-w.ensures (omega arith)) (letter-give _ _ _ p.0 p.1 p.2 c.if-n-lt10.false)

pub letter_spec : {M : Type 1} → statement M
letter_spec =
    tie.close (tie.spec mul-all add-all add-t9 returns power-requires div-t7 rem-t11 returns-2)
