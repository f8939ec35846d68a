use mathlib.Core.Path.{sym, ◌∙◌}
use mathlib.Core.Bool.{false≢true}
use native.Mathlib.Omega.{arith}
use borrow.Author.Rules.{rules}
use Rattle.jp2_whole.proofs.quick.is_shift.Statement.{statement}
use Rattle.jp2_whole.proofs.quick.is_shift.Tie as tie

add-if1 : tie.Need-overflow_add-at
add-if1 c = search rules

returns : tie.Need-returns-then-text-at
returns c = λ e. absurd (false≢true e)

add-if2 : tie.Need-overflow_add-at-2
add-if2 c = search rules

shared-slice-read-if2 : tie.Need-bounds-text-at
shared-slice-read-if2 c = search rules

returns-2 : tie.Need-returns-then-text-at-ne78
returns-2 c = λ e. absurd (false≢true e)

add-is-shifted : tie.Need-overflow_add-at-3
add-is-shifted c = search rules

shared-slice-read-is-shifted : tie.Need-bounds-text-at-2
shared-slice-read-is-shifted c = search rules

is-shifted-requires : tie.Need-is_shifted-requires
is-shifted-requires c κs = search rules

returns-3 : tie.Need-returns
returns-3 c = λ e. record { within = omega (arith, c.if-text-at.false); letter = c.if-text-at-ne78.false; code = sym c.is_shifted.ensures ∙ e }

pub is_shift_spec : {M : Type 1} → statement M
is_shift_spec =
    tie.close
    (tie.spec
    add-if1
    returns
    add-if2
    shared-slice-read-if2
    returns-2
    add-is-shifted
    shared-slice-read-is-shifted
    is-shifted-requires
    returns-3)
