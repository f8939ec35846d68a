use mathlib.Core.Path.{sym, ◌∙◌}
use mathlib.Core.Bool.{false≢true}
use native.Mathlib.Omega.{arith}
use borrow.Author.Rules.{rules}
use Rattle.jp2_whole.proofs.quick.is_pair.Statement.{statement}
use Rattle.jp2_whole.proofs.quick.is_pair.Tie as tie

add-if1 : tie.Need-overflow_add-at
add-if1 c = search rules

returns : tie.Need-returns-then-text-at
returns c = λ e. absurd (false≢true e)

shared-slice-read-is-code : tie.Need-bounds-text-at
shared-slice-read-is-code c = search rules

is-code-requires : tie.Need-is_code-requires
is-code-requires c κs = search rules

add-is-code : tie.Need-overflow_add-at-then-is_code
add-is-code c = search rules

shared-slice-read-is-code-2 : tie.Need-bounds-text-at-then-is_code
shared-slice-read-is-code-2 c = search rules

is-code-requires-2 : tie.Need-is_code-requires-then-is_code
is-code-requires-2 c κs = search rules

returns-2 : tie.Need-returns-then-is_code
returns-2 c =
    λ e.
    record {
      within = omega (arith, c.if-text-at.false);
      codes = rw (sym c.is_code.ensures ∙ c.if-is_code.true) (sym c.is_code-then-is_code.ensures ∙ e);
    }

returns-3 : tie.Need-returns
returns-3 c = λ e. absurd (false≢true e)

pub is_pair_spec : {M : Type 1} → statement M
is_pair_spec =
    tie.close
    (tie.spec
    add-if1
    returns
    shared-slice-read-is-code
    is-code-requires
    add-is-code
    shared-slice-read-is-code-2
    is-code-requires-2
    returns-2
    returns-3)
