use mathlib.Core.Path.{sym}
use mathlib.Core.Bool.{false≢true}
use Rattle.alphabet.specs.Letters.{set_b}
use borrow.Author.Rules.{rules}
use Rattle.mailbox_read.proofs.opens.Statement.{statement}
use Rattle.mailbox_read.proofs.opens.Tie as tie

shared-slice-read-if2 : tie.Need-bounds-text-at
shared-slice-read-if2 c = search rules

add-if3 : tie.Need-overflow_add-at
add-if3 c = search rules

add-value-of : tie.Need-overflow_add-at-then-at-text-2
add-value-of c = search rules

shared-slice-read-value-of : tie.Need-bounds-text-at-then-at-text-2
shared-slice-read-value-of c = search rules

value-of-requires : tie.Need-value_of-requires
value-of-requires c κs = search rules

returns : tie.Need-returns-then-at-text-2
unfolding set_b
returns c = λ e. (c.if-at-text-2.true, c.if-text-at-eq38.true, rw (sym c.value_of.ensures) e)

returns-2 : tie.Need-returns-else-at-text-2
returns-2 c = λ e. absurd (false≢true e)

returns-3 : tie.Need-returns-else-text-at-eq38
returns-3 c = λ e. absurd (false≢true e)

returns-4 : tie.Need-returns-else-at-text
returns-4 c = λ e. absurd (false≢true e)

pub opens_spec : {M : Type 1} → statement M
opens_spec =
    tie.close
    (tie.spec
    shared-slice-read-if2
    add-if3
    add-value-of
    shared-slice-read-value-of
    value-of-requires
    returns
    returns-2
    returns-3
    returns-4)
