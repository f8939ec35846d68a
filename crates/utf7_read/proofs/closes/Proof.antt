use mathlib.Core.Path.{◌∙◌, sym}
use mathlib.Core.Bool.{false≢true}
use borrow.Author.Rules.{rules}
use Rattle.utf7_read.proofs.closes.Statement.{statement}
use Rattle.utf7_read.proofs.closes.Tie as tie

shared-slice-read-if2 : tie.Need-bounds-text-at
shared-slice-read-if2 c = search rules

may-end-requires : tie.Need-may_end-requires
may-end-requires c κs = search rules

returns : tie.Need-returns-then-text-at-eq45
returns c = λ e. (c.if-at-text.true, c.if-text-at-eq45.true, sym c.may_end.ensures ∙ e)

returns-2 : tie.Need-returns-else-text-at-eq45
returns-2 c = λ e. absurd (false≢true e)

returns-3 : tie.Need-returns-else-at-text
returns-3 c = λ e. absurd (false≢true e)

pub closes_spec : {M : Type 1} → statement M
closes_spec =
    tie.close (tie.spec shared-slice-read-if2 may-end-requires returns returns-2 returns-3)
