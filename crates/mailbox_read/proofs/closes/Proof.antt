use mathlib.Core.Bool.{false≢true}
use borrow.Author.Tests.{ltb-true}
use borrow.Author.Rules.{rules}
use Rattle.mailbox_read.proofs.closes.Statement.{statement}
use Rattle.mailbox_read.proofs.closes.Tie as tie

shared-slice-read-if2 : tie.Need-bounds-text-at
shared-slice-read-if2 c = search rules

returns : tie.Need-returns-then-v-eq0
returns c = λ e. (c.if-at-text.true, c.if-text-at-eq45.true, c.if-v-eq0.true, ltb-true _ _ e)

returns-2 : tie.Need-returns-else-v-eq0
returns-2 c = λ e. absurd (false≢true e)

returns-3 : tie.Need-returns-else-text-at-eq45
returns-3 c = λ e. absurd (false≢true e)

returns-4 : tie.Need-returns-else-at-text
returns-4 c = λ e. absurd (false≢true e)

pub closes_spec : {M : Type 1} → statement M
closes_spec = tie.close (tie.spec shared-slice-read-if2 returns returns-2 returns-3 returns-4)
