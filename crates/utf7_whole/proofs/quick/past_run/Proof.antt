use lib.ListN.{get_or-eq_default}
use borrow.Author.Rules.{rules}
use borrow.Author.Tests.{eq-eqb, ne_eqb}
use Rattle.utf7_whole.proofs.quick.past_run.Statement.{statement}
use Rattle.utf7_whole.proofs.quick.past_run.Tie as tie

returns : tie.Need-returns-then-text-to
returns c = rw (get_or-eq_default c.args.text.now 0 c.if-text-to.true)

shared-slice-read-if2 : tie.Need-bounds-text-to
shared-slice-read-if2 c = search rules

add-result : tie.Need-overflow_add-result
add-result c = search rules

returns-2 : tie.Need-returns-then-text-to-eq45
returns-2 c = simp (eq-eqb _ _ c.if-text-to-eq45.true)

returns-3 : tie.Need-returns
returns-3 c = simp (ne_eqb _ _ c.if-text-to-eq45.false)

pub past_run_spec : {M : Type 1} → statement M
past_run_spec = tie.close (tie.spec returns shared-slice-read-if2 add-result returns-2 returns-3)
