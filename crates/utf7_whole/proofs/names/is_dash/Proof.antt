use lib.ListN.{get_or-eq_default}
use borrow.Author.Rules.{rules}
use Rattle.utf7_whole.proofs.names.is_dash.Statement.{statement}
use Rattle.utf7_whole.proofs.names.is_dash.Tie as tie

returns : tie.Need-returns-then-text-at
returns c = rw (get_or-eq_default c.args.text.now 0 c.if-text-at.true)

shared-slice-read-result : tie.Need-bounds-text-at
shared-slice-read-result c = search rules

returns-2 : tie.Need-returns
returns-2 c = search rules

pub is_dash_spec : {M : Type 1} → statement M
is_dash_spec = tie.close (tie.spec returns shared-slice-read-result returns-2)
