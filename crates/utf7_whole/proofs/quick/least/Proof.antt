use borrow.Author.Tests.{lt-ltb, le-ltb}
use Rattle.utf7_whole.proofs.quick.least.Statement.{statement}
use Rattle.utf7_whole.proofs.quick.least.Tie as tie

returns : tie.Need-returns-then-b-a
returns c = rw (lt-ltb _ _ c.if-b-a.true)

returns-2 : tie.Need-returns
returns-2 c = rw (le-ltb _ _ c.if-b-a.false)

pub least_spec : {M : Type 1} → statement M
least_spec = tie.close (tie.spec returns returns-2)
