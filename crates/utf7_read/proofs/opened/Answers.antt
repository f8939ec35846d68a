use Rattle.utf7_read.proofs.Passing.{leads-opened}
use Rattle.utf7_read.proofs.opened.Goals as goal

pub returns-then-opens : goal.returns-then-opens
returns-then-opens c = let e = c.opens.ensures c.if-opens.true in rw c.in-Outside.is (leads-opened e.0 e.1 e.2)
