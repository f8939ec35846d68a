use Rattle.utf7_read.specs.Cursor.{Settled}
use Rattle.utf7_read.specs.declared.State.TheVariants.{Run}
use Rattle.utf7_read.proofs.Passing.{leads-closed}
use Rattle.utf7_read.proofs.closed.Goals as goal

pub returns-then-closes : goal.returns-then-closes
returns-then-closes c =
    let h : Settled (Run c.in-Run.n c.in-Run.v) = rw c.in-Run.is at c.requires in
    let e = c.closes.ensures c.if-closes.true in
    rw c.in-Run.is (leads-closed e.0 h.0 e.1 e.2)
