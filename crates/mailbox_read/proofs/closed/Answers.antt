use Rattle.mailbox_read.proofs.Passing.{leads-closed}
use Rattle.mailbox_read.proofs.closed.Goals as goal

pub returns-then-closes : goal.returns-then-closes
returns-then-closes c =
    let e = c.closes.ensures c.if-closes.true in
    rw c.in-Run.is (leads-closed e.0 (rw c.in-Run.is at c.requires) e.1 e.2 e.3)
