use Rattle.reading.proofs.Decoding.{gets-on}
use Rattle.mailbox_read.proofs.Passing.{gets-alone}
use Rattle.mailbox_read.proofs.get_ahead.Goals as goal

pub returns-then-is_alone : goal.returns-then-is_alone
returns-then-is_alone c =
    let e = c.is_alone.ensures c.if-is_alone.true in
    rw c.mark.ensures (gets-on c.closed-at.ensures (gets-alone e.1 _ e.0 e.2 e.3))
