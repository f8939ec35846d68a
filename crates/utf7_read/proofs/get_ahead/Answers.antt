use Rattle.reading.proofs.Decoding.{gets-on}
use Rattle.utf7_read.proofs.Passing.{gets-alone}
use Rattle.utf7_read.proofs.get_ahead.Goals as goal

pub returns-then-is_alone : goal.returns-then-is_alone
returns-then-is_alone c =
    let e = c.is_alone.ensures c.if-is_alone.true in
    rw c.mark.ensures (gets-on (rw e.0 at c.closed-at.ensures) (gets-alone e.1 e.2))
