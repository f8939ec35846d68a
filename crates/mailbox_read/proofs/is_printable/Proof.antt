use borrow.Author.Tests.{le-leb, lt-leb}
use Rattle.mailbox_read.proofs.is_printable.Statement.{statement}
use Rattle.mailbox_read.proofs.is_printable.Tie as tie

returns : tie.Need-returns-then-u-lt32
returns c = simp (lt-leb _ _ c.if-u-lt32.true)

returns-2 : tie.Need-returns
returns-2 c = simp (le-leb _ _ c.if-u-lt32.false)

pub is_printable_spec : {M : Type 1} → statement M
is_printable_spec = tie.close (tie.spec returns returns-2)
