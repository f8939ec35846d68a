use borrow.Author.Tests.{lt-ltb, le-ltb}
use Rattle.mailbox.specs.Rule.{byte_does}
use Rattle.mailbox_read.proofs.StateDecoder.feed.Goals as goal

pub returns-then-b-lt128 : goal.returns-then-b-lt128
unfolding byte_does
returns-then-b-lt128 c = simp (lt-ltb _ _ c.if-b-lt128.true) (rw c.settled.ensures.1 at c.low.ensures)

pub returns : goal.returns
unfolding byte_does
returns c = record { so = simp (le-ltb _ _ c.if-b-lt128.false); settled = tt }
