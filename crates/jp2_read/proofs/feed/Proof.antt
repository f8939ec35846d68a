use borrow.Author.Tests.{lt-ltb, le-ltb}
use borrow.Author.Rules.{rules}
use Rattle.jp2.specs.Rule.{byte_does}
use Rattle.jp2_read.proofs.feed.Statement.{statement}
use Rattle.jp2_read.proofs.feed.Tie as tie

low-requires : tie.Need-low-requires
low-requires c κs = search rules

returns : tie.Need-returns-then-b-lt128
unfolding byte_does
returns c = rw (lt-ltb _ _ c.if-b-lt128.true) c.low.ensures

returns-2 : tie.Need-returns
unfolding byte_does
returns-2 c = rw (le-ltb _ _ c.if-b-lt128.false)

pub feed_spec : {M : Type 1} → statement M
feed_spec = tie.close (tie.spec low-requires returns returns-2)
