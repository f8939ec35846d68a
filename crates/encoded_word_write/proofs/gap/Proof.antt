use borrow.Author.Tests.{lt-ltb, le-ltb}
use Rattle.encoded_word_write.proofs.gap.Statement.{statement}
use Rattle.encoded_word_write.proofs.gap.Tie as tie

returns : tie.Need-returns-then-i-n
returns c = rw (lt-ltb _ _ c.if-i-n.true)

returns-2 : tie.Need-returns
returns-2 c = rw (le-ltb _ _ c.if-i-n.false)

pub gap_spec : {M : Type 1} → statement M
gap_spec = tie.close (tie.spec returns returns-2)
