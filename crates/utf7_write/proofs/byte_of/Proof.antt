use borrow.Author.Tests.{lt-ltb, le-ltb}
use borrow.Author.Rules.{rules}
use Rattle.utf7_write.proofs.byte_of.Statement.{statement}
use Rattle.utf7_write.proofs.byte_of.Tie as tie

cast-result : tie.Need-overflow_cast-result
cast-result c = search rules

returns : tie.Need-returns-then-u-lt128
returns c = simp (lt-ltb _ _ c.if-u-lt128.true)

returns-2 : tie.Need-returns
returns-2 c = simp (le-ltb _ _ c.if-u-lt128.false)

pub byte_of_spec : {M : Type 1} → statement M
byte_of_spec = tie.close (tie.spec cast-result returns returns-2)
