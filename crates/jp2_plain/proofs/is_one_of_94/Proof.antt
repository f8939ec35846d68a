use borrow.Author.Tests.{lt-leb, le-leb}
use Rattle.jp2.specs.Rule.{graphic}
use Rattle.jp2_plain.proofs.is_one_of_94.Statement.{statement}
use Rattle.jp2_plain.proofs.is_one_of_94.Tie as tie

returns : tie.Need-returns-then-b-lt33
unfolding graphic
returns c = simp (lt-leb _ _ c.if-b-lt33.true)

returns-2 : tie.Need-returns
unfolding graphic
returns-2 c = simp (le-leb _ _ c.if-b-lt33.false)

pub is_one_of_94_spec : {M : Type 1} → statement M
is_one_of_94_spec = tie.close (tie.spec returns returns-2)
