use borrow.Author.Tests.{lt-leb, le-leb}
use Rattle.jp2_plain.proofs.is_one_of_96.Statement.{statement}
use Rattle.jp2_plain.proofs.is_one_of_96.Tie as tie

returns : tie.Need-returns-then-b-lt32
returns c = simp (lt-leb _ _ c.if-b-lt32.true)

returns-2 : tie.Need-returns
returns-2 c = simp (le-leb _ _ c.if-b-lt32.false)

pub is_one_of_96_spec : {M : Type 1} → statement M
is_one_of_96_spec = tie.close (tie.spec returns returns-2)
