use borrow.Author.Tests.{eq-eqb, ne_eqb}
use Rattle.encoded_word_read.proofs.must_be.Statement.{statement}
use Rattle.encoded_word_read.proofs.must_be.Tie as tie

returns : tie.Need-returns-then-b-x
returns c = rw (eq-eqb _ _ c.if-b-x.true)

returns-2 : tie.Need-returns
returns-2 c = rw (ne_eqb _ _ c.if-b-x.false)

pub must_be_spec : {M : Type 1} → statement M
must_be_spec = tie.close (tie.spec returns returns-2)
