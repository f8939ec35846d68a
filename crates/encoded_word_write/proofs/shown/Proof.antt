use borrow.Author.Tests.{eq-eqb, ne_eqb}
use Rattle.encoded_word_write.proofs.shown.Statement.{statement}
use Rattle.encoded_word_write.proofs.shown.Tie as tie

returns : tie.Need-returns-then-b-eq32
returns c = rw (eq-eqb _ 32 c.if-b-eq32.true)

returns-2 : tie.Need-returns
returns-2 c = rw (ne_eqb _ 32 c.if-b-eq32.false)

pub shown_spec : {M : Type 1} → statement M
shown_spec =
    tie.close
    (tie.spec
    returns
    returns-2)
