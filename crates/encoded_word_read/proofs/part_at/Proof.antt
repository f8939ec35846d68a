use borrow.Author.Tests.{eq-eqb, ne_eqb}
use Rattle.encoded_word_read.proofs.part_at.Statement.{statement}
use Rattle.encoded_word_read.proofs.part_at.Tie as tie

returns : tie.Need-returns-then-at-eq0
returns c = rw (eq-eqb _ 0 c.if-at-eq0.true)

returns-2 : tie.Need-returns
returns-2 c = rw (ne_eqb _ 0 c.if-at-eq0.false)

pub part_at_spec : {M : Type 1} → statement M
part_at_spec =
    tie.close
    (tie.spec
    returns
    returns-2)
