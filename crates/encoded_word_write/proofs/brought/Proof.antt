use Rattle.encoded_word_write.proofs.Bringing.{run-third, run-other}
use borrow.Author.Tests.{eq-eqb, ne_eqb}
use Rattle.encoded_word_write.proofs.brought.Statement.{statement}
use Rattle.encoded_word_write.proofs.brought.Tie as tie

returns : tie.Need-returns-then-alone-ne0
returns c = rw (ne_eqb _ 0 c.if-alone-ne0.true)

returns-2 : tie.Need-returns-then-run-eq0
returns-2 c = rw (eq-eqb _ 0 c.if-alone-ne0.false, c.if-run-eq0.true)

returns-3 : tie.Need-returns-then-run-eq2
returns-3 c = rw (eq-eqb _ 0 c.if-alone-ne0.false) (run-third _ c.if-run-eq0.false c.if-run-eq2.true)

returns-4 : tie.Need-returns
returns-4 c = rw (eq-eqb _ 0 c.if-alone-ne0.false) (run-other _ c.if-run-eq0.false c.if-run-eq2.false)

pub brought_spec : {M : Type 1} → statement M
brought_spec =
    tie.close
    (tie.spec
    returns
    returns-2
    returns-3
    returns-4)
