use native.Mathlib.Omega.{arith}
use borrow.Author.Tests.{eq-eqb, ne_eqb}
use Rattle.answer.specs.Answer.{limit}
use Rattle.encoded_word_write.proofs.run_after.Statement.{statement}
use Rattle.encoded_word_write.proofs.run_after.Tie as tie

add-result : tie.Need-overflow_add-result
unfolding limit
add-result c = omega arith

returns : tie.Need-returns-then-alone-eq0
returns c = rw (eq-eqb _ 0 c.if-alone-eq0.true)

returns-2 : tie.Need-returns
returns-2 c = rw (ne_eqb _ 0 c.if-alone-eq0.false)

pub run_after_spec : {M : Type 1} → statement M
run_after_spec =
    tie.close
    (tie.spec
    add-result
    returns
    returns-2)
