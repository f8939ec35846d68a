use mathlib.Core.Path.{ap}
use native.Mathlib.Omega.{arith}
use lib.ListN.{length}
use Rattle.answer.proofs.Once.{limit-small}
use Rattle.listing.proofs.Lines.{answer-few, refused-lines, accepted-size}
use borrow.Author.Rules.{rules}
use Rattle.listing.proofs.size.Statement.{statement}
use Rattle.listing.proofs.size.Tie as tie

answer-size-requires : tie.Need-answer_size-numbers-requires
answer-size-requires c κs = search rules

returns : tie.Need-returns-then-number-ne0
returns c =
    let a = c.args in
    omega (arith, ap length (refused-lines a.number a.place a.cells.now c.if-number-ne0.true))

add-result : tie.Need-overflow_add-result
add-result c = let a = c.args in omega (arith, answer-few a.number a.place)

returns-2 : tie.Need-returns-then-cells-eq0
returns-2 c =
    let a = c.args in
    omega (arith, accepted-size a.number a.place a.cells.now c.if-number-ne0.false)

add-result-2 : tie.Need-overflow_add-result-2
add-result-2 c = let a = c.args in omega (arith, answer-few a.number a.place)

mul-result : tie.Need-overflow_mul-result
mul-result c = omega (arith, limit-small)

add-result-3 : tie.Need-overflow_add-result-3
add-result-3 c = let a = c.args in omega (arith, answer-few a.number a.place, limit-small)

returns-3 : tie.Need-returns
returns-3 c =
    let a = c.args in
    omega (arith, accepted-size a.number a.place a.cells.now c.if-number-ne0.false)

pub size_spec : {M : Type 1} → statement M
size_spec =
    tie.close
    (tie.spec
    answer-size-requires
    returns
    add-result
    returns-2
    add-result-2
    mul-result
    add-result-3
    returns-3)
