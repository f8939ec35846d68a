use native.Mathlib.Omega.{arith}
use Rattle.answer.proofs.Once.{limit-small}
use Rattle.page_keep.proofs.Keeping.{file-size}
use borrow.Author.Rules.{rules}
use Rattle.page_keep.proofs.size_of.Statement.{statement}
use Rattle.page_keep.proofs.size_of.Tie as tie

name-size-requires : tie.Need-name_size-requires
name-size-requires c κs = search rules

mark-size-requires : tie.Need-mark_size-requires
mark-size-requires c κs = search rules

add-names : tie.Need-overflow_add-names
add-names c = search rules

width-of-requires : tie.Need-width_of-requires
width-of-requires c κs = search rules

mul-result : tie.Need-overflow_mul-result
mul-result c = search rules

add-result : tie.Need-overflow_add-result
add-result c = omega (arith, limit-small)

add-result-2 : tie.Need-overflow_add-result-2
add-result-2 c = omega (arith, limit-small)

mul-result-2 : tie.Need-overflow_mul-result-2
mul-result-2 c = search rules

add-result-3 : tie.Need-overflow_add-result-3
add-result-3 c = omega (arith, limit-small)

mul-result-3 : tie.Need-overflow_mul-result-3
mul-result-3 c = search rules

add-result-4 : tie.Need-overflow_add-result-4
add-result-4 c = omega (arith, limit-small)

mul-result-4 : tie.Need-overflow_mul-result-4
mul-result-4 c = search rules

add-result-5 : tie.Need-overflow_add-result-5
add-result-5 c = omega (arith, limit-small)

returns : tie.Need-returns
returns c =
    let a = c.args in
    let pre' = c.requires in
    omega (arith, file-size a.two a.page a.cells.now a.words.now a.arrived.now pre'.0)

pub size_of_spec : {M : Type 1} → statement M
size_of_spec =
    tie.close
    (tie.spec
    name-size-requires
    mark-size-requires
    add-names
    width-of-requires
    mul-result
    add-result
    add-result-2
    mul-result-2
    add-result-3
    mul-result-3
    add-result-4
    mul-result-4
    add-result-5
    returns)
