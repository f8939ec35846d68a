use native.Mathlib.Omega.{arith}
use borrow.Author.Rules.{rules}
use Rattle.marks.proofs.Counting.{joined-eight}
use Rattle.marks.proofs.word.Statement.{statement}
use Rattle.marks.proofs.word.Tie as tie

mark-requires : tie.Need-mark-requires
mark-requires c κs = search rules

add-mark : tie.Need-overflow_add-j
add-mark c = search rules

mark-requires-2 : tie.Need-mark-requires-2
mark-requires-2 c κs = search rules

mul_low : tie.Need-overflow_mul-low
mul_low c = search rules

add_low : tie.Need-overflow_add-low
add_low c = search rules

add-mark-2 : tie.Need-overflow_add-j-2
add-mark-2 c = search rules

mark-requires-3 : tie.Need-mark-requires-3
mark-requires-3 c κs = search rules

mul-low-2 : tie.Need-overflow_mul-low-2
mul-low-2 c = search rules

add-low-2 : tie.Need-overflow_add-low-2
add-low-2 c = search rules

add-mark-3 : tie.Need-overflow_add-j-3
add-mark-3 c = search rules

mark-requires-4 : tie.Need-mark-requires-4
mark-requires-4 c κs = search rules

mul-low-3 : tie.Need-overflow_mul-low-3
mul-low-3 c = search rules

add-low-3 : tie.Need-overflow_add-low-3
add-low-3 c = search rules

add-mark-4 : tie.Need-overflow_add-j-4
add-mark-4 c = search rules

mark-requires-5 : tie.Need-mark-requires-5
mark-requires-5 c κs = search rules

add-mark-5 : tie.Need-overflow_add-j-5
add-mark-5 c = search rules

mark-requires-6 : tie.Need-mark-requires-6
mark-requires-6 c κs = search rules

mul-high : tie.Need-overflow_mul-high
mul-high c = search rules

add-high : tie.Need-overflow_add-high
add-high c = search rules

add-mark-6 : tie.Need-overflow_add-j-6
add-mark-6 c = search rules

mark-requires-7 : tie.Need-mark-requires-7
mark-requires-7 c κs = search rules

mul-high-2 : tie.Need-overflow_mul-high-2
mul-high-2 c = search rules

add-high-2 : tie.Need-overflow_add-high-2
add-high-2 c = search rules

add-mark-7 : tie.Need-overflow_add-j-7
add-mark-7 c = search rules

mark-requires-8 : tie.Need-mark-requires-8
mark-requires-8 c κs = search rules

mul-high-3 : tie.Need-overflow_mul-high-3
mul-high-3 c = search rules

add-high-3 : tie.Need-overflow_add-high-3
add-high-3 c = search rules

mul-result : tie.Need-overflow_mul-result
mul-result c = search rules

add-result : tie.Need-overflow_add-result
add-result c = search rules

returns : tie.Need-returns
returns c = let x = c.before.before.before.before.before.before.before in (
  joined-eight x.args.x.now x.args.j x.mark.ensures.0 c.mark-2.ensures.0 c.mark-3.ensures.0
      c.mark-4.ensures.0 c.mark-5.ensures.0 c.mark-6.ensures.0 c.mark-7.ensures.0 c.mark-8.ensures.0,
  c.mark-8.ensures.2,
)

pub word_spec : {M : Type 1} → statement M
word_spec =
    tie.close
    (tie.spec
    mark-requires
    add-mark
    mark-requires-2
    mul_low
    add_low
    add-mark-2
    mark-requires-3
    mul-low-2
    add-low-2
    add-mark-3
    mark-requires-4
    mul-low-3
    add-low-3
    add-mark-4
    mark-requires-5
    add-mark-5
    mark-requires-6
    mul-high
    add-high
    add-mark-6
    mark-requires-7
    mul-high-2
    add-high-2
    add-mark-7
    mark-requires-8
    mul-high-3
    add-high-3
    mul-result
    add-result
    returns)
