use native.Mathlib.Omega.{arith}
use Rattle.listing.proofs.Lines.{answer-length, answer-few}
use borrow.Author.Rules.{rules}
use Rattle.listing.proofs.answer_size.Statement.{statement}
use Rattle.listing.proofs.answer_size.Tie as tie

places-requires : tie.Need-places-requires
places-requires c κs = search rules

places-requires-2 : tie.Need-places-requires-2
places-requires-2 c κs = search rules

add-result : tie.Need-overflow_add-result
add-result c = let a = c.args in omega (arith, answer-length a.number a.place, answer-few a.number a.place)

add-result-2 : tie.Need-overflow_add-result-2
add-result-2 c = let a = c.args in omega (arith, answer-length a.number a.place, answer-few a.number a.place)

returns : tie.Need-returns
returns c = let a = c.args in omega (arith, answer-length a.number a.place)

pub answer_size_spec : {M : Type 1} → statement M
answer_size_spec = tie.close (tie.spec places-requires places-requires-2 add-result add-result-2 returns)
