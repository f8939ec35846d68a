use native.Mathlib.Omega.{arith}
use Prim.Native.Nat.{◌+◌}
use lib.Count.{trailing_le}
use borrow.Author.Rules.{rules}
use Rattle.marks.proofs.Counting.{counted-eight}
use Rattle.marks.proofs.eight.Statement.{statement}
use Rattle.marks.proofs.eight.Tie as tie

word-requires : tie.Need-word-requires
word-requires c κs = search rules

cast-result : tie.Need-overflow_cast-result
cast-result c = omega (arith, trailing_le 64 c.word.result)

returns : tie.Need-returns
returns c = rw c.word.ensures.0 (counted-eight _ (λ k. c.word.ensures.1 (c.args.j + k)))

pub eight_spec : {M : Type 1} → statement M
eight_spec = tie.close (tie.spec word-requires cast-result returns)
