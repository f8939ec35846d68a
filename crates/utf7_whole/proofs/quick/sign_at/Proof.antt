use native.Mathlib.Omega.{arith}
use borrow.Author.Rules.{rules}
use Rattle.utf7_whole.proofs.quick.sign_at.Statement.{statement}
use Rattle.utf7_whole.proofs.quick.sign_at.Tie as tie

shared-slice-read-if1 : tie.Need-bounds-text-at
shared-slice-read-if1 c = search rules

returns : tie.Need-returns-then-text-at-ne43
returns c = λ h. absurd (omega arith)

add-one-at : tie.Need-overflow_add-at
add-one-at c = search rules

one-at-requires : tie.Need-one_at-requires
one-at-requires c κs = search rules

returns-2 : tie.Need-returns
returns-2 c = λ h. (c.if-text-at-ne43.false, c.one_at.ensures h)

pub sign_at_spec : {M : Type 1} → statement M
sign_at_spec = tie.close (tie.spec shared-slice-read-if1 returns add-one-at one-at-requires returns-2)
