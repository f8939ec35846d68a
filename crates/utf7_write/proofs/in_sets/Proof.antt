use native.Mathlib.Omega.{arith}
use Rattle.utf7_write.proofs.Blocks.{sets-own}
use borrow.Author.Rules.{rules}
use Rattle.utf7_write.proofs.in_sets.Statement.{statement}
use Rattle.utf7_write.proofs.in_sets.Tie as tie
use Rattle.utf7_write.proofs.in_sets.Lts.{then-u-gt63, else-u-gt63}

cast-result : tie.Need-overflow_cast-result
cast-result c = search rules

shr-result : tie.Need-overflow_shr-result
shr-result c = search rules

returns : tie.Need-returns
returns c =
    let j = c.before in
    let a = j.args in
    λ style l g.
    sets-own style a.low a.high j.if-u-gt63.set a.u l g
    (λ h. elim j.if-u-gt63.branch [ then-u-gt63 w ↦ absurd (omega arith) | else-u-gt63 w ↦ w.set-is ])
    (λ h. elim j.if-u-gt63.branch [ then-u-gt63 w ↦ w.set-is | else-u-gt63 w ↦ absurd (omega arith) ])

pub in_sets_spec : {M : Type 1} → statement M
in_sets_spec = tie.close (tie.spec cast-result shr-result returns)
