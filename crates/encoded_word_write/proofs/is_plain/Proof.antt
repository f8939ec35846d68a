use native.Mathlib.Omega.{arith}
use Rattle.encoded_word_write.proofs.Bringing.{plain-told}
use borrow.Author.Rules.{rules}
use Rattle.encoded_word_write.proofs.is_plain.Statement.{statement}
use Rattle.encoded_word_write.proofs.is_plain.Tie as tie
use Rattle.encoded_word_write.proofs.is_plain.Lts.{then-u-gt63, else-u-gt63}

cast-result : tie.Need-overflow_cast-result
cast-result c = search rules

shr-result : tie.Need-overflow_shr-result
shr-result c = search rules

returns : tie.Need-returns
returns c =
    let j = c.before in
    let a = j.args in
    plain-told j.if-u-gt63.set a.u
    (λ h. elim j.if-u-gt63.branch [ then-u-gt63 w ↦ absurd (omega arith) | else-u-gt63 w ↦ w.set-is ])
    (λ h. elim j.if-u-gt63.branch [ then-u-gt63 w ↦ w.set-is | else-u-gt63 w ↦ absurd (omega arith) ])
    j.requires

pub is_plain_spec : {M : Type 1} → statement M
is_plain_spec =
    tie.close
    (tie.spec
    cast-result
    shr-result
    returns)
