use native.Mathlib.Omega.{arith}
use mathlib.Core.Path.{◌∙◌}
use Rattle.scan.proofs.Words.{value-ranged}
use borrow.Author.Rules.{rules}
use Rattle.scan.proofs.digit_value.Statement.{statement}
use Rattle.scan.proofs.digit_value.Tie as tie

counted-requires : tie.Need-counted-decimal-requires
counted-requires c κs = search rules

counted-requires-2 : tie.Need-counted-requires
counted-requires-2 c κs = search rules

returns : tie.Need-returns
returns c = c.counted.ensures ∙ rw c.counted-decimal.ensures
    (value-ranged c.args.b (omega arith))

pub digit_value_spec : {M : Type 1} → statement M
digit_value_spec = tie.close (tie.spec counted-requires counted-requires-2 returns)
