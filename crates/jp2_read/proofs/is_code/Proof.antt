use mathlib.Core.Path.{refl}
use Rattle.jp2.specs.Rule.{graphic}
use Rattle.jp2_read.proofs.is_code.Statement.{statement}
use Rattle.jp2_read.proofs.is_code.Tie as tie

returns : tie.Need-returns
unfolding graphic
returns c = refl

pub is_code_spec : {M : Type 1} → statement M
is_code_spec = tie.close (tie.spec returns)
