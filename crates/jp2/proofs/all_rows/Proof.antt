use mathlib.Core.Path.{refl}
use Rattle.jp2.specs.Table.{designations}
use Rattle.jp2.proofs.all_rows.Statement.{statement}
use Rattle.jp2.proofs.all_rows.Tie as tie

returns : tie.Need-returns
unfolding designations
returns c = refl

pub all_rows_spec : {M : Type 1} → statement M
all_rows_spec = tie.close (tie.spec returns)
