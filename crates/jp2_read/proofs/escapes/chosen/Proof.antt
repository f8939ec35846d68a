use Rattle.jp2_read.proofs.escapes.chosen.Statement.{statement}
use Rattle.jp2_read.proofs.escapes.chosen.Tie as tie

returns : tie.Need-returns-then-t
returns c = rw c.if-t.true

returns-2 : tie.Need-returns
returns-2 c = rw c.if-t.false

pub chosen_spec : {M : Type 1} → statement M
chosen_spec = tie.close (tie.spec returns returns-2)
