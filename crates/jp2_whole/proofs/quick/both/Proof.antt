use Rattle.jp2_whole.proofs.quick.both.Statement.{statement}
use Rattle.jp2_whole.proofs.quick.both.Tie as tie

returns : tie.Need-returns-then-s
returns c = rw c.if-s.true

returns-2 : tie.Need-returns
returns-2 c = rw c.if-s.false

pub both_spec : {M : Type 1} → statement M
both_spec = tie.close (tie.spec returns returns-2)
