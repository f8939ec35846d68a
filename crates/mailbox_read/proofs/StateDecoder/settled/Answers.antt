use native.Mathlib.Omega.{arith}
use Rattle.bits.proofs.Bits.{power_small}
use Rattle.mailbox_read.proofs.Moves.{settle-run}
use Rattle.mailbox_read.proofs.StateDecoder.settled.Goals as goal

pub returns-in-Run : goal.returns-in-Run
returns-in-Run c = rw (power_small _ _ c.power-w.ensures (omega arith), c.in-Run.is) (settle-run _ _)
