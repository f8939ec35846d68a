use Rattle.utf7_whole.proofs.Buffers.{Padding}
use Rattle.utf7_whole.proofs.pad.Given as goal

abbrev pub invariant-loop-k : goal.invariant-loop-k
invariant-loop-k l = Padding l.text l.k l.room
