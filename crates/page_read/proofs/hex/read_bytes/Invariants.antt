use Rattle.std.proofs.Common.{drop}
use Rattle.answer.proofs.Put.{Put}
use Rattle.scan.specs.Inner.{hexes_at}
use Rattle.page_read.proofs.hex.read_bytes.Given as goal

abbrev pub invariant-loop-i : goal.invariant-loop-i
invariant-loop-i l = Put (hexes_at l.s l.from 2 l.n) l.initial.out l.out l.i (drop l.i (hexes_at l.s l.from 2 l.n))
