use Rattle.std.proofs.Common.{refl, arith}
use Rattle.desk.specs.Hands.{passed, obeyed}
use Rattle.desk.proofs.lines.take.Goals as goal

pub returns-then-hand : goal.returns-then-hand
returns-then-hand c = rw (c.past.ensures, c.if-hand.true) ((omega arith, omega arith, omega arith), passed refl)

pub returns : goal.returns
returns c =
    rw (c.past-2.ensures, c.if-hand.false)
    ((omega arith, omega arith, omega arith), obeyed _ c.obey-done.ensures)
