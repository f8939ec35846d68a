use Rattle.desk.proofs.Working.{took-turn}
use Rattle.desk.proofs.lines.turn.Goals as goal

pub returns-then-end-hand : goal.returns-then-end-hand
returns-then-end-hand c = (c.take.ensures.0, took-turn c.take.ensures.1)
