use Rattle.commands.proofs.Words.{Stretching}
use Rattle.commands.proofs.past.Given as goal

abbrev pub invariant-loop-at : goal.invariant-loop-at
invariant-loop-at l = Stretching l.blanks l.line l.from l.at
