use Rattle.reading.proofs.Laws.{Left}
use Rattle.commands.specs.Numbers.{numbers}
use Rattle.commands.proofs.numbers.count.Given as goal

abbrev pub invariant-loop-at : goal.invariant-loop-at
invariant-loop-at l = Left (numbers l.asked) l.text l.at l.st l.n
