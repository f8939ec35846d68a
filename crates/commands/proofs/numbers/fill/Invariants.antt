use Rattle.reading.proofs.Filling.{Filling}
use Rattle.commands.specs.Numbers.{numbers}
use Rattle.commands.proofs.numbers.fill.Given as goal

abbrev pub invariant-loop-b : goal.invariant-loop-b
invariant-loop-b l = Filling (numbers l.asked) l.text l.b-index l.st l.n l.initial.out l.out
