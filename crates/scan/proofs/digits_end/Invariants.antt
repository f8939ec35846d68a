use Rattle.std.proofs.Common.{◌-◌}
use Rattle.answer.specs.Ahead.{Ahead}
use Rattle.scan.specs.Inner.{IsDigit}
use Rattle.scan.proofs.digits_end.Given as goal

abbrev pub invariant-loop-at : goal.invariant-loop-at
invariant-loop-at l = Ahead IsDigit l.s l.from (l.at - l.from)
