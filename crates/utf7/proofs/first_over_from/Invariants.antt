use Rattle.std.proofs.Common.{◌≡◌, ◌+◌, drop}
use Rattle.utf7.specs.Writing.{first_over}
use Rattle.utf7.proofs.first_over_from.Given as goal

abbrev pub invariant-loop-i : goal.invariant-loop-i
invariant-loop-i l = l.i + first_over (drop l.i l.cells) ≡ first_over l.cells
