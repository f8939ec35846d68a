-- `reading::step_on`: the step that was asked for is still to be found from the place and state. Assumes nothing.
use Rattle.std.proofs.Common.{length, ◌-◌, ◌≤◌}
use Rattle.reading.specs.Decoding.{step_from}
use Rattle.reading.proofs.Steps.{Going}
use Rattle.reading.proofs.step_on.Given as goal

abbrev pub invariant-loop-at : goal.invariant-loop-at
invariant-loop-at g l =
    let code = g.D.Decoder.code in
    Going code.rule code.marking l.text l.at l.handed (code.means l.st) (step_from code l.text l.from l.fn.state l.handed) ×
    (code.Settled l.fn.state → code.Settled l.st) × (l.handed ≤ l.at)

abbrev pub decreases-loop-at : goal.decreases-loop-at
decreases-loop-at g l = length l.text - l.at
