use Rattle.std.proofs.Common.{length, ◌-◌, ◌≡◌}
use Rattle.reading.specs.Decoding.{Leads}
use Rattle.jp2_read.specs.Cursor.{jp2_code}
use Rattle.jp2_read.specs.Escapes.{code_at}
use Rattle.jp2_read.specs.Passing.{at_rest}
use Rattle.jp2_read.proofs.past.pass.Given as goal

abbrev pub invariant-loop-row : goal.invariant-loop-row
invariant-loop-row l = Leads jp2_code l.text l.from (at_rest l.initial.g0 l.initial.g2) l.at (at_rest l.g0 l.g2) × (l.row ≡ code_at l.text l.at)

abbrev pub decreases-loop-row : goal.decreases-loop-row
decreases-loop-row l = length l.text - l.at
