use Rattle.std.proofs.Common.{length, ◌-◌}
use Rattle.reading.specs.Decoding.{Leads}
use Rattle.utf7_read.specs.Cursor.{utf7_code}
use Rattle.utf7_read.specs.declared.State.TheVariants.{Run}
use Rattle.utf7_read.proofs.letters.Given as goal

abbrev pub invariant-loop-at : goal.invariant-loop-at
invariant-loop-at l = Leads utf7_code l.text l.from (Run l.pending l.value) l.at (Run l.n l.v)

abbrev pub decreases-loop-at : goal.decreases-loop-at
decreases-loop-at l = length l.text - l.at
