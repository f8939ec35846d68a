use Rattle.std.proofs.Common.{length, ◌-◌}
use Rattle.reading.specs.Decoding.{Leads}
use Rattle.mailbox_read.specs.Cursor.{mailbox_code}
use Rattle.mailbox_read.specs.declared.State.TheVariants.{Run}
use Rattle.mailbox_read.proofs.letters.Given as goal

abbrev pub invariant-loop-at : goal.invariant-loop-at
invariant-loop-at l = Leads mailbox_code l.text l.from (Run l.pending l.value) l.at (Run l.n l.v)

abbrev pub decreases-loop-at : goal.decreases-loop-at
decreases-loop-at l = length l.text - l.at
