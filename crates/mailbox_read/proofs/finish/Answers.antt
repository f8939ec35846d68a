use Rattle.mailbox.specs.Rule.{ends_in}
use Rattle.mailbox_read.proofs.finish.Goals as goal

pub returns-in-Outside : goal.returns-in-Outside
unfolding ends_in
returns-in-Outside c = simp c.in-Outside.is

pub returns-in-Opening : goal.returns-in-Opening
unfolding ends_in
returns-in-Opening c = simp c.in-Opening.is

pub returns-in-Run : goal.returns-in-Run
unfolding ends_in
returns-in-Run c = simp c.in-Run.is
