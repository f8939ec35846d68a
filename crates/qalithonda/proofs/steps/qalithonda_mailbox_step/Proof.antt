use borrow.Author.Rules.{rules}
use Rattle.qalithonda.proofs.steps.qalithonda_mailbox_step.Statement.{statement}
use Rattle.qalithonda.proofs.steps.qalithonda_mailbox_step.Tie as tie

mailbox-step-requires : tie.Need-mailbox_step-requires
mailbox-step-requires c κs = search rules

returns : tie.Need-returns
returns c = c.mailbox_step.ensures

pub qalithonda_mailbox_step_spec : {M : Type 1} → statement M
qalithonda_mailbox_step_spec = tie.close (tie.spec mailbox-step-requires returns)
