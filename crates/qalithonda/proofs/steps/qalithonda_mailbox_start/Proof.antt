use borrow.Author.Rules.{rules}
use Rattle.qalithonda.proofs.steps.qalithonda_mailbox_start.Statement.{statement}
use Rattle.qalithonda.proofs.steps.qalithonda_mailbox_start.Tie as tie

mailbox-start-requires : tie.Need-mailbox_start-requires
mailbox-start-requires c κs = search rules

returns : tie.Need-returns
returns c = c.mailbox_start.ensures

pub qalithonda_mailbox_start_spec : {M : Type 1} → statement M
qalithonda_mailbox_start_spec = tie.close (tie.spec mailbox-start-requires returns)
