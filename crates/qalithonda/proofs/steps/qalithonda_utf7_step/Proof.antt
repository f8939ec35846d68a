use borrow.Author.Rules.{rules}
use Rattle.qalithonda.proofs.steps.qalithonda_utf7_step.Statement.{statement}
use Rattle.qalithonda.proofs.steps.qalithonda_utf7_step.Tie as tie

utf7-step-requires : tie.Need-utf7_step-requires
utf7-step-requires c κs = search rules

returns : tie.Need-returns
returns c = c.utf7_step.ensures

pub qalithonda_utf7_step_spec : {M : Type 1} → statement M
qalithonda_utf7_step_spec = tie.close (tie.spec utf7-step-requires returns)
