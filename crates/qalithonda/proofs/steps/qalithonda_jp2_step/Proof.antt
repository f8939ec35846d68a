use borrow.Author.Rules.{rules}
use Rattle.qalithonda.proofs.steps.qalithonda_jp2_step.Statement.{statement}
use Rattle.qalithonda.proofs.steps.qalithonda_jp2_step.Tie as tie

jp2-step-requires : tie.Need-jp2_step-requires
jp2-step-requires c κs = search rules

returns : tie.Need-returns
returns c = c.jp2_step.ensures

pub qalithonda_jp2_step_spec : {M : Type 1} → statement M
qalithonda_jp2_step_spec = tie.close (tie.spec jp2-step-requires returns)
