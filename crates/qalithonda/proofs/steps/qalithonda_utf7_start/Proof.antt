use borrow.Author.Rules.{rules}
use Rattle.qalithonda.proofs.steps.qalithonda_utf7_start.Statement.{statement}
use Rattle.qalithonda.proofs.steps.qalithonda_utf7_start.Tie as tie

utf7-start-requires : tie.Need-utf7_start-requires
utf7-start-requires c κs = search rules

returns : tie.Need-returns
returns c = c.utf7_start.ensures

pub qalithonda_utf7_start_spec : {M : Type 1} → statement M
qalithonda_utf7_start_spec = tie.close (tie.spec utf7-start-requires returns)
