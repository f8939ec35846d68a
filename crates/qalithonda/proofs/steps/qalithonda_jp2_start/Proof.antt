use borrow.Author.Rules.{rules}
use Rattle.qalithonda.proofs.steps.qalithonda_jp2_start.Statement.{statement}
use Rattle.qalithonda.proofs.steps.qalithonda_jp2_start.Tie as tie

jp2-start-requires : tie.Need-jp2_start-requires
jp2-start-requires c κs = search rules

returns : tie.Need-returns
returns c = c.jp2_start.ensures

pub qalithonda_jp2_start_spec : {M : Type 1} → statement M
qalithonda_jp2_start_spec = tie.close (tie.spec jp2-start-requires returns)
