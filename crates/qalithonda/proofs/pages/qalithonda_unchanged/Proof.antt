use borrow.Author.Rules.{rules}
use Rattle.qalithonda.proofs.pages.qalithonda_unchanged.Statement.{statement}
use Rattle.qalithonda.proofs.pages.qalithonda_unchanged.Tie as tie

unchanged-requires : tie.Need-unchanged-requires
unchanged-requires c κs = search rules

returns : tie.Need-returns
returns c = c.unchanged.ensures

pub qalithonda_unchanged_spec : {M : Type 1} → statement M
qalithonda_unchanged_spec = tie.close (tie.spec unchanged-requires returns)
