use borrow.Author.Rules.{rules}
use Rattle.qalithonda_benches.proofs.qalithonda_benches_unchanged.Statement.{statement}
use Rattle.qalithonda_benches.proofs.qalithonda_benches_unchanged.Tie as tie

unchanged-requires : tie.Need-unchanged-requires
unchanged-requires c κs = search rules

returns : tie.Need-returns
returns c = c.unchanged.ensures

pub qalithonda_benches_unchanged_spec : {M : Type 1} → statement M
qalithonda_benches_unchanged_spec = tie.close (tie.spec unchanged-requires returns)
