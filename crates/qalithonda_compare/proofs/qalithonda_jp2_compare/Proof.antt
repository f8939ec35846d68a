use borrow.Author.Rules.{rules}
use Rattle.qalithonda_compare.proofs.qalithonda_jp2_compare.Statement.{statement}
use Rattle.qalithonda_compare.proofs.qalithonda_jp2_compare.Tie as tie

compare-requires : tie.Need-compare-requires
compare-requires c κs = search rules

returns : tie.Need-returns
returns c = c.compare.ensures

pub qalithonda_jp2_compare_spec : {M : Type 1} → statement M
qalithonda_jp2_compare_spec = tie.close (tie.spec compare-requires returns)
