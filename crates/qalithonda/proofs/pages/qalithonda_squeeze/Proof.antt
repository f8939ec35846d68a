use borrow.Author.Rules.{rules}
use Rattle.qalithonda.proofs.pages.qalithonda_squeeze.Statement.{statement}
use Rattle.qalithonda.proofs.pages.qalithonda_squeeze.Tie as tie

squeeze-requires : tie.Need-squeeze-requires
squeeze-requires c κs = search rules

same_length : tie.Need-shape_of-history
same_length c = search rules

same-length-2 : tie.Need-shape_of-work
same-length-2 c = search rules

returns : tie.Need-returns
returns c = c.squeeze.ensures

pub qalithonda_squeeze_spec : {M : Type 1} → statement M
qalithonda_squeeze_spec = tie.close (tie.spec squeeze-requires same_length same-length-2 returns)
