use borrow.Author.Rules.{rules}
use Rattle.qalithonda_benches.proofs.qalithonda_benches_redo.Statement.{statement}
use Rattle.qalithonda_benches.proofs.qalithonda_benches_redo.Tie as tie

redo-requires : tie.Need-redo-requires
redo-requires c κs = search rules

same_length : tie.Need-shape_of-text0
same_length c = search rules

same-length-2 : tie.Need-shape_of-text1
same-length-2 c = search rules

returns : tie.Need-returns
returns c = c.redo.ensures

pub qalithonda_benches_redo_spec : {M : Type 1} → statement M
qalithonda_benches_redo_spec = tie.close (tie.spec redo-requires same_length same-length-2 returns)
