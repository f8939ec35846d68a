use borrow.Author.Rules.{rules}
use Rattle.qalithonda_benches.proofs.qalithonda_benches_undo.Statement.{statement}
use Rattle.qalithonda_benches.proofs.qalithonda_benches_undo.Tie as tie

undo-requires : tie.Need-undo-requires
undo-requires c κs = search rules

same_length : tie.Need-shape_of-text0
same_length c = search rules

same-length-2 : tie.Need-shape_of-text1
same-length-2 c = search rules

returns : tie.Need-returns
returns c = c.undo.ensures

pub qalithonda_benches_undo_spec : {M : Type 1} → statement M
qalithonda_benches_undo_spec = tie.close (tie.spec undo-requires same_length same-length-2 returns)
