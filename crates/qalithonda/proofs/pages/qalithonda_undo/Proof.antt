use borrow.Author.Rules.{rules}
use Rattle.qalithonda.proofs.pages.qalithonda_undo.Statement.{statement}
use Rattle.qalithonda.proofs.pages.qalithonda_undo.Tie as tie

undo-requires : tie.Need-undo-requires
undo-requires c κs = search rules

same_length : tie.Need-shape_of-text
same_length c = search rules

returns : tie.Need-returns
returns c = c.undo.ensures

pub qalithonda_undo_spec : {M : Type 1} → statement M
qalithonda_undo_spec = tie.close (tie.spec undo-requires same_length returns)
