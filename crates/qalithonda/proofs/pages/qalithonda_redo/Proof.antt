use borrow.Author.Rules.{rules}
use Rattle.qalithonda.proofs.pages.qalithonda_redo.Statement.{statement}
use Rattle.qalithonda.proofs.pages.qalithonda_redo.Tie as tie

redo-requires : tie.Need-redo-requires
redo-requires c κs = search rules

same_length : tie.Need-shape_of-text
same_length c = search rules

returns : tie.Need-returns
returns c = c.redo.ensures

pub qalithonda_redo_spec : {M : Type 1} → statement M
qalithonda_redo_spec = tie.close (tie.spec redo-requires same_length returns)
