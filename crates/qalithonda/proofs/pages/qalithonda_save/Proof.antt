use borrow.Author.Rules.{rules}
use Rattle.qalithonda.proofs.pages.qalithonda_save.Statement.{statement}
use Rattle.qalithonda.proofs.pages.qalithonda_save.Tie as tie

save-requires : tie.Need-save-requires
save-requires c κs = search rules

same_length : tie.Need-shape_of-out
same_length c = search rules

returns : tie.Need-returns
returns c = c.save.ensures

pub qalithonda_save_spec : {M : Type 1} → statement M
qalithonda_save_spec = tie.close (tie.spec save-requires same_length returns)
