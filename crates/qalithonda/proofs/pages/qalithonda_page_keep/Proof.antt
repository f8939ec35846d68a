use borrow.Author.Rules.{rules}
use Rattle.qalithonda.proofs.pages.qalithonda_page_keep.Statement.{statement}
use Rattle.qalithonda.proofs.pages.qalithonda_page_keep.Tie as tie

keep-requires : tie.Need-keep-requires
keep-requires c κs = search rules

same_length : tie.Need-shape_of-out
same_length c = search rules

returns : tie.Need-returns
returns c = c.keep.ensures

pub qalithonda_page_keep_spec : {M : Type 1} → statement M
qalithonda_page_keep_spec = tie.close (tie.spec keep-requires same_length returns)
