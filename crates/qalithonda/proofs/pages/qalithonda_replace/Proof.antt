use borrow.Author.Rules.{rules}
use Rattle.qalithonda.proofs.pages.qalithonda_replace.Statement.{statement}
use Rattle.qalithonda.proofs.pages.qalithonda_replace.Tie as tie

replace-requires : tie.Need-replace-requires
replace-requires c κs = search rules

same_length : tie.Need-shape_of-text
same_length c = search rules

same-length-2 : tie.Need-shape_of-history
same-length-2 c = search rules

returns : tie.Need-returns
returns c = c.replace.ensures

pub qalithonda_replace_spec : {M : Type 1} → statement M
qalithonda_replace_spec = tie.close (tie.spec replace-requires same_length same-length-2 returns)
