use borrow.Author.Rules.{rules}
use Rattle.qalithonda.proofs.pages.qalithonda_page_read.Statement.{statement}
use Rattle.qalithonda.proofs.pages.qalithonda_page_read.Tie as tie

read-requires : tie.Need-read-requires
read-requires c κs = search rules

same_length : tie.Need-shape_of-arrived
same_length c = search rules

same-length-2 : tie.Need-shape_of-text
same-length-2 c = search rules

same-length-3 : tie.Need-shape_of-history
same-length-3 c = search rules

returns : tie.Need-returns
returns c = c.read.ensures

pub qalithonda_page_read_spec : {M : Type 1} → statement M
qalithonda_page_read_spec = tie.close (tie.spec read-requires same_length same-length-2 same-length-3 returns)
