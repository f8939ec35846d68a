use borrow.Author.Rules.{rules}
use Rattle.qalithonda.proofs.pages.qalithonda_utf7_header_open.Statement.{statement}
use Rattle.qalithonda.proofs.pages.qalithonda_utf7_header_open.Tie as tie

open-requires : tie.Need-open-requires
open-requires c κs = search rules

same_length : tie.Need-shape_of-text
same_length c = search rules

same-length-2 : tie.Need-shape_of-history
same-length-2 c = search rules

returns : tie.Need-returns
returns c = c.before.before.before.before.«open».ensures

pub qalithonda_utf7_header_open_spec : {M : Type 1} → statement M
qalithonda_utf7_header_open_spec = tie.close (tie.spec open-requires same_length same-length-2 returns)
