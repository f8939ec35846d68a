use Rattle.host_pages.proofs.OnPages.{edited-on}
use borrow.Author.Rules.{rules}
use Rattle.host_pages.proofs.read.Statement.{statement}
use Rattle.host_pages.proofs.read.Tie as tie

read-requires : tie.Need-read-requires
read-requires c κs = search rules

edited-requires : tie.Need-edited-requires
edited-requires c κs = search rules

same_length : tie.Need-shape_of-arrived
same_length c = search rules

same-length-2 : tie.Need-shape_of-text
same-length-2 c = search rules

same-length-3 : tie.Need-shape_of-history
same-length-3 c = search rules

returns : tie.Need-returns
returns c =
    let u = c in
    edited-on _ u.read.result _ _ _ _ c.edited.ensures u.read.ensures

pub read_spec : {M : Type 1} → statement M
read_spec =
    tie.close (tie.spec read-requires edited-requires same_length same-length-2 same-length-3 returns)
