use mathlib.Core.List.{[]}
use Rattle.host_pages.proofs.OnPages.{edited-on}
use borrow.Author.Rules.{rules}
use Rattle.host_pages.proofs.open.Statement.{statement}
use Rattle.host_pages.proofs.open.Tie as tie

open-requires : tie.Need-open-requires
open-requires c κs = search rules

edited-requires : tie.Need-edited-requires
edited-requires c κs = search rules

same_length : tie.Need-shape_of-text
same_length c = search rules

same-length-2 : tie.Need-shape_of-history
same-length-2 c = search rules

returns : tie.Need-returns
returns c =
    let o = c.before.before.before.before.before in
    edited-on _ o.«open».result _ _ [] _ c.edited.ensures o.«open».ensures

pub open_spec : {M : Type 1} → statement M
open_spec =
    tie.close (tie.spec open-requires edited-requires same_length same-length-2 returns)
