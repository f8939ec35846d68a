use native.Mathlib.Nat.{sub-zero}
use borrow.Author.Rules.{rules}
use Rattle.page.proofs.opened.Statement.{statement}
use Rattle.page.proofs.opened.Tie as tie

clear-from-requires : tie.Need-clear_from-requires
clear-from-requires c κs = search rules

clear-from-requires-2 : tie.Need-clear_from-requires-2
clear-from-requires-2 c κs = search rules

fresh-requires : tie.Need-fresh-requires
fresh-requires c κs = search rules

same_length : tie.Need-shape_of-text
same_length c = search rules

same-length-2 : tie.Need-shape_of-history
same-length-2 c = search rules

returns : tie.Need-returns
returns c =
    rw (c.clear_from.ensures, c.clear_from-2.ensures, c.fresh.ensures, sub-zero)

pub opened_spec : {M : Type 1} → statement M
opened_spec =
    tie.close
    (tie.spec
    clear-from-requires
    clear-from-requires-2
    fresh-requires
    same_length
    same-length-2
    returns)
