use mathlib.Core.Path.{sym, ap, ◌∙◌}
use borrow.Author.Rules.{rules}
use Rattle.jp2.specs.Table.{row_at}
use Rattle.jp2.proofs.Table.{row-size}
use Rattle.jp2_write.proofs.designation_size.Statement.{statement}
use Rattle.jp2_write.proofs.designation_size.Tie as tie

row-of-number-requires : tie.Need-row_of_number-requires
row-of-number-requires c κs = search rules

row-at-requires : tie.Need-row_at-d-requires
row-at-requires c κs = search rules

returns : tie.Need-returns
returns c =
    let r = c.before in
    sym (row-size r.requires (c.row_at-d.ensures ∙ ap row_at r.row_of_number.ensures))

pub designation_size_spec : {M : Type 1} → statement M
designation_size_spec = tie.close (tie.spec row-of-number-requires row-at-requires returns)
