use mathlib.Core.Path.{sym, ◌∙◌}
use Rattle.page_keep.proofs.Puts.{length_digits}
use borrow.Author.Rules.{rules}
use Rattle.page_keep.proofs.mark_size.Statement.{statement}
use Rattle.page_keep.proofs.mark_size.Tie as tie

enum_told : tie.Need-enum_told-1
enum_told c = search rules

enum-told-2 : tie.Need-enum_told-in_default
enum-told-2 c = search rules

returns : tie.Need-returns-in_default
returns c = search rules

width-of-requires : tie.Need-width_of-requires
width-of-requires c κs = search rules

returns-2 : tie.Need-returns
returns-2 c =
    let width-of' = c.width_of in (
      width-of'.ensures.0 ∙ rw c.in-Some.is (sym (length_digits 10 _ c.in-Some.field-0)),
      width-of'.ensures.1,
    )

pub mark_size_spec : {M : Type 1} → statement M
mark_size_spec = tie.close (tie.spec enum_told enum-told-2 returns width-of-requires returns-2)
