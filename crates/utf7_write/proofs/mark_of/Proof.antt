use mathlib.Core.Path.{sym, ◌∙◌}
use Rattle.utf7.specs.Sets.{own}
use borrow.Author.Rules.{rules}
use Rattle.utf7_write.proofs.Marks.{mark-zero, mark-one}
use Rattle.utf7_write.proofs.mark_of.Statement.{statement}
use Rattle.utf7_write.proofs.mark_of.Tie as tie

own-byte-requires : tie.Need-own_byte-requires
own-byte-requires c κs = search rules

returns : tie.Need-returns-then-own_byte-eq1
returns c = mark-zero (own _ _) (sym c.own_byte.ensures ∙ c.if-own_byte-eq1.true)

returns-2 : tie.Need-returns
returns-2 c = mark-one (own _ _) (λ e. c.if-own_byte-eq1.false (c.own_byte.ensures ∙ e))

pub mark_of_spec : {M : Type 1} → statement M
mark_of_spec =
    tie.close
    (tie.spec
    own-byte-requires
    returns
    returns-2)
