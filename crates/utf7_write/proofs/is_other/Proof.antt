use mathlib.Core.Path.{sym, ◌∙◌}
use Rattle.utf7_write.specs.Stretch.{other}
use borrow.Author.Rules.{rules}
use Rattle.utf7_write.proofs.is_other.Statement.{statement}
use Rattle.utf7_write.proofs.is_other.Tie as tie

is-own-requires : tie.Need-is_own-requires
is-own-requires c κs = search rules

returns : tie.Need-returns-then-is_own
unfolding other
returns c = simp (sym c.is_own.ensures ∙ c.if-is_own.true)

sign-of-requires : tie.Need-sign_of-requires
sign-of-requires c κs = search rules

returns-2 : tie.Need-returns
unfolding other
returns-2 c =
    let o = c.before in
    simp (sym o.is_own.ensures ∙ o.if-is_own.false, c.sign_of.ensures)

pub is_other_spec : {M : Type 1} → statement M
is_other_spec = tie.close (tie.spec is-own-requires returns sign-of-requires returns-2)
