use mathlib.Core.Bool.{or-false}
use borrow.Author.Tests.{ne_eqb}
use Rattle.utf7.proofs.is_line_blank.Statement.{statement}
use Rattle.utf7.proofs.is_line_blank.Tie as tie

returns : tie.Need-returns-then-u-eq9
returns c = rw c.if-u-eq9.true

returns-2 : tie.Need-returns-then-u-eq10
returns-2 c = rw c.if-u-eq10.true

returns-3 : tie.Need-returns
returns-3 c = simp (ne_eqb _ _ c.if-u-eq9.false, ne_eqb _ _ c.if-u-eq10.false, or-false)

pub is_line_blank_spec : {M : Type 1} → statement M
is_line_blank_spec = tie.close (tie.spec returns returns-2 returns-3)
