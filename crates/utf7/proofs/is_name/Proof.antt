use mathlib.Core.Bool.{and-false}
use borrow.Author.Tests.{le-leb, lt-leb}
use Rattle.utf7.specs.Sets.{own}
use Rattle.utf7.proofs.is_name.Statement.{statement}
use Rattle.utf7.proofs.is_name.Tie as tie

returns : tie.Need-returns-then-u-gt126
unfolding own
returns c = simp (lt-leb _ _ c.if-u-gt126.true, and-false)

returns-2 : tie.Need-returns-then-u-lt32
unfolding own
returns-2 c = simp (lt-leb _ _ c.if-u-lt32.true)

returns-3 : tie.Need-returns
unfolding own
returns-3 c = simp (le-leb _ _ c.if-u-lt32.false, le-leb _ _ c.if-u-gt126.false)

pub is_name_spec : {M : Type 1} → statement M
is_name_spec = tie.close (tie.spec returns returns-2 returns-3)
