use borrow.Author.Tests.{lt-ltb, le-ltb}
use Rattle.jp2.specs.Rule.{shifted_does}
use borrow.Author.Rules.{rules}
use Rattle.jp2_read.proofs.shifted.Statement.{statement}
use Rattle.jp2_read.proofs.shifted.Tie as tie

returns : tie.Need-returns-then-b-lt32
unfolding shifted_does
returns c = rw (lt-ltb _ _ c.if-b-lt32.true)

cell-of-requires : tie.Need-cell_of-requires
cell-of-requires c κs = search rules

returns-2 : tie.Need-returns
unfolding shifted_does
returns-2 c = rw (le-ltb _ _ c.if-b-lt32.false, c.cell_of.ensures)

pub shifted_spec : {M : Type 1} → statement M
shifted_spec = tie.close (tie.spec returns cell-of-requires returns-2)
