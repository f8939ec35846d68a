use borrow.Author.Tests.{lt-leb, le-leb, eq-eqb, ne_eqb}
use Rattle.jp2_whole.proofs.quick.is_shifted.Statement.{statement}
use Rattle.jp2_whole.proofs.quick.is_shifted.Tie as tie

returns : tie.Need-returns-then-g2-eq0
returns c = simp (eq-eqb _ _ c.if-g2-eq0.true)

returns-2 : tie.Need-returns-then-b-lt32
returns-2 c = simp (ne_eqb _ _ c.if-g2-eq0.false, lt-leb _ _ c.if-b-lt32.true)

returns-3 : tie.Need-returns
returns-3 c = simp (ne_eqb _ _ c.if-g2-eq0.false, le-leb _ _ c.if-b-lt32.false)

pub is_shifted_spec : {M : Type 1} → statement M
is_shifted_spec = tie.close (tie.spec returns returns-2 returns-3)
