use borrow.Author.Tests.{eq-eqb, ne_eqb}
use borrow.Author.Rules.{rules}
use Rattle.utf7_whole.proofs.quick.may_close.Statement.{statement}
use Rattle.utf7_whole.proofs.quick.may_close.Tie as tie

value-requires : tie.Need-value-v-requires
value-requires c κs = search rules

returns : tie.Need-returns-then-more-eq0
returns c = rw (eq-eqb _ _ c.if-more-eq0.true)

returns-2 : tie.Need-returns-then-more-eq3
returns-2 c = rw (c.value-v.ensures, ne_eqb _ _ c.if-more-eq0.false, eq-eqb _ _ c.if-more-eq3.true)

returns-3 : tie.Need-returns-then-more-eq6
returns-3 c = rw (c.value-v.ensures, ne_eqb _ _ c.if-more-eq0.false, ne_eqb _ _ c.if-more-eq3.false, eq-eqb _ _ c.if-more-eq6.true)

returns-4 : tie.Need-returns
returns-4 c = rw (ne_eqb _ _ c.if-more-eq0.false, ne_eqb _ _ c.if-more-eq3.false, ne_eqb _ _ c.if-more-eq6.false)

pub may_close_spec : {M : Type 1} → statement M
may_close_spec = tie.close (tie.spec value-requires returns returns-2 returns-3 returns-4)
