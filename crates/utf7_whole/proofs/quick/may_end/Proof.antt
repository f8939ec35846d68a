use borrow.Author.Tests.{eq-eqb, ne_eqb}
use borrow.Author.Rules.{rules}
use Rattle.utf7_whole.proofs.quick.may_end.Statement.{statement}
use Rattle.utf7_whole.proofs.quick.may_end.Tie as tie

returns : tie.Need-returns-then-more-eq0
returns c = rw (eq-eqb _ _ c.if-more-eq0.true)

sub-result : tie.Need-overflow_sub-result
sub-result c = search rules

array-read-result : tie.Need-bounds-x-c
array-read-result c = search rules

returns-2 : tie.Need-returns-then-more-eq3
returns-2 c = rw (ne_eqb _ _ c.if-more-eq0.false, eq-eqb _ _ c.if-more-eq3.true)

sub-result-2 : tie.Need-overflow_sub-result-then-more-eq6
sub-result-2 c = search rules

array-read-result-2 : tie.Need-bounds-x-c-then-more-eq6
array-read-result-2 c = search rules

returns-3 : tie.Need-returns-then-more-eq6
returns-3 c = rw (ne_eqb _ _ c.if-more-eq0.false, ne_eqb _ _ c.if-more-eq3.false, eq-eqb _ _ c.if-more-eq6.true)

returns-4 : tie.Need-returns
returns-4 c = rw (ne_eqb _ _ c.if-more-eq0.false, ne_eqb _ _ c.if-more-eq3.false, ne_eqb _ _ c.if-more-eq6.false)

pub may_end_spec : {M : Type 1} → statement M
may_end_spec =
    tie.close
    (tie.spec
    returns
    sub-result
    array-read-result
    returns-2
    sub-result-2
    array-read-result-2
    returns-3
    returns-4)
