use mathlib.Core.Path.{sym, ◌∙◌}
use native.Mathlib.Omega.{arith}
use borrow.Author.Rules.{rules}
use Rattle.utf7_whole.proofs.Buffers.{last_none, last_done}
use Rattle.utf7_whole.proofs.quick.put_last.Statement.{statement}
use Rattle.utf7_whole.proofs.quick.put_last.Tie as tie

letters-end-requires : tie.Need-letters_end-end-requires
letters-end-requires c κs = search rules

sub-c : tie.Need-overflow_sub-c
sub-c c = search rules

returns : tie.Need-returns-then-c-gt31
returns c = last_none _ _ _ _

units-requires : tie.Need-units-u-requires
units-requires c κs = search rules

add-if2 : tie.Need-overflow_add-n
add-if2 c = search rules

returns-2 : tie.Need-returns-then-out-n
returns-2 c = last_none _ _ _ _

values-near-requires : tie.Need-values_near-x-requires
values-near-requires c κs = search rules

may-end-requires : tie.Need-may_end-requires
may-end-requires c κs = search rules

twelve-requires : tie.Need-twelve-requires
twelve-requires c κs = search rules

lay-requires : tie.Need-lay-requires
lay-requires c κs = search rules

add-t19 : tie.Need-overflow_add-result
add-t19 c = search rules

same_length : tie.Need-shape_of-out-then-may_end
same_length c = search rules

returns-3 : tie.Need-returns-then-may_end
returns-3 c =
    let m = c in
    let l = m in
    last_done _ l.letters_end-end.ensures (omega (arith, m.if-c-gt31.false)) m.values_near-x.ensures (sym m.may_end.ensures ∙ c.if-may_end.true)
    m.units-u.ensures c.twelve.ensures c.lay.ensures l.requires.2

returns-4 : tie.Need-returns
returns-4 c = last_none _ _ _ _

pub put_last_spec : {M : Type 1} → statement M
put_last_spec =
    tie.close
    (tie.spec
    letters-end-requires
    sub-c
    returns
    units-requires
    add-if2
    returns-2
    values-near-requires
    may-end-requires
    twelve-requires
    lay-requires
    add-t19
    same_length
    returns-3
    returns-4)
