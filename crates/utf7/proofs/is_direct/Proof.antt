use mathlib.Core.Path.{refl, sym, ◌∙◌}
use mathlib.Core.Bool.{true, false}
use native.Mathlib.Omega.{arith}
use Rattle.answer.proofs.Below.{all_below}
use Rattle.utf7.specs.declared.Style.TheVariants.{Body}
use Rattle.utf7.specs.Sets.{own, direct, set_d, set_o, alphanumeric}
use Rattle.utf7.proofs.Sets.{own_range, own-past, own-low}
use borrow.Author.Rules.{rules}
use Rattle.utf7.proofs.is_direct.Statement.{statement}
use Rattle.utf7.proofs.is_direct.Tie as tie

returns : tie.Need-returns-then-u-gt125
unfolding own direct set_d set_o alphanumeric all_below
returns c = own-past Body 126 2 refl (omega arith) c.args.u c.if-u-gt125.true

returns-2 : tie.Need-returns-then-u-gt92
unfolding own direct set_d set_o alphanumeric all_below
returns-2 c = own_range Body true 93 33 refl c.args.u c.if-u-gt92.true (omega arith)

returns-3 : tie.Need-returns-then-u-gt91
unfolding own direct set_d set_o alphanumeric all_below
returns-3 c = own_range Body false 92 1 refl c.args.u c.if-u-gt91.true (omega arith)

returns-4 : tie.Need-returns-then-u-gt43
unfolding own direct set_d set_o alphanumeric all_below
returns-4 c = own_range Body true 44 48 refl c.args.u c.if-u-gt43.true (omega arith)

returns-5 : tie.Need-returns-then-u-gt42
unfolding own direct set_d set_o alphanumeric all_below
returns-5 c = own_range Body false 43 1 refl c.args.u c.if-u-gt42.true (omega arith)

returns-6 : tie.Need-returns-then-u-gt31
unfolding own direct set_d set_o alphanumeric all_below
returns-6 c = own_range Body true 32 11 refl c.args.u c.if-u-gt31.true (omega arith)

is-line-blank-requires : tie.Need-is_line_blank-requires
is-line-blank-requires c κs = search rules

returns-7 : tie.Need-returns
unfolding own
returns-7 c = c.is_line_blank.ensures ∙ sym (own-low Body tt c.args.u (omega arith))

pub is_direct_spec : {M : Type 1} → statement M
is_direct_spec =
    tie.close
    (tie.spec
    returns
    returns-2
    returns-3
    returns-4
    returns-5
    returns-6
    is-line-blank-requires
    returns-7)
