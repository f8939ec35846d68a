use mathlib.Core.Path.{refl, sym, ◌∙◌}
use mathlib.Core.Bool.{true, false}
use native.Mathlib.Omega.{arith}
use Rattle.answer.proofs.Below.{all_below}
use Rattle.utf7.specs.declared.Style.TheVariants.{Header}
use Rattle.utf7.specs.Sets.{own, direct, set_d, set_o, alphanumeric}
use Rattle.utf7.proofs.Sets.{own_range, own-past, own-low}
use borrow.Author.Rules.{rules}
use Rattle.utf7.proofs.is_header.Statement.{statement}
use Rattle.utf7.proofs.is_header.Tie as tie

returns : tie.Need-returns-then-u-gt122
unfolding own direct set_d set_o alphanumeric all_below
returns c = own-past Header 123 5 refl (omega arith) c.args.u c.if-u-gt122.true

returns-2 : tie.Need-returns-then-u-gt96
unfolding own direct set_d set_o alphanumeric all_below
returns-2 c = own_range Header true 97 26 refl c.args.u c.if-u-gt96.true (omega arith)

returns-3 : tie.Need-returns-then-u-gt90
unfolding own direct set_d set_o alphanumeric all_below
returns-3 c = own_range Header false 91 6 refl c.args.u c.if-u-gt90.true (omega arith)

returns-4 : tie.Need-returns-then-u-gt64
unfolding own direct set_d set_o alphanumeric all_below
returns-4 c = own_range Header true 65 26 refl c.args.u c.if-u-gt64.true (omega arith)

returns-5 : tie.Need-returns-then-u-gt63
unfolding own direct set_d set_o alphanumeric all_below
returns-5 c = own_range Header false 64 1 refl c.args.u c.if-u-gt63.true (omega arith)

returns-6 : tie.Need-returns-then-u-gt62
unfolding own direct set_d set_o alphanumeric all_below
returns-6 c = own_range Header true 63 1 refl c.args.u c.if-u-gt62.true (omega arith)

returns-7 : tie.Need-returns-then-u-gt58
unfolding own direct set_d set_o alphanumeric all_below
returns-7 c = own_range Header false 59 4 refl c.args.u c.if-u-gt58.true (omega arith)

returns-8 : tie.Need-returns-then-u-gt43
unfolding own direct set_d set_o alphanumeric all_below
returns-8 c = own_range Header true 44 15 refl c.args.u c.if-u-gt43.true (omega arith)

returns-9 : tie.Need-returns-then-u-gt41
unfolding own direct set_d set_o alphanumeric all_below
returns-9 c = own_range Header false 42 2 refl c.args.u c.if-u-gt41.true (omega arith)

returns-10 : tie.Need-returns-then-u-gt38
unfolding own direct set_d set_o alphanumeric all_below
returns-10 c = own_range Header true 39 3 refl c.args.u c.if-u-gt38.true (omega arith)

returns-11 : tie.Need-returns-then-u-gt32
unfolding own direct set_d set_o alphanumeric all_below
returns-11 c = own_range Header false 33 6 refl c.args.u c.if-u-gt32.true (omega arith)

returns-12 : tie.Need-returns-then-u-gt31
unfolding own direct set_d set_o alphanumeric all_below
returns-12 c = own_range Header true 32 1 refl c.args.u c.if-u-gt31.true (omega arith)

is-line-blank-requires : tie.Need-is_line_blank-requires
is-line-blank-requires c κs = search rules

returns-13 : tie.Need-returns
returns-13 c = c.is_line_blank.ensures ∙ sym (own-low Header tt c.args.u (omega arith))

pub is_header_spec : {M : Type 1} → statement M
is_header_spec =
    tie.close
    (tie.spec
    returns
    returns-2
    returns-3
    returns-4
    returns-5
    returns-6
    returns-7
    returns-8
    returns-9
    returns-10
    returns-11
    returns-12
    is-line-blank-requires
    returns-13)
