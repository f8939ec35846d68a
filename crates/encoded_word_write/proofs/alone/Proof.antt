use Rattle.encoded_word_write.proofs.Bringing.{alone-high, alone-sign, alone-pair, alone-run}
use mathlib.Core.Path.{sym, ◌∙◌}
use borrow.Author.Tests.{eqb-true}
use borrow.Author.Rules.{rules}
use Rattle.encoded_word_write.proofs.alone.Statement.{statement}
use Rattle.encoded_word_write.proofs.alone.Tie as tie

returns : tie.Need-returns-then-u-gt127
returns c = sym (alone-high _ c.if-u-gt127.true)

is-plain-requires : tie.Need-is_plain-requires
is-plain-requires c κs = search rules

returns-2 : tie.Need-returns-then-is_plain
returns-2 c = sym (eqb-true _ 1 (sym c.is_plain.ensures ∙ c.if-is_plain.true))

returns-3 : tie.Need-returns-then-u-eq43
returns-3 c = alone-sign _ c.if-u-eq43.true

is-own-requires : tie.Need-is_own-requires
is-own-requires c κs = search rules

returns-4 : tie.Need-returns-then-is_own
returns-4 c =
    let e = sym c.is_plain.ensures ∙ c.if-is_plain.false in
    alone-pair _ (sym c.is_own.ensures ∙ c.if-is_own.true) e

returns-5 : tie.Need-returns
returns-5 c = alone-run _ (sym c.is_own.ensures ∙ c.if-is_own.false) c.if-u-eq43.false

pub alone_spec : {M : Type 1} → statement M
alone_spec =
    tie.close
    (tie.spec
    returns
    is-plain-requires
    returns-2
    returns-3
    is-own-requires
    returns-4
    returns-5)
