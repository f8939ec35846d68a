use mathlib.Core.Path.{sym, ◌∙◌}
use mathlib.Core.Bool.{false≢true}
use borrow.Author.Rules.{rules}
use Rattle.jp2_whole.proofs.quick.is_lone.Statement.{statement}
use Rattle.jp2_whole.proofs.quick.is_lone.Tie as tie

returns : tie.Need-returns-then-b-lt32
returns c = λ e. absurd (false≢true e)

returns-2 : tie.Need-returns-then-b-ge128
returns-2 c = λ e. absurd (false≢true e)

returns-3 : tie.Need-returns-then-next-at
returns-3 c = λ e. absurd (false≢true e)

is-single-requires : tie.Need-is_single-requires
is-single-requires c κs = search rules

returns-4 : tie.Need-returns
returns-4 c = λ e. ((c.if-b-lt32.false, c.if-b-ge128.false), sym c.is_single.ensures ∙ e)

pub is_lone_spec : {M : Type 1} → statement M
is_lone_spec =
    tie.close
    (tie.spec
    returns
    returns-2
    returns-3
    is-single-requires
    returns-4)
