use mathlib.Core.Path.{sym, ◌∙◌}
use mathlib.Core.Bool.{false≢true}
use native.Mathlib.Omega.{arith}
use lib.Seq.{length-take-le}
use borrow.Author.Rules.{rules}
use Rattle.comparer.proofs.blocks.is_front.Statement.{statement}
use Rattle.comparer.proofs.blocks.is_front.Tie as tie

returns : tie.Need-returns-then-cells-n
returns c = λ e. absurd (false≢true e)

slice-aggregate-reads-as : tie.Need-slice_bounds-reads_as-end
slice-aggregate-reads-as c =
    let a = c.args in
    sym (length-take-le a.n a.cells.now (omega arith))

returns-2 : tie.Need-returns
returns-2 c = λ e. sym c.reads_as.ensures ∙ e

pub is_front_spec : {M : Type 1} → statement M
is_front_spec =
    tie.close
    (tie.spec
    returns
    slice-aggregate-reads-as
    (λ c κs. search rules)
    returns-2)
