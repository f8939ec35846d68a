use mathlib.Core.Path.{sym, ◌∙◌}
use Rattle.splice.proofs.Splices.{fits-so, fit-left, unfit-left}
use borrow.Author.Rules.{rules}
use Rattle.splice.proofs.splice_in.Statement.{statement}
use Rattle.splice.proofs.splice_in.Tie as tie

is-fitting-requires : tie.Need-is_fitting-requires
is-fitting-requires c κs = search rules

returns : tie.Need-returns-then-not-is_fitting
returns c =
    let a = c.args in
    unfit-left a.buffer.now a.cells.now a.used a.place a.count (sym c.is_fitting.ensures ∙ c.if-not-is_fitting.true)

splice-fitting-requires : tie.Need-splice_fitting-requires
splice-fitting-requires c κs =
    let a = c.args in
    fits-so a.buffer.now a.cells.now a.used a.place a.count (sym c.is_fitting.ensures ∙ c.if-not-is_fitting.false)

same_length : tie.Need-shape_of-buffer
same_length c = search rules

returns-2 : tie.Need-returns
returns-2 c =
    let a = c.args in
    let e = c.splice_fitting in
    fit-left a.buffer.now a.cells.now a.used a.place a.count (sym c.is_fitting.ensures ∙ c.if-not-is_fitting.false) e.result e.new.buffer e.ensures

pub splice_in_spec : {M : Type 1} → statement M
splice_in_spec = tie.close (tie.spec is-fitting-requires returns splice-fitting-requires same_length returns-2)
