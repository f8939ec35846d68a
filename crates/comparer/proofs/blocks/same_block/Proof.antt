use mathlib.Core.Bool.{false≢true}
use borrow.Author.Rules.{rules}
use Rattle.comparer.proofs.Cutting.{block-alike}
use Rattle.comparer.proofs.blocks.same_block.Statement.{statement}
use Rattle.comparer.proofs.blocks.same_block.Tie as tie

returns : tie.Need-returns-in-Ok
returns c = λ e.
    let f = c in
    let r = f in
    let a = r.args in
    block-alike a.format a.first.now a.second.now _ _ _ (rw f.in-Ok.is at r.read-found.ensures)
    (c.is_front.ensures e)

returns-2 : tie.Need-returns-in-Err
returns-2 c = λ e. absurd (false≢true e)

pub same_block_spec : {M : Type 1} → statement M
same_block_spec =
    tie.close
    (tie.spec
    (λ c κs. search rules)
    (λ c. search rules)
    (λ c κs. search rules)
    (λ c. search rules)
    (λ c. search rules)
    returns
    (λ c. search rules)
    returns-2)
