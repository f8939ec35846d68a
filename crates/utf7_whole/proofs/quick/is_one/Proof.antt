use borrow.Author.Tests.{ltb-true, eqb-true}
use Rattle.answer.proofs.Below.{both}
use Rattle.utf7_whole.proofs.quick.is_one.Statement.{statement}
use Rattle.utf7_whole.proofs.quick.is_one.Tie as tie

returns : tie.Need-returns
returns c = λ e.
    let f = both _ _ e in
    let g = both _ _ f.0 in
    let h = both _ _ g.0 in
    let i = both _ _ h.0 in
    (ltb-true _ _ i.0, ltb-true _ _ i.1, ltb-true _ _ h.1, eqb-true _ _ g.1, eqb-true _ _ f.1)

pub is_one_spec : {M : Type 1} → statement M
is_one_spec = tie.close (tie.spec returns)
