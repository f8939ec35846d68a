use native.Mathlib.Omega.{arith}
use borrow.Author.Tests.{eqb-true, leb-true, ltb-true, not-true}
use Rattle.answer.proofs.Below.{both}
use Rattle.jp2_read.proofs.is_shifted.Statement.{statement}
use Rattle.jp2_read.proofs.is_shifted.Tie as tie

returns : tie.Need-returns
returns c = λ e.
    let p = both _ _ e in
    let q = both _ _ p.0 in
    let r = both _ _ q.0 in
    (eqb-true _ _ r.0, not-true _ r.1, leb-true _ _ q.1, omega (arith, ltb-true c.args.y 128 p.1))

pub is_shifted_spec : {M : Type 1} → statement M
is_shifted_spec = tie.close (tie.spec returns)
