use Rattle.std.proofs.Common.{ℕ, ◌≡◌, ◌∙◌, sym, ap, drop, arith}
use Rattle.std.proofs.Math.Seq.{paste}
use Rattle.splice.proofs.Splices.{move_same}
use Rattle.splice.proofs.move_part.Goals as goal

pub returns-else-from-to : goal.returns-else-from-to
returns-else-from-to c =
    let a = c.args in
    let e : a.to ≡ a.from = omega arith in
    sym (move_same a.s.now a.to a.n) ∙ ap (λ (k : ℕ). paste a.s.now a.to (drop k a.s.now) a.n) e
