-- Another bench's record is moved, as `shift_left` has it.
use Rattle.std.proofs.Common.{refl, ◌∙◌, arith}
use Rattle.splice.proofs.Splices.{shifted_in}
use Rattle.bench_calls.proofs.gap.keep_other.Goals as goal

pub returns : goal.returns
returns c =
    let a = c.args in
    let l = shifted_in a.history.now a.at a.to a.size (omega arith) (omega arith) in
    ((λ e. absurd (c.if-wide-mine.false (c.wide.ensures.0 ∙ e))), (λ _. (refl, c.shift_left.ensures ∙ l)))
