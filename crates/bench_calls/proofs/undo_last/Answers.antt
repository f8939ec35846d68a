-- No step stands, or the last that stands is moved over.
use Rattle.std.proofs.Common.{◌∙◌}
use Rattle.bench_calls.proofs.Turns.{undo-none, undo-some}
use Rattle.bench_calls.proofs.undo_last.Goals as goal

pub returns-then-b-eq0 : goal.returns-then-b-eq0
returns-then-b-eq0 c =
    let a = c.args in
    rw c.stays.ensures (undo-none a.b a.used a.p a.text.now a.history.now c.if-b-eq0.true)

pub returns : goal.returns
returns c =
    let a = c.args in
    c.move_at.ensures ∙ undo-some a.b a.used a.p a.text.now a.history.now c.if-b-eq0.false
