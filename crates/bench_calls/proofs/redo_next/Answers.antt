-- No undone step is left, or the first one is moved over.
use Rattle.std.proofs.Common.{◌∙◌}
use Rattle.bench_calls.proofs.Turns.{redo-none, redo-some}
use Rattle.bench_calls.proofs.redo_next.Goals as goal

pub returns-then-p-b : goal.returns-then-p-b
returns-then-p-b c =
    let a = c.args in
    rw c.stays.ensures (redo-none a.b a.used a.p a.text.now a.history.now c.if-p-b.true)

pub returns : goal.returns
returns c =
    let a = c.args in
    c.move_at.ensures ∙ redo-some a.b a.used a.p a.text.now a.history.now c.if-p-b.false
