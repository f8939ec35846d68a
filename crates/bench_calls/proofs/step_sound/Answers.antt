-- The caller's step, placed beside the other bench.
use Rattle.std.proofs.Common.{sym, ap, ◌∙◌}
use borrow.Author.Tests.{eq-eqb, ne_eqb}
use Rattle.benches.specs.Words.{first, second}
use Rattle.benches.specs.Benches.{State, state_of}
use Rattle.bench_calls.specs.Leaving.{placed}
use Rattle.bench_calls.proofs.Turns.{first-stepped, second-stepped, first-steppable, second-steppable}
use Rattle.bench_calls.proofs.step_sound.Goals as goal
use Rattle.bench_calls.proofs.step_sound.Goals.{then-bench-eq0, else-bench-eq0}

pub step_on-t-requires : goal.step_on-t-requires
step_on-t-requires c =
    let a = c.args in
    let t : State = state_of a.b a.text0.now a.text1.now a.history.now in
    first-steppable t a.bench a.p c.requires a.forward c.if-bench-eq0.true

pub step_on-t-requires-else-bench-eq0 : goal.step_on-t-requires-else-bench-eq0
step_on-t-requires-else-bench-eq0 c =
    let a = c.args in
    let t : State = state_of a.b a.text0.now a.text1.now a.history.now in
    second-steppable t a.bench a.p c.requires a.forward c.if-bench-eq0.false

pub returns : goal.returns
returns c =
    let a = c.args in
    let t : State = state_of a.b a.text0.now a.text1.now a.history.now in
    elim c.if-bench-eq0.branch [
      | then-bench-eq0 w ↦
          rw (c.back.ensures, w.text0-is, w.text1-is, w.t-is, eq-eqb a.bench 0 w.if-bench-eq0.true)
          (ap (placed t first) w.step_on-t.ensures
          ∙ sym (first-stepped t a.bench a.p c.requires a.forward w.if-bench-eq0.true))
      | else-bench-eq0 w ↦
          rw (c.back.ensures, w.text0-is, w.text1-is, w.t-is, ne_eqb a.bench 0 w.if-bench-eq0.false)
          (ap (placed t second) w.step_on-t-else-bench-eq0.ensures
          ∙ sym (second-stepped t a.bench a.p c.requires a.forward w.if-bench-eq0.false))
    ]
