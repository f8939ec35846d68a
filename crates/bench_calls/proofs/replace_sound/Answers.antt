-- The caller's replace, placed beside the other bench.
use Rattle.std.proofs.Common.{length, sym, ap, ◌∙◌}
use borrow.Author.Tests.{ltb-false, eq-eqb, ne_eqb}
use Rattle.answer.specs.Answer.{limit}
use Rattle.benches.specs.Words.{first, second}
use Rattle.benches.specs.Benches.{State, state_of}
use Rattle.bench_calls.specs.Leaving.{placed}
use Rattle.bench_calls.proofs.Replaced.{first-shared, second-shared, first-replaced, second-replaced}
use Rattle.bench_calls.proofs.replace_sound.Goals as goal
use Rattle.bench_calls.proofs.replace_sound.Goals.{then-bench-eq0, else-bench-eq0}

pub replace_on-t-requires : goal.replace_on-t-requires
replace_on-t-requires c =
    let a = c.args in
    let t : State = state_of a.b a.text0.now a.text1.now a.history.now in
    (first-shared t a.bench a.p c.requires.0 c.if-bench-eq0.true, ltb-false limit (length a.cells.now) c.requires.1)

pub replace_on-t-requires-else-bench-eq0 : goal.replace_on-t-requires-else-bench-eq0
replace_on-t-requires-else-bench-eq0 c =
    let a = c.args in
    let t : State = state_of a.b a.text0.now a.text1.now a.history.now in
    (second-shared t a.bench a.p c.requires.0 c.if-bench-eq0.false, ltb-false limit (length a.cells.now) c.requires.1)

pub returns : goal.returns
returns c =
    let a = c.args in
    let t : State = state_of a.b a.text0.now a.text1.now a.history.now in
    elim c.if-bench-eq0.branch [
      | then-bench-eq0 w ↦
          rw (c.back.ensures, w.text0-is, w.text1-is, w.history-is, w.t-is, eq-eqb a.bench 0 w.if-bench-eq0.true)
          (ap (placed t first) w.replace_on-t.ensures
          ∙ sym
          (first-replaced t a.bench a.p c.requires.0 a.place a.count a.cells.now c.requires.1 w.if-bench-eq0.true))
      | else-bench-eq0 w ↦
          rw (c.back.ensures, w.text0-is, w.text1-is, w.history-is, w.t-is, ne_eqb a.bench 0 w.if-bench-eq0.false)
          (ap (placed t second) w.replace_on-t-else-bench-eq0.ensures
          ∙ sym
          (second-replaced t a.bench a.p c.requires.0 a.place a.count a.cells.now c.requires.1 w.if-bench-eq0.false))
    ]
