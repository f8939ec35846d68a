use Rattle.std.proofs.Common.{refl, sym, ◌∙◌, arith}
use Rattle.bench_records.proofs.Turns.{turn_end, turn-cut, turn-short, turn-broken, turn-through, turn-bounded}
use Rattle.bench_records.proofs.pass_over.Goals as goal

pub loop-at-init : goal.loop-at-init
loop-at-init c = (omega arith, record { fits = omega arith; few = omega arith; small = omega arith }, refl)

pub returns-then-used-at-lt4 : goal.returns-then-used-at-lt4
returns-then-used-at-lt4 c =
    let a = c.args in
    let l = c.loop-at in
    sym
    (l.invariant.2
    ∙ turn-cut a.room a.standing a.mine (omega arith) a.history.now a.used (omega arith) l.at l.p
    (omega arith) (omega arith))

pub returns-then-used-at : goal.returns-then-used-at
returns-then-used-at c =
    let a = c.args in
    let l = c.loop-at in
    let h = c.head_at-h in
    sym
    (l.invariant.2
    ∙ turn-short a.room a.standing a.mine (omega arith) a.history.now a.used (omega arith) l.at
    l.p (omega arith) h.result h.ensures.0 (omega arith))

pub pass_one-requires : goal.pass_one-requires
pass_one-requires c = (c.loop-at.invariant.1, omega arith, omega arith, c.head_at-h.ensures.1)

pub returns-in_err-pass : goal.returns-in_err-pass
returns-in_err-pass c =
    let a = c.args in
    let l = c.loop-at in
    let h = c.head_at-h in
    let f = c.pass_one in
    c.from_residual.ensures
    ∙ sym
    (l.invariant.2
    ∙ turn-broken a.room a.standing a.mine (omega arith) a.history.now a.used (omega arith) l.at
    l.p (omega arith) h.result h.ensures.0 (omega arith) f.result f.ensures c.in_err-pass.was)

pub past_alike-run-requires : goal.past_alike-run-requires
past_alike-run-requires c =
    let a = c.args in
    let one = c.requires.2 in
    let l = c.loop-at in
    let h = c.head_at-h in
    let f = c.pass_one in
    let bounded =
    turn-bounded a.room a.standing a.mine one a.history.now a.used (omega arith) l.at l.p
    (omega arith) h.result h.ensures.0 (omega arith) f.result f.ensures l.invariant.1 _ c.in_ok-pass.was in
    (omega arith, omega arith, omega arith, one, bounded, omega arith, omega arith)

pub loop-at-preserved : goal.loop-at-preserved
loop-at-preserved c =
    let a = c.args in
    let l = c.loop-at in
    let h = c.head_at-h in
    let f = c.pass_one in
    let run = c.past_alike-run.ensures in (
      run.1,
      run.2,
      l.invariant.2
          ∙ turn-through a.room a.standing a.mine c.requires.2 a.history.now a.used (omega arith) l.at
          l.p (omega arith) h.result h.ensures.0 (omega arith) f.result f.ensures _ c.in_ok-pass.was
          ∙ run.3,
    )

pub returns : goal.returns
returns c =
    let a = c.args in
    let l = c.loop-at in
    sym
    (l.invariant.2
    ∙ turn_end a.room a.standing a.mine (omega arith) a.history.now a.used (omega arith) l.at l.p
    (omega arith))
