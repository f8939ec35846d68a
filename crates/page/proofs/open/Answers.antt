use Rattle.std.proofs.Common.{sym, ◌∙◌}
use Rattle.page.proofs.Openings.{long-arrived, long-text, long-history, open-accepted, open-refused}
use Rattle.page.proofs.open.Goals as goal
use Rattle.page.proofs.open.Goals.{then-over_limit-via-then-over_limit, then-over_limit-via-else-over_limit+then-over_limit-2, then-over_limit-via-else-over_limit+else-over_limit-2+then-over_limit-3}

pub returns-then-over_limit : goal.returns-then-over_limit
returns-then-over_limit c =
    let a = c.args in
    elim c.then-over_limit.branch [
      | then-over_limit-via-then-over_limit w ↦
          rw (c.refused.ensures, c.fresh-none.ensures, c.too_long.ensures)
          (sym (long-arrived a.kind a.arrived.now a.text.now a.history.now
          (sym c.over_limit.ensures ∙ w.if-over_limit.true)))
      | then-over_limit-via-else-over_limit+then-over_limit-2 w ↦
          rw (c.refused.ensures, c.fresh-none.ensures, c.too_long.ensures)
          (sym (long-text a.kind a.arrived.now a.text.now a.history.now
          (sym c.over_limit.ensures ∙ w.if-over_limit.false)
          (sym w.over_limit-else-over_limit.ensures ∙ w.if-over_limit-2.true)))
      | then-over_limit-via-else-over_limit+else-over_limit-2+then-over_limit-3 w ↦
          rw (c.refused.ensures, c.fresh-none.ensures, c.too_long.ensures)
          (sym (long-history a.kind a.arrived.now a.text.now a.history.now
          (sym c.over_limit.ensures ∙ w.if-over_limit.false)
          (sym w.over_limit-else-over_limit.ensures ∙ w.if-over_limit-2.false)
          (sym w.over_limit-else-over_limit-2.ensures ∙ w.if-over_limit-3.true)))
    ]

pub returns-in-Ok : goal.returns-in-Ok
returns-in-Ok c =
    let a = c.args in
    c.opened.ensures
    ∙ sym (open-accepted a.kind a.arrived.now a.text.now a.history.now
    (sym c.over_limit.ensures ∙ c.if-over_limit.false)
    (sym c.over_limit-else-over_limit.ensures ∙ c.if-over_limit-2.false)
    (sym c.over_limit-else-over_limit-2.ensures ∙ c.if-over_limit-3.false)
    c.format.result c.format.ensures c.read-answer.result c.read-answer.new.out c.read-answer.ensures _ c.in-Ok.is)

pub returns-in-Err : goal.returns-in-Err
returns-in-Err c =
    let a = c.args in
    let q =
    open-refused a.kind a.arrived.now a.text.now a.history.now
    (sym c.over_limit.ensures ∙ c.if-over_limit.false)
    (sym c.over_limit-else-over_limit.ensures ∙ c.if-over_limit-2.false)
    (sym c.over_limit-else-over_limit-2.ensures ∙ c.if-over_limit-3.false)
    c.format.result c.format.ensures c.read-answer.result c.read-answer.new.out c.read-answer.ensures _ c.in-Err.is in
    rw (c.refused-in-Err.ensures, c.fresh-none.ensures, q.0) (sym q.1)
