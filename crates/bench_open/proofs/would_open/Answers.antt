-- Each input over the limit is what the open refuses first; else the reading into no room tells what the open answers.
use Rattle.std.proofs.Common.{sym, ap, ◌∙◌}
use Rattle.ledger.specs.Page.{Outcome}
use Rattle.page.proofs.Openings.{long-arrived, long-text, long-history}
use Rattle.bench_open.proofs.Openings.{told}
use Rattle.bench_open.proofs.would_open.Goals as goal
use Rattle.bench_open.proofs.would_open.Goals.{then-over_limit-via-then-over_limit, then-over_limit-via-else-over_limit+then-over_limit-2, then-over_limit-via-else-over_limit+else-over_limit-2+then-over_limit-3}

pub returns-then-over_limit : goal.returns-then-over_limit
returns-then-over_limit c =
    let a = c.args in
    elim c.then-over_limit.branch [
      | then-over_limit-via-then-over_limit w ↦
          c.too_long.ensures
          ∙ sym
          (ap (λ (o : Outcome). o.verdict)
          (long-arrived a.kind a.arrived.now a.text.now a.history.now (sym c.over_limit.ensures ∙ w.if-over_limit.true)))
      | then-over_limit-via-else-over_limit+then-over_limit-2 w ↦
          c.too_long.ensures
          ∙ sym
          (ap (λ (o : Outcome). o.verdict)
          (long-text a.kind a.arrived.now a.text.now a.history.now (sym c.over_limit.ensures ∙ w.if-over_limit.false)
          (sym w.over_limit-else-over_limit.ensures ∙ w.if-over_limit-2.true)))
      | then-over_limit-via-else-over_limit+else-over_limit-2+then-over_limit-3 w ↦
          c.too_long.ensures
          ∙ sym
          (ap (λ (o : Outcome). o.verdict)
          (long-history a.kind a.arrived.now a.text.now a.history.now
          (sym c.over_limit.ensures ∙ w.if-over_limit.false)
          (sym w.over_limit-else-over_limit.ensures ∙ w.if-over_limit-2.false)
          (sym w.over_limit-else-over_limit-2.ensures ∙ w.if-over_limit-3.true)))
    ]

pub returns : goal.returns
returns c =
    let a = c.args in
    c.in_room.ensures
    ∙ told a.kind a.arrived.now a.text.now a.history.now (sym c.over_limit.ensures ∙ c.if-over_limit.false)
    (sym c.over_limit-else-over_limit.ensures ∙ c.if-over_limit-2.false)
    (sym c.over_limit-else-over_limit-2.ensures ∙ c.if-over_limit-3.false)
    c.format.result c.format.ensures c.read-answer.result _ c.read-answer.ensures
