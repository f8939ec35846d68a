use Rattle.std.proofs.Common.{sym, ap, ◌∙◌}
use Rattle.records.specs.Walking.{judged_of}
use Rattle.records.proofs.Judging.{long-text, long-history, not-long}
use Rattle.records.proofs.judge.Goals as goal
use Rattle.records.proofs.judge.Goals.{then-over_limit-via-then-over_limit, then-over_limit-via-else-over_limit+then-over_limit-2}

pub returns-then-over_limit : goal.returns-then-over_limit
returns-then-over_limit c =
    let a = c.args in
    elim c.then-over_limit.branch [
      | then-over_limit-via-then-over_limit w ↦
          long-text a.page a.text.now a.history.now c.too_long.result c.too_long.ensures
          (sym c.over_limit.ensures ∙ w.if-over_limit.true)
      | then-over_limit-via-else-over_limit+then-over_limit-2 w ↦
          long-history a.page a.text.now a.history.now c.too_long.result c.too_long.ensures
          (sym c.over_limit.ensures ∙ w.if-over_limit.false)
          (sym w.over_limit-else-over_limit.ensures ∙ w.if-over_limit-2.true)
    ]

pub returns : goal.returns
returns c =
    let a = c.args in
    c.ok_or.ensures.value ∙ ap judged_of c.survey.ensures
    ∙ not-long a.page a.text.now a.history.now (sym c.over_limit.ensures ∙ c.if-over_limit.false)
    (sym c.over_limit-else-over_limit.ensures ∙ c.if-over_limit-2.false)
