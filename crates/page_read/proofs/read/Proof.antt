use mathlib.Core.Path.{sym, ap, ◌∙◌}
use lib.ListN.{length}
use borrow.Author.Tests.{ltb-false}
use Rattle.answer.specs.Answer.{limit}
use Rattle.page_file.specs.Calls.{unread}
use Rattle.page_read.specs.Inner.{content_in}
use Rattle.page_read.proofs.Finds.{not_yes, not-no, plan-no, plan-yes}
use Rattle.page_read.proofs.Answers.{refused_as, long-arrived, long-text, long-history, bad-file, good-file}
use borrow.Author.Rules.{rules}
use Rattle.page_read.proofs.read.Statement.{statement}
use Rattle.page_read.proofs.read.Tie as tie

over-limit-requires : tie.Need-over_limit-requires
over-limit-requires c κs = search rules

too-long-requires : tie.Need-too_long-requires
too-long-requires c κs = search rules

unread-requires : tie.Need-unread-requires
unread-requires c κs = search rules

returns : tie.Need-returns-then-over_limit
returns c =
    let a = c.args in
    let over-limit' = c.over_limit in
    let too-long' = c.too_long in
    let unread' = c.unread in
    refused_as _ unread'.result a.arrived.now a.text.now a.history.now unread'.ensures ∙ ap
    (unread a.arrived.now a.text.now a.history.now) too-long'.ensures ∙ sym
    (long-arrived a.arrived.now a.text.now a.history.now a.file.now
    (sym over-limit'.ensures ∙ c.if-over_limit.true))

over-limit-requires-2 : tie.Need-over_limit-requires-2
over-limit-requires-2 c κs = search rules

too-long-requires-2 : tie.Need-too_long-requires-then-over_limit-2
too-long-requires-2 c κs = search rules

unread-requires-2 : tie.Need-unread-requires-then-over_limit-2
unread-requires-2 c κs = search rules

returns-2 : tie.Need-returns-then-over_limit-2
returns-2 c =
    let a = c.args in
    let over-limit' = c.over_limit in
    let over-limit2' = c.over_limit-2 in
    let too-long2' = c.too_long-then-over_limit-2 in
    let unread2' = c.unread-then-over_limit-2 in
    refused_as _ unread2'.result a.arrived.now a.text.now a.history.now unread2'.ensures ∙ ap
    (unread a.arrived.now a.text.now a.history.now) too-long2'.ensures ∙ sym
    (long-text a.arrived.now a.text.now a.history.now a.file.now
    (sym over-limit'.ensures ∙ c.if-over_limit.false) (sym over-limit2'.ensures ∙ c.if-over_limit-2.true))

over-limit-requires-3 : tie.Need-over_limit-requires-3
over-limit-requires-3 c κs = search rules

too-long-requires-3 : tie.Need-too_long-requires-then-over_limit-3
too-long-requires-3 c κs = search rules

unread-requires-3 : tie.Need-unread-requires-then-over_limit-3
unread-requires-3 c κs = search rules

returns-3 : tie.Need-returns-then-over_limit-3
returns-3 c =
    let a = c.args in
    let over-limit' = c.over_limit in
    let over-limit2' = c.over_limit-2 in
    let over-limit3' = c.over_limit-3 in
    let too-long3' = c.too_long-then-over_limit-3 in
    let unread3' = c.unread-then-over_limit-3 in
    refused_as _ unread3'.result a.arrived.now a.text.now a.history.now unread3'.ensures ∙ ap
    (unread a.arrived.now a.text.now a.history.now) too-long3'.ensures ∙ sym
    (long-history a.arrived.now a.text.now a.history.now a.file.now
    (sym over-limit'.ensures ∙ c.if-over_limit.false) (sym over-limit2'.ensures ∙ c.if-over_limit-2.false)
    (sym over-limit3'.ensures ∙ c.if-over_limit-3.true))

plan-of-requires : tie.Need-plan_of-plan-requires
plan-of-requires c κs = search rules

unread-requires-4 : tie.Need-unread-requires-then-not-plan
unread-requires-4 c κs = search rules

returns-4 : tie.Need-returns-then-not-plan
returns-4 c =
    let a = c.args in
    let over-limit' = c.over_limit in
    let over-limit2' = c.over_limit-2 in
    let over-limit3' = c.over_limit-3 in
    let plan-of' = c.plan_of-plan in
    let unread4' = c.unread-then-not-plan in
    refused_as _ unread4'.result a.arrived.now a.text.now a.history.now unread4'.ensures ∙ sym
    (bad-file a.arrived.now a.text.now a.history.now a.file.now
    (sym over-limit'.ensures ∙ c.if-over_limit.false) (sym over-limit2'.ensures ∙ c.if-over_limit-2.false)
    (sym over-limit3'.ensures ∙ c.if-over_limit-3.false) (plan-no a.file.now plan-of'.result plan-of'.ensures.0
    (not_yes _ c.if-not-plan.true)))

read-fitting-requires : tie.Need-read_fitting-requires
read-fitting-requires c κs =
    let a = c.args in
    let over-limit2' = c.over_limit-2 in
    let over-limit3' = c.over_limit-3 in
    let plan-of' = c.plan_of-plan in (
      plan-of'.ensures.1 (not-no _ c.if-not-plan.false),
      ltb-false limit (length a.text.now)
          (sym over-limit2'.ensures ∙ c.if-over_limit-2.false),
      ltb-false limit (length a.history.now)
          (sym over-limit3'.ensures ∙ c.if-over_limit-3.false),
    )

same_length : tie.Need-shape_of-arrived
same_length c = search rules

same-length-2 : tie.Need-shape_of-text
same-length-2 c = search rules

same-length-3 : tie.Need-shape_of-history
same-length-3 c = search rules

returns-5 : tie.Need-returns
returns-5 c =
    let a = c.args in
    let over-limit' = c.over_limit in
    let over-limit2' = c.over_limit-2 in
    let over-limit3' = c.over_limit-3 in
    let plan-of' = c.plan_of-plan in
    let read-fitting' = c.read_fitting in
    read-fitting'.ensures ∙ sym (good-file a.arrived.now a.text.now a.history.now a.file.now
    (sym over-limit'.ensures ∙ c.if-over_limit.false) (sym over-limit2'.ensures ∙ c.if-over_limit-2.false)
    (sym over-limit3'.ensures ∙ c.if-over_limit-3.false) (content_in a.file.now plan-of'.result)
    (plan-yes a.file.now plan-of'.result plan-of'.ensures.0 (not-no _ c.if-not-plan.false)))

pub read_spec : {M : Type 1} → statement M
read_spec =
    tie.close
    (tie.spec
    over-limit-requires
    too-long-requires
    unread-requires
    returns
    over-limit-requires-2
    too-long-requires-2
    unread-requires-2
    returns-2
    over-limit-requires-3
    too-long-requires-3
    unread-requires-3
    returns-3
    plan-of-requires
    unread-requires-4
    returns-4
    read-fitting-requires
    same_length
    same-length-2
    same-length-3
    returns-5)
