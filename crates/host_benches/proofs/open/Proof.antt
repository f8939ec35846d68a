use mathlib.Core.Path.{sym, ◌∙◌}
use Rattle.host_benches.proofs.OnBenches.{none-opened, opened-found}
use borrow.Author.Rules.{rules}
use Rattle.host_benches.proofs.open.Statement.{statement}
use Rattle.host_benches.proofs.open.Tie as tie

not-opened-requires : tie.Need-not_opened-none-requires
not-opened-requires c κs = search rules

no-kind-requires : tie.Need-no_kind-requires
no-kind-requires c κs = search rules

unread-requires : tie.Need-unread-answer-requires
unread-requires c κs = search rules

returns : tie.Need-returns-then-no_kind
returns c =
    let no-kind' = c.no_kind in
    let not-opened' = c.not_opened-none in
    let a = c.args in
    none-opened a.kind0 a.kind1 a.arrived0.now a.arrived1.now a.text0.now a.text1.now
    a.history.now not-opened'.result not-opened'.ensures c.unread-answer.result
    (sym no-kind'.ensures ∙ c.if-no_kind.true) c.unread-answer.ensures

kind-of-requires : tie.Need-kind_of-first-requires
kind-of-requires c κs = search rules

kind-of-requires-2 : tie.Need-kind_of-second-requires
kind-of-requires-2 c κs = search rules

open-requires : tie.Need-open-requires
open-requires c κs = search rules

edited-requires : tie.Need-edited-requires
edited-requires c κs = search rules

same_length : tie.Need-shape_of-text0
same_length c = search rules

same-length-2 : tie.Need-shape_of-text1
same-length-2 c = search rules

same-length-3 : tie.Need-shape_of-history
same-length-3 c = search rules

returns-2 : tie.Need-returns
returns-2 c =
    let open' = c.before.before.before.before.before.before.before.«open» in
    let c11 = c in
    let c15 = c11 in
    let no-kind' = c11.no_kind in
    let not-opened' = c15.not_opened-none in
    let a = c15.args in
    opened-found a.kind0 a.kind1 a.arrived0.now a.arrived1.now a.text0.now a.text1.now
    a.history.now not-opened'.result not-opened'.ensures _ open'.result _ _ _ _ _
    (sym no-kind'.ensures ∙ c11.if-no_kind.false) c11.kind_of-first.ensures
    c11.kind_of-second.ensures c.edited.ensures open'.ensures

pub open_spec : {M : Type 1} → statement M
open_spec =
    tie.close
    (tie.spec
    not-opened-requires
    no-kind-requires
    unread-requires
    returns
    kind-of-requires
    kind-of-requires-2
    open-requires
    edited-requires
    same_length
    same-length-2
    same-length-3
    returns-2)
