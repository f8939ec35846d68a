use mathlib.Core.Path.{sym, ◌∙◌}
use mathlib.Core.List.{[]}
use Rattle.benches.specs.Benches.{State}
use Rattle.benches.specs.Calls.{undo_of}
use Rattle.host_benches.proofs.OnBenches.{none_found, edited-found}
use borrow.Author.Rules.{rules}
use Rattle.host_benches.proofs.undo.Statement.{statement}
use Rattle.host_benches.proofs.undo.Tie as tie

no-kind-requires : tie.Need-no_kind-requires
no-kind-requires c κs = search rules

unsound-requires : tie.Need-unsound-answer-requires
unsound-requires c κs = search rules

returns : tie.Need-returns-then-no_kind
returns c =
    let no-kind' = c.no_kind in
    let a = c.args in
    none_found a.b a.bench a.text0.now a.text1.now a.history.now [] []
    (λ (t : State). undo_of t a.bench) c.unsound-answer.result (sym no-kind'.ensures ∙ c.if-no_kind.true)
    c.unsound-answer.ensures

benches-in-requires : tie.Need-benches_in-requires
benches-in-requires c κs = search rules

undo-requires : tie.Need-undo-requires
undo-requires c κs = search rules

edited-requires : tie.Need-edited-requires
edited-requires c κs = search rules

same_length : tie.Need-shape_of-text0
same_length c = search rules

same-length-2 : tie.Need-shape_of-text1
same-length-2 c = search rules

returns-2 : tie.Need-returns
returns-2 c =
    let c9 = c in
    let c10 = c9 in
    let c14 = c10 in
    let no-kind' = c10.no_kind in
    let benches-in' = c.benches_in in
    let undo' = c.undo in
    let a = c14.args in
    edited-found a.b a.bench a.text0.now a.text1.now a.history.now [] []
    (λ (t : State). undo_of t a.bench) _ undo'.result benches-in'.result _ _ _ []
    (sym no-kind'.ensures ∙ c9.if-no_kind.false) benches-in'.ensures c.edited.ensures undo'.ensures

pub undo_spec : {M : Type 1} → statement M
undo_spec =
    tie.close
    (tie.spec
    no-kind-requires
    unsound-requires
    returns
    benches-in-requires
    undo-requires
    edited-requires
    same_length
    same-length-2
    returns-2)
