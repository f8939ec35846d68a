use mathlib.Core.Path.{sym, ◌∙◌}
use mathlib.Core.List.{[]}
use Rattle.benches.specs.Benches.{State}
use Rattle.benches.specs.Calls.{replace_of}
use Rattle.host_benches.proofs.OnBenches.{none_found, edited-found}
use borrow.Author.Rules.{rules}
use Rattle.host_benches.proofs.replace.Statement.{statement}
use Rattle.host_benches.proofs.replace.Tie as tie

no-kind-requires : tie.Need-no_kind-requires
no-kind-requires c κs = search rules

unsound-requires : tie.Need-unsound-answer-requires
unsound-requires c κs = search rules

returns : tie.Need-returns-then-no_kind
returns c =
    let a = c.args in
    none_found a.b a.bench a.text0.now a.text1.now a.history.now [] a.cells.now
    (λ (t : State). replace_of t a.bench a.place a.count a.cells.now) c.unsound-answer.result
    (sym c.no_kind.ensures ∙ c.if-no_kind.true) c.unsound-answer.ensures

benches-in-requires : tie.Need-benches_in-requires
benches-in-requires c κs = search rules

replace-requires : tie.Need-replace-requires
replace-requires c κs = search rules

edited-requires : tie.Need-edited-requires
edited-requires c κs = search rules

same_length : tie.Need-shape_of-text0
same_length c = search rules

same-length-2 : tie.Need-shape_of-text1
same-length-2 c = search rules

same-length-3 : tie.Need-shape_of-history
same-length-3 c = search rules

returns-2 : tie.Need-returns
returns-2 c =
    let c10 = c in
    let c11 = c10 in
    let c12 = c11 in
    let c13 = c12 in
    let c18 = c13 in
    let no-kind' = c13.no_kind in
    let benches-in' = c11.benches_in in
    let replace' = c.replace in
    let a = c18.args in
    edited-found a.b a.bench a.text0.now a.text1.now a.history.now [] a.cells.now
    (λ (t : State). replace_of t a.bench a.place a.count a.cells.now) _ replace'.result
    benches-in'.result _ _ _ [] (sym no-kind'.ensures ∙ c12.if-no_kind.false) benches-in'.ensures c.edited.ensures
    replace'.ensures

pub replace_spec : {M : Type 1} → statement M
replace_spec =
    tie.close
    (tie.spec
    no-kind-requires
    unsound-requires
    returns
    benches-in-requires
    replace-requires
    edited-requires
    same_length
    same-length-2
    same-length-3
    returns-2)
