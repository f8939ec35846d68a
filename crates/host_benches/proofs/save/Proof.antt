use mathlib.Core.Path.{sym, ◌∙◌}
use Rattle.benches.specs.Benches.{State}
use Rattle.benches.specs.Calls.{save_of}
use Rattle.host_benches.proofs.OnBenches.{none_found, edited-found}
use borrow.Author.Rules.{rules}
use Rattle.host_benches.proofs.save.Statement.{statement}
use Rattle.host_benches.proofs.save.Tie as tie

no-kind-requires : tie.Need-no_kind-requires
no-kind-requires c κs = search rules

unsound-requires : tie.Need-unsound-answer-requires
unsound-requires c κs = search rules

returns : tie.Need-returns-then-no_kind
returns c =
    let a = c.args in
    none_found a.b a.bench a.text0.now a.text1.now a.history.now a.out.now a.arrived.now
    (λ (t : State). save_of t a.bench a.arrived.now a.out.now) c.unsound-answer.result
    (sym c.no_kind.ensures ∙ c.if-no_kind.true) c.unsound-answer.ensures

benches-in-requires : tie.Need-benches_in-requires
benches-in-requires c κs = search rules

save-requires : tie.Need-save-requires
save-requires c κs = search rules

edited-requires : tie.Need-edited-requires
edited-requires c κs = search rules

same_length : tie.Need-shape_of-out
same_length c = search rules

returns-2 : tie.Need-returns
returns-2 c =
    let c10 = c in
    let c13 = c10 in
    let no-kind' = c.no_kind in
    let benches-in' = c.benches_in in
    let save' = c.save in
    let a = c13.args in
    edited-found a.b a.bench a.text0.now a.text1.now a.history.now a.out.now
    a.arrived.now
    (λ (t : State). save_of t a.bench a.arrived.now a.out.now) _ save'.result
    benches-in'.result _ _ _ _
    (sym no-kind'.ensures ∙ c.if-no_kind.false) benches-in'.ensures c.edited.ensures save'.ensures

pub save_spec : {M : Type 1} → statement M
save_spec =
    tie.close
    (tie.spec
    no-kind-requires
    unsound-requires
    returns
    benches-in-requires
    save-requires
    edited-requires
    same_length
    returns-2)
