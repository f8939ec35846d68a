use mathlib.Core.Path.{sym, ◌∙◌}
use Rattle.host_benches.proofs.OnBenches.{none-asked, asked-found}
use borrow.Author.Rules.{rules}
use Rattle.host_benches.proofs.unchanged.Statement.{statement}
use Rattle.host_benches.proofs.unchanged.Tie as tie

no-kind-requires : tie.Need-no_kind-requires
no-kind-requires c κs = search rules

unsound-requires : tie.Need-unsound-answer-requires
unsound-requires c κs = search rules

returns : tie.Need-returns-then-no_kind
returns c =
    let a = c.args in
    none-asked a.b a.bench a.text0.now a.text1.now a.history.now c.unsound-answer.result
    (sym c.no_kind.ensures ∙ c.if-no_kind.true) c.unsound-answer.ensures

benches-in-requires : tie.Need-benches_in-requires
benches-in-requires c κs = search rules

unchanged-requires : tie.Need-unchanged-requires
unchanged-requires c κs = search rules

asked-requires : tie.Need-asked-requires
asked-requires c κs = search rules

returns-2 : tie.Need-returns
returns-2 c =
    let no-kind' = c.no_kind in
    let benches-in' = c.benches_in in
    let unchanged' = c.unchanged in
    let a = c.args in
    asked-found a.b a.bench a.text0.now a.text1.now a.history.now _ unchanged'.result
    benches-in'.result (sym no-kind'.ensures ∙ c.if-no_kind.false) benches-in'.ensures c.asked.ensures
    unchanged'.ensures

pub unchanged_spec : {M : Type 1} → statement M
unchanged_spec =
    tie.close
    (tie.spec
    no-kind-requires
    unsound-requires
    returns
    benches-in-requires
    unchanged-requires
    asked-requires
    returns-2)
