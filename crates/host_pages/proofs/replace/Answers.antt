use mathlib.Core.List.{[]}
use Rattle.ledger.specs.Calls.{replace_of}
use Rattle.host_pages.proofs.OnPages.{none_found, edited-found}
use Rattle.host_pages.proofs.replace.Goals as goal

pub returns-in-Ok : goal.returns-in-Ok
returns-in-Ok c =
    let a = c.args in
    let k = c.in-Ok.ensures in
    edited-found a.p a.text.now a.history.now [] a.cells.now (λ s. replace_of s a.place a.count a.cells.now) _
    c.replace.result c.in-Ok.page _ _ [] k.0 k.1 c.edited.ensures c.replace.ensures

pub returns-in-Err : goal.returns-in-Err
returns-in-Err c =
    let a = c.args in
    none_found a.p a.text.now a.history.now [] a.cells.now (λ s. replace_of s a.place a.count a.cells.now)
    c.no_kind.result c.in-Err.ensures c.no_kind.ensures
