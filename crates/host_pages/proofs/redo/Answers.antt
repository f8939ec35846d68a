use mathlib.Core.List.{[]}
use Rattle.ledger.specs.Calls.{redo_of}
use Rattle.host_pages.proofs.OnPages.{none_found, edited-found}
use Rattle.host_pages.proofs.redo.Goals as goal

pub returns-in-Ok : goal.returns-in-Ok
returns-in-Ok c =
    let a = c.args in
    let k = c.in-Ok.ensures in
    edited-found a.p a.text.now a.history.now [] [] redo_of _
    c.redo.result c.in-Ok.page _ _ [] k.0 k.1 c.edited.ensures c.redo.ensures

pub returns-in-Err : goal.returns-in-Err
returns-in-Err c =
    let a = c.args in
    none_found a.p a.text.now a.history.now [] [] redo_of
    c.no_kind.result c.in-Err.ensures c.no_kind.ensures
