use Rattle.host_pages.proofs.OnPages.{none-asked, asked-found}
use Rattle.host_pages.proofs.unchanged.Goals as goal

pub returns-in-Ok : goal.returns-in-Ok
returns-in-Ok c =
    let a = c.args in
    let k = c.in-Ok.ensures in
    asked-found a.p a.text.now a.history.now _ c.unchanged.result c.in-Ok.page k.0 k.1 c.asked.ensures
    c.unchanged.ensures

pub returns-in-Err : goal.returns-in-Err
returns-in-Err c =
    let a = c.args in
    none-asked a.p a.text.now a.history.now c.no_kind.result c.in-Err.ensures c.no_kind.ensures
