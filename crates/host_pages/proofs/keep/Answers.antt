use Rattle.host_pages.proofs.OnPages.{none_kept, kept-found}
use Rattle.host_pages.proofs.keep.Goals as goal

pub returns-in-Ok : goal.returns-in-Ok
returns-in-Ok c =
    let a = c.args in
    let k = c.in-Ok.ensures in
    kept-found a.p a.text.now a.history.now a.arrived.now a.out.now _ c.keep.result c.in-Ok.page _ k.0 k.1
    c.into.ensures c.keep.ensures

pub returns-in-Err : goal.returns-in-Err
returns-in-Err c =
    let a = c.args in
    none_kept a.p a.text.now a.history.now a.arrived.now a.out.now c.no_kind.result c.in-Err.ensures c.no_kind.ensures
