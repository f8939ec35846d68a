-- Two accepted opens, one after the other, are the open of both benches.
use Rattle.bench_open.proofs.Openings.{lengths-small, both-opened}
use Rattle.bench_open.proofs.open_both.Goals as goal

pub opened-requires : goal.opened-requires
opened-requires c =
    let a = c.args in
    let p = c.open-first in
    let q = c.open-second in
    lengths-small a.kind0 a.kind1 a.arrived0.now a.arrived1.now a.text0.now a.text1.now a.history.now c.requires.0
    c.requires.1 p.result q.result _ _ _ _ p.ensures q.ensures

pub returns : goal.returns
returns c =
    let a = c.args in
    let p = c.open-first in
    let q = c.open-second in
    rw c.opened.ensures
    (both-opened a.kind0 a.kind1 a.arrived0.now a.arrived1.now a.text0.now a.text1.now a.history.now c.requires.0
    c.requires.1 p.result q.result _ _ _ _ p.ensures q.ensures)
