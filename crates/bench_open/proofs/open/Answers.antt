-- What refuses one bench refuses both: the first's refusal, or else the second's.
use Rattle.bench_open.proofs.Openings.{refused-first, refused-second, told-taken}
use Rattle.bench_open.proofs.open.Goals as goal

pub returns-in_default : goal.returns-in_default
returns-in_default c =
    let a = c.args in
    let f = c.would_open-first in
    rw c.not_opened.ensures
    (refused-first a.kind0 a.kind1 a.arrived0.now a.arrived1.now a.text0.now a.text1.now a.history.now f.result _
    f.ensures c.in_default.is)

pub returns-in_default-second : goal.returns-in_default-second
returns-in_default-second c =
    let a = c.args in
    let f = c.would_open-first in
    let g = c.would_open-second in
    rw c.not_opened-in_default-second.ensures
    (refused-second a.kind0 a.kind1 a.arrived0.now a.arrived1.now a.text0.now a.text1.now a.history.now g.result _
    (told-taken a.kind0 a.arrived0.now a.text0.now a.history.now f.result _ f.ensures c.in-Ok.is) g.ensures
    c.in_default-second.is)
