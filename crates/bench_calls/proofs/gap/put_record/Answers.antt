-- Three splices, one after another, are the record's words.
use Rattle.bench_calls.proofs.Recording.{record-put}
use Rattle.bench_calls.proofs.gap.put_record.Goals as goal

pub returns : goal.returns
returns c =
    let a = c.args in
    let p = c.requires in
    let e₁ = c.splice_in-first in
    let e₂ = c.splice_in-second in
    let e₃ = c.splice_in in
    record-put a.history.now a.removed.now a.added.now a.used a.at a.mine a.place p.0 p.1 p.2 e₁.new.buffer e₂.new.buffer
    e₃.new.buffer e₁.result e₂.result e₁.ensures e₂.ensures e₃.ensures.1
