use Rattle.std.proofs.Common.{sym, ◌∙◌, arith}
use Rattle.std.proofs.Math.Seq.{slice}
use Rattle.records.proofs.Cuts.{cut-between, marked-broken, marked-led, walk-fits}
use Rattle.records.proofs.walk_marked.Goals as goal

pub returns-in_err-len : goal.returns-in_err-len
returns-in_err-len c =
    let a = c.args in
    let b = cut-between a.mark a.from a.to (omega arith) in
    let e = c.cut_in-cut.ensures in
    c.from_residual.ensures
    ∙ rw (← e)
    (sym (marked-broken a.history.now a.from _ a.to (rw e b.0) (rw e b.1) (omega arith) a.room a.start a.from
    (sym c.walk_records.ensures ∙ c.in_err-len.was)))

pub walk_records-requires-2 : goal.walk_records-requires-2
walk_records-requires-2 c =
    let a = c.args in
    let b = cut-between a.mark a.from a.to (omega arith) in
    let e = c.cut_in-cut.ensures in
    let f =
    walk-fits a.room a.from a.start a.from c.in_ok-len.len c.in_ok-len.last
    (slice a.from c.cut_in-cut.result a.history.now) (omega arith) (sym c.walk_records.ensures ∙ c.in_ok-len.was) in
    omega arith

pub returns : goal.returns
returns c =
    let a = c.args in
    let b = cut-between a.mark a.from a.to (omega arith) in
    let e = c.cut_in-cut.ensures in
    c.walk_records-2.ensures
    ∙ rw (← e)
    (sym (marked-led a.history.now a.from _ a.to (rw e b.0) (rw e b.1) (omega arith) a.room a.start a.from
    c.in_ok-len.len c.in_ok-len.last (sym c.walk_records.ensures ∙ c.in_ok-len.was)))
