use native.Mathlib.Omega.{arith}
use Rattle.answer.proofs.Once.{limit-small}
use Rattle.squeeze.specs.Tracing.{text_since}
use Rattle.squeeze.proofs.Pasting.{three, first-long, second-long, record_is}
use borrow.Author.Rules.{rules}
use Rattle.squeeze.proofs.write_record.Statement.{statement}
use Rattle.squeeze.proofs.write_record.Tie as tie

cast-t12 : tie.Need-overflow_cast-head
cast-t12 c =
    let p = c.requires in
    omega (arith, limit-small, p.0.small.0)

cast-t13 : tie.Need-overflow_cast-head-2
cast-t13 c =
    let p = c.requires in
    omega (arith, limit-small, p.0.small.1)

slice-aggregate-splice-in : tie.Need-slice_bounds-splice_in-end
slice-aggregate-splice-in c = search rules

splice-in-requires : tie.Need-splice_in-first-requires
splice-in-requires c κs = search rules

trace-requires : tie.Need-trace-requires
trace-requires c κs =
    let a = c.args in
    let p = c.requires in
    let e = c.splice_in-first in
    let n = three a.work.now (text_since 0 a.done a.history.now a.text.now)
    (text_since a.fold.at a.done a.history.now a.text.now) a.opening a.fold.len p.0.opens
    p.0.long p.1 e.result e.new.buffer e.ensures in
    let l = first-long a.work.now (text_since 0 a.done a.history.now a.text.now)
    (text_since a.fold.at a.done a.history.now a.text.now) a.opening a.fold.len p.0.opens
    p.0.long p.1 e.result e.new.buffer e.ensures in
    (p.0.all, p.0.opens, omega (arith, n, l))

add-second : tie.Need-overflow_add-second
add-second c =
    let a = c.args in
    let p = c.requires in
    let e = c.splice_in-first in
    let n = three a.work.now (text_since 0 a.done a.history.now a.text.now)
    (text_since a.fold.at a.done a.history.now a.text.now) a.opening a.fold.len p.0.opens
    p.0.long p.1 e.result e.new.buffer e.ensures in
    omega (arith, limit-small, n, p.0.small.0)

trace-requires-2 : tie.Need-trace-requires-2
trace-requires-2 c κs =
    let a = c.args in
    let p = c.requires in
    let e = c.splice_in-first in
    let t = c.trace in
    let n = three a.work.now (text_since 0 a.done a.history.now a.text.now)
    (text_since a.fold.at a.done a.history.now a.text.now) a.opening a.fold.len p.0.opens
    p.0.long p.1 e.result e.new.buffer e.ensures in
    let l = second-long a.work.now (text_since 0 a.done a.history.now a.text.now)
    (text_since a.fold.at a.done a.history.now a.text.now) a.opening a.fold.len p.0.opens
    p.0.long p.1 e.result e.new.buffer e.ensures t.new.work t.ensures in
    (p.0.later, p.0.long, omega (arith, n, l))

same_length : tie.Need-shape_of-work
same_length c = search rules

returns : tie.Need-returns
returns c =
    let a = c.args in
    let p = c.requires in
    let e = c.splice_in-first in
    let t = c.trace in
    let u = c.trace-2 in
    record_is a.work.now (text_since 0 a.done a.history.now a.text.now)
    (text_since a.fold.at a.done a.history.now a.text.now) a.opening a.fold.len p.0.opens
    p.0.long p.1 e.result e.new.buffer e.ensures t.new.work t.ensures u.new.work u.ensures

pub write_record_spec : {M : Type 1} → statement M
write_record_spec =
    tie.close
    (tie.spec
    cast-t12
    cast-t13
    slice-aggregate-splice-in
    splice-in-requires
    trace-requires
    add-second
    trace-requires-2
    same_length
    returns)
