-- 11, then 10; else the rest, each by the lemma on it.
use Rattle.std.proofs.Common.{◌∙◌, arith}
use Rattle.bench_calls.proofs.Replacings.{beyond, unwritable, writable}
use Rattle.bench_calls.proofs.replace_on.Goals as goal
use Rattle.bench_calls.proofs.replace_on.Goals.{then-length-count-via-then-length-count, then-length-count-via-else-length-count+then-length-count-2}

pub returns-then-length-count : goal.returns-then-length-count
returns-then-length-count c =
    let a = c.args in
    elim c.then-length-count.branch [
      | then-length-count-via-then-length-count w ↦
          rw c.stays.ensures
          (beyond a.b a.mine a.used a.p a.place a.count a.cells.now a.text.now a.history.now
          c.requires.0.text-filled.fits (omega arith))
      | then-length-count-via-else-length-count+then-length-count-2 w ↦
          rw c.stays.ensures
          (beyond a.b a.mine a.used a.p a.place a.count a.cells.now a.text.now a.history.now
          c.requires.0.text-filled.fits (omega arith))
    ]

pub returns-then-first-cells : goal.returns-then-first-cells
returns-then-first-cells c =
    let a = c.args in
    let f = c.first_unwritable-first in
    rw c.stays-then-first-cells.ensures
    (unwritable a.b a.mine a.used a.p a.place a.count a.cells.now a.text.now a.history.now c.requires.0.text-filled.fits
    (omega arith) f.result f.ensures c.if-first-cells.true)

pub returns : goal.returns
returns c =
    let a = c.args in
    let f = c.first_unwritable-first in
    c.replace_fitting.ensures
    ∙ writable a.b a.mine a.used a.p a.place a.count a.cells.now a.text.now a.history.now c.requires.0.text-filled.fits
    (omega arith) f.result f.ensures c.if-first-cells.false
