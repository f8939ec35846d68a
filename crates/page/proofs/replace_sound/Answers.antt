use Rattle.std.proofs.Common.{sym, ◌∙◌, arith}
use Rattle.ledger.specs.Page.{State, state_of}
use Rattle.page.proofs.Replacings.{beyond, unwritable, writable}
use Rattle.page.proofs.replace_sound.Goals as goal
use Rattle.page.proofs.replace_sound.Goals.{then-length-count-via-then-length-count, then-length-count-via-else-length-count+then-length-count-2}

pub returns-then-length-count : goal.returns-then-length-count
returns-then-length-count c =
    let a = c.args in
    let s : State = state_of a.page a.text.now a.history.now in
    let fits = c.requires.0.fits in
    elim c.then-length-count.branch [
      | then-length-count-via-then-length-count w ↦
          rw c.refused.ensures (sym (beyond s a.place a.count a.cells.now fits (omega arith)))
      | then-length-count-via-else-length-count+then-length-count-2 w ↦
          rw c.refused.ensures (sym (beyond s a.place a.count a.cells.now fits (omega arith)))
    ]

pub returns-then-first-cells : goal.returns-then-first-cells
returns-then-first-cells c =
    let a = c.args in
    let s : State = state_of a.page a.text.now a.history.now in
    let first = c.first_unwritable-first in
    rw c.refused-then-first-cells.ensures
    (sym (unwritable s a.place a.count a.cells.now c.requires.0.fits (omega arith) first.result first.ensures (omega arith)))

pub returns : goal.returns
returns c =
    let a = c.args in
    let s : State = state_of a.page a.text.now a.history.now in
    let first = c.first_unwritable-first in
    c.replace_fitting.ensures
    ∙ sym (writable s a.place a.count a.cells.now c.requires.0.fits (omega arith) first.result first.ensures (omega arith))
