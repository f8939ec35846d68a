use Rattle.std.proofs.Common.{◌≡◌, ◌+◌, ◌≤◌, ℕ, List, length}
use Rattle.squeeze.specs.Tracing.{cells_in}
use Rattle.squeeze.proofs.Pasting.{put-part}
use Rattle.squeeze.proofs.put.Goals as goal
use Rattle.squeeze.proofs.put.Goals.{then-s, else-s}

pub returns : goal.returns
returns c =
    let a = c.args in
    let cells : List ℕ = c.if-s.cells.now in
    let same : cells_in a.s.kept a.history.now a.text.now ≡ cells =
    elim c.if-s.branch [
      | then-s w ↦ rw (w.if-s.true, w.cells-is)
      | else-s w ↦ rw (w.if-s.false, w.cells-is)
    ] in
    let part : a.s.at + a.s.count ≤ length cells = rw same at c.requires.1 in
    let e = c.splice_in in
    rw same (put-part a.work.now cells a.at a.s.at a.s.count part c.requires.0 e.result e.new.buffer e.ensures)
