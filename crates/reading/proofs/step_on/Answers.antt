-- `reading::step_on` meets its contract, by the laws of a step's loop. Assumes nothing.
use mathlib.Core.Path.{sym, ap, ◌∙◌}
use native.Mathlib.Omega.{arith}
use Rattle.reading.specs.Spans.{marked_as}
use Rattle.reading.specs.Stepping.{final, onward}
use Rattle.reading.specs.Decoding.{cursor_by}
use Rattle.reading.proofs.Steps.{going-give, going-go, going-bad, going_end}
use Rattle.reading.proofs.Decoding.{begun, moved, cell-told}
use Rattle.reading.proofs.step_on.Goals as goal

pub loop-at-init : goal.loop-at-init
loop-at-init g c = (begun g.D.Decoder.code _ _ _, λ h. h, c.requires)

pub returns-in-Give : goal.returns-in-Give
returns-in-Give g c =
    let code = g.D.Decoder.code in
    let m = moved {code = code} c.feed.ensures c.in-Give.is in
    rw (c.mark-cell.ensures ∙ ap (marked_as _) (sym (c.width.ensures _)))
    (cell-told code g.met.D.Decoder.writes_back m.1 (going-give c.loop-at.invariant.0 c.loop-at-test.true m.0))

pub loop-at-preserved : goal.loop-at-preserved
loop-at-preserved g c =
    let m = moved {code = g.D.Decoder.code} c.feed.ensures c.in-Go.is in
    (going-go c.loop-at.invariant.0 c.loop-at-test.true m.0, λ h. m.1, omega arith)

pub returns-in-Bad : goal.returns-in-Bad
returns-in-Bad g c =
    let code = g.D.Decoder.code in
    ap (onward (cursor_by code.writes)) (going-bad c.loop-at.invariant.0 c.loop-at-test.true (moved {code = code} c.feed.ensures c.in-Bad.is).0)

pub returns : goal.returns
returns g c = ap final c.finish.ensures ∙ ap (onward (cursor_by g.D.Decoder.code.writes)) (going_end c.loop-at.invariant.0 c.loop-at-test.false)
