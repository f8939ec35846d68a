-- `reading::step` meets its contract: by what the decoder gets ahead of, and from there by the loop. Assumes nothing.
use mathlib.Core.Path.{refl, sym, ap, ◌∙◌}
use borrow.Author.Tests.{ltb-true}
use Rattle.reading.specs.Stepping.{final, onward}
use Rattle.reading.specs.Decoding.{cursor_by}
use Rattle.reading.proofs.Steps.{step-long}
use Rattle.reading.proofs.Decoding.{cell-told, got}
use Rattle.reading.proofs.step.Goals as goal

pub returns-then-over_limit : goal.returns-then-over_limit
returns-then-over_limit g c =
    let code = g.D.Decoder.code in
    ap final c.too_long.ensures
    ∙ ap (onward (cursor_by code.writes)) (sym (step-long code.rule code.marking _ (ltb-true _ _ (sym c.over_limit.ensures ∙ c.if-over_limit.true)) _))

pub returns-in-Some : goal.returns-in-Some
returns-in-Some g c =
    let code = g.D.Decoder.code in
    let k = got code c.args.c (sym c.over_limit.ensures ∙ c.if-over_limit.false) c.lesser-at.ensures c.lesser-handed.ensures refl c.get_ahead-a.ensures in
    cell-told code g.met.D.Decoder.writes_back c.get_ahead-a.ensures.settled (rw c.in-Some.is at k)

pub returns-in-None : goal.returns-in-None
returns-in-None g c =
    let code = g.D.Decoder.code in
    let k = got code c.args.c (sym c.over_limit.ensures ∙ c.if-over_limit.false) c.lesser-at.ensures c.lesser-handed.ensures refl c.get_ahead-a.ensures in
    c.step_on.ensures ∙ ap (onward (cursor_by code.writes)) (rw c.in-None.is at k)
