use Rattle.std.proofs.Common.{◌∙◌}
use Rattle.desk_lines.proofs.Found.{rest-within, line-done}
use Rattle.desk.proofs.orders.obey.Goals as goal

pub slice_bounds-act-count : goal.slice_bounds-act-count
slice_bounds-act-count c = rw c.parse-said.ensures (rest-within c.args.line.now)

pub slice_bounds-act-start : goal.slice_bounds-act-start
slice_bounds-act-start c = rw c.parse-said.ensures (rest-within c.args.line.now)

pub returns : goal.returns
returns c = c.act.ensures ∙ line-done c.args.letter.now c.args.line.now _ _ c.parse-said.ensures
