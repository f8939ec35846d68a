use mathlib.Core.Path.{sym, ◌∙◌}
use Rattle.answer.proofs.Below.{both}
use Rattle.jp2_read.proofs.Passing.{hands-single, hands-pair, hands-shifted}
use Rattle.jp2_read.proofs.cell_next.Goals as goal

pub returns-then-is_shifted : goal.returns-then-is_shifted
returns-then-is_shifted c =
    rw (c.marked.ensures, c.cell_of.ensures)
    (hands-shifted _ _ c.if-text-at.false c.if-b-eq27.true (c.is_shifted.ensures c.if-is_shifted.true))

pub returns-then-g0 : goal.returns-then-g0
returns-then-g0 c = rw c.marked-then-g0.ensures (hands-single _ _ c.if-text-at.false (c.in_ok-single_next.ensures _))

pub returns-then-is_code : goal.returns-then-is_code
returns-then-is_code c =
    let e = both _ _ c.if-is_code.true in
    rw (c.marked-then-is_code.ensures, c.pair_of.ensures)
    (hands-pair _ _ c.if-text-at.false c.if-g0.false (sym c.is_code.ensures ∙ e.0) (sym c.is_code-2.ensures ∙ e.1))
