use Rattle.std.proofs.Common.{◌≡◌, ◌∙◌, sym, get_or, arith}
use Rattle.std.proofs.Math.Seq.{take_all}
use Rattle.answer.proofs.Laid.{laid_none, laid_next}
use Rattle.jp2_whole.proofs.Tokens.{cells_of, cells-length, cells-get}
use Rattle.jp2_whole.proofs.quick.widen.Goals as goal

pub loop-k-init : goal.loop-k-init
loop-k-init c = laid_none _ _

pub loop-k-preserved : goal.loop-k-preserved
loop-k-preserved c =
    let a = c.args in
    let h = c.requires.from_le_to.1 in
    let cells = cells_of a.text.now a.from a.to in
    let e : c.ascii_cell.result ≡ get_or cells c.loop-k.k 0 = c.ascii_cell.ensures ∙ sym (cells-get a.text.now a.from a.to h c.loop-k.k c.loop-k-test.true) in
    rw e
    (laid_next cells c.loop-k.k c.loop-k.invariant (omega (arith, c.loop-k-test.true, cells-length a.text.now a.from a.to h))
    (omega (arith, c.loop-k.auto.out, c.requires.from_in_bounds, c.loop-k-test.true)))

pub returns : goal.returns
returns c =
    let a = c.args in
    rw (take_all c.loop-k.k (cells_of a.text.now a.from a.to) (omega (arith, c.loop-k-test.false, cells-length a.text.now a.from a.to c.requires.from_le_to.1)))
    at c.loop-k.invariant
