use Rattle.std.proofs.Common.{◌≡◌, refl, sym, arith}
use Rattle.reading.specs.Matching.{same_cells}
use Rattle.utf7_whole.proofs.Agreed.{same_next}
use Rattle.utf7_whole.proofs.quick.is_same.Goals as goal

pub loop-k-init : goal.loop-k-init
unfolding same_cells
loop-k-init c = refl

pub loop-k-preserved : goal.loop-k-preserved
loop-k-preserved c =
    let a = c.args in
    let q = c.requires in
    rw c.loop-k.invariant
    (sym (same_next a.cells.now a.list.now a.from c.loop-k.k (omega (arith, q.0, c.loop-k-test.true)) (omega (arith, q.1, c.loop-k-test.true))))

pub returns : goal.returns
returns c = let e : c.loop-k.k ≡ c.args.n = omega (arith, c.loop-k.auto.k-end, c.loop-k-test.false) in rw e at c.loop-k.invariant
