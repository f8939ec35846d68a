use Rattle.std.proofs.Common.{◌≡◌, ◌<◌, length, refl, arith}
use Rattle.utf7_write.proofs.Marks.{turned_more, left-more}
use Rattle.utf7_write.proofs.turn_marks.Goals as goal

pub loop-k-init : goal.loop-k-init
loop-k-init c = (λ m h. absurd (omega arith), λ m h. refl)

pub loop-k-preserved : goal.loop-k-preserved
loop-k-preserved c =
    let a = c.args in
    let l = c.loop-k in
    let h : l.k < length l.marks = omega (arith, l.auto.marks, c.loop-k-test.true, c.requires) in (
      turned_more a.style a.marks.now l.marks l.k c.mark_of.result h l.invariant.0 l.invariant.1 c.mark_of.ensures,
      left-more a.style a.marks.now l.marks l.k c.mark_of.result h l.invariant.1,
    )

pub returns : goal.returns
returns c =
    let e : c.loop-k.k ≡ c.args.n = omega (arith, c.loop-k-test.false, c.loop-k.auto.k-end) in
    rw e at c.loop-k.invariant.0
