use native.Mathlib.Omega.{arith}
use Rattle.reading.proofs.Filling.{filling-start, filling-index, filling-give, filling-go, filling-bad, filling-end}
use Rattle.commands.specs.Numbers.{numbers}
use Rattle.commands.proofs.Kept.{moved}
use Rattle.commands.proofs.numbers.fill.Goals as goal
use Rattle.commands.proofs.numbers.fill.Goals.{in-Give, in-Go}

pub loop-b-init : goal.loop-b-init
loop-b-init c = filling-start (numbers _) _ _ c.requires

pub offset_bounds-out-n : goal.offset_bounds-out-n
offset_bounds-out-n c = omega (arith, filling-index c.loop-b.invariant c.loop-b-test.true (moved c.feed.ensures c.in-Give.is))

pub bounds-out-n : goal.bounds-out-n
bounds-out-n c = filling-index c.loop-b.invariant c.loop-b-test.true (moved c.feed.ensures c.in-Give.is)

pub returns-in-Bad : goal.returns-in-Bad
returns-in-Bad c = filling-bad c.loop-b.invariant c.loop-b-test.true (moved c.feed.ensures c.in-Bad.is)

pub loop-b-preserved : goal.loop-b-preserved
loop-b-preserved c =
    elim c.match-feed.branch [
      | in-Give w ↦
          rw (w.out-is, w.n-is, w.st-is) (filling-give c.loop-b.invariant c.loop-b-test.true (moved c.feed.ensures w.in-Give.is))
      | in-Go w ↦
          rw (w.out-is, w.n-is, w.st-is) (filling-go c.loop-b.invariant c.loop-b-test.true (moved c.feed.ensures w.in-Go.is))
    ]

pub returns : goal.returns
returns c = filling-end c.loop-b.invariant c.loop-b-test.false
