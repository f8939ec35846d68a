use mathlib.Core.Path.{◌≡◌, ◌∙◌}
use native.Mathlib.Omega.{arith}
use lib.ListN.{length}
use Rattle.reading.proofs.Laws.{left-start, left-give, left-go, left-bad, left_end}
use Rattle.commands.specs.Numbers.{numbers}
use Rattle.commands.proofs.Kept.{moved}
use Rattle.commands.proofs.numbers.count.Goals as goal
use Rattle.commands.proofs.numbers.count.Goals.{in-Give, in-Go}

pub loop-at-init : goal.loop-at-init
loop-at-init c = left-start (numbers _) _

pub returns-in-Bad : goal.returns-in-Bad
returns-in-Bad c = (left-bad c.loop-at.invariant c.loop-at-test.true (moved c.feed.ensures c.in-Bad.is)).1

pub loop-at-preserved : goal.loop-at-preserved
loop-at-preserved c =
    elim c.match-feed.branch [
      | in-Give w ↦ rw (w.n-is, w.st-is) (left-give c.loop-at.invariant c.loop-at-test.true (moved c.feed.ensures w.in-Give.is))
      | in-Go w ↦ rw (w.n-is, w.st-is) (left-go c.loop-at.invariant c.loop-at-test.true (moved c.feed.ensures w.in-Go.is))
    ]

pub returns : goal.returns
returns c =
    let end : length c.args.text.now ≡ c.loop-at.at = omega arith in
    c.finish.ensures ∙ rw end (left_end c.loop-at.invariant c.loop-at-test.false).1
