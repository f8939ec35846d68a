use Prim.Native.Nat.{◌<◌, ◌≤◌}
use native.Mathlib.Omega.{arith}
use lib.ListN.{length}
use borrow.Author.Rules.{part_to_end}
use Rattle.comparer.proofs.Cutting.{halved-start, halved-next, halved-end}
use Rattle.comparer.proofs.blocks.same_blocks.Goals as goal

pub loop-a-init : goal.loop-a-init
loop-a-init c = halved-start c.args.format c.args.first.now c.args.second.now c.requires

-- both places went on, and stay within the texts
pub loop-a-preserved : goal.loop-a-preserved
loop-a-preserved c =
    halved-next c.loop-a.invariant c.requires _ _ (omega (arith, c.last_end-c.ensures.0, c.if-c-a.false))
    (omega (arith, c.last_end-c.ensures.1, c.loop-a-test.true)) (omega (arith, c.past_ends-d.ensures.0, c.if-d-b.false))
    c.past_ends-d.ensures.1 (c.last_end-c.ensures.2 c.if-c-a.false) (c.past_ends-d.ensures.2 c.if-d-b.false)
    (c.same_block.ensures c.if-not-same_block.false)

pub returns : goal.returns
returns c = λ e.
    halved-end c.loop-a.invariant
    (rw (part_to_end c.args.first.now c.loop-a.a, part_to_end c.args.second.now c.loop-a.b) at (c.same_block-2.ensures e))
