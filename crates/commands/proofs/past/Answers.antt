use native.Mathlib.Omega.{arith}
use mathlib.Core.Bool.{true, false}
use lib.ListN.{get_or}
use Rattle.commands.proofs.Words.{belongs-beq, stretch-stop, stretch-on, stretch-end}
use Rattle.commands.proofs.past.Goals as goal

pub returns-then-is_blank-blanks : goal.returns-then-is_blank-blanks
returns-then-is_blank-blanks c =
    stretch-stop c.loop-at.invariant (omega arith) (belongs-beq _ _ true (get_or c.args.line.now c.loop-at.at 0) c.is_blank.ensures c.if-is_blank-blanks.true)

pub loop-at-preserved : goal.loop-at-preserved
loop-at-preserved c =
    stretch-on c.loop-at.invariant (omega arith) (belongs-beq _ _ false (get_or c.args.line.now c.loop-at.at 0) c.is_blank.ensures c.if-is_blank-blanks.false)

pub returns : goal.returns
returns c = omega (arith, stretch-end c.loop-at.invariant (omega arith))
