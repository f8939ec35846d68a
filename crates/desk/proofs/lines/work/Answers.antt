use Rattle.std.proofs.Common.{refl, sym, ◌∙◌, arith}
use Rattle.desk.proofs.Working.{going-begun, going-again, going-closed, worked-from}
use Rattle.desk.proofs.lines.work.Goals as goal

pub loop-turn-init : goal.loop-turn-init
loop-turn-init c =
    rw c.holding-hand.ensures (record {
      holds = (omega arith, omega arith, omega (arith, c.lines-space.ensures));
      going = going-begun _ refl;
    })

pub returns-then-is_closed : goal.returns-then-is_closed
returns-then-is_closed c =
    worked-from c.holding-hand.ensures
    (going-closed c.loop-turn.invariant.going c.turn-hand.ensures.1 (sym c.is_closed.ensures ∙ c.if-is_closed.true))

pub loop-turn-preserved : goal.loop-turn-preserved
loop-turn-preserved c = record {
  holds = c.turn-hand.ensures.0;
  going =
      going-again c.loop-turn.invariant.going c.turn-hand.ensures.1
      (sym c.is_closed.ensures ∙ c.if-is_closed.false);
}
