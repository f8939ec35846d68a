use mathlib.Core.Path.{sym, ◌∙◌}
use Rattle.utf7.specs.Rule.{ends_in}
use Rattle.utf7_read.specs.Cursor.{Settled}
use Rattle.utf7_read.specs.declared.State.TheVariants.{Run}
use Rattle.utf7_read.proofs.Moves.{run_ends}
use Rattle.utf7_read.proofs.StateDecoder.finish.Goals as goal

pub returns-then-may_end : goal.returns-then-may_end
returns-then-may_end c =
    let h : Settled (Run c.in-Run.n c.in-Run.v) = c.in-Run.ensures.0 in
    rw (← c.in-Run.ensures.1) (simp (run_ends _ _ c.args.size h, sym c.may_end.ensures ∙ c.if-may_end.true))

pub returns-in-Outside : goal.returns-in-Outside
unfolding ends_in
returns-in-Outside c = rw (← c.in-Outside.ensures.1)

pub returns-in-Opening : goal.returns-in-Opening
unfolding ends_in
returns-in-Opening c = rw (← c.in-Opening.ensures.1)

pub returns-else-may_end : goal.returns-else-may_end
returns-else-may_end c =
    let h : Settled (Run c.in-Run.n c.in-Run.v) = c.in-Run.ensures.0 in
    rw (← c.in-Run.ensures.1) (simp (run_ends _ _ c.args.size h, sym c.may_end.ensures ∙ c.if-may_end.false))
