use borrow.Author.Rules.{rules}
use Rattle.desk.proofs.orders.act.Goals as goal

-- Written out, so that they are tried where what `act` calls is not proved, as in an edit that changes it too.
pub returns-in-Undo : goal.returns-in-Undo
returns-in-Undo c = search rules

pub returns-in-Redo : goal.returns-in-Redo
returns-in-Redo c = search rules
