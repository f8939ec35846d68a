use Rattle.same_lines.specs.Told.{printed}
use Rattle.same_lines.proofs.Laying.{number-of-text}
use Rattle.same_lines.proofs.print.Goals as goal

pub returns-in-Same : goal.returns-in-Same
unfolding printed
returns-in-Same c = rw (c.in-Ok.is, c.in-Same.is) (c.with_line.ensures.by_index _ c.status.ensures.1)

pub returns-in-Part : goal.returns-in-Part
unfolding printed
returns-in-Part c =
    rw (c.in-Ok.is, c.in-Part.is)
    (c.with_line-in-Part.ensures.by_index _
    (c.with_line-two.ensures.by_index _ (c.with_line-one.ensures.by_index _ c.status-in-Part.ensures.1)))

pub returns-in-Err : goal.returns-in-Err
unfolding printed
returns-in-Err c =
    rw (c.in-Err.is, ← c.from-number.ensures, ← number-of-text c.in-Err.which)
    (c.with_line-in-Err.ensures.by_index _ (c.with_line-one-in-Err.ensures.by_index _ c.status-in-Err.ensures.1))
