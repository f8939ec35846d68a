use Rattle.splice.proofs.Splices.{end_is, splice-is}
use Rattle.splice.proofs.splice_fitting.Goals as goal

pub returns : goal.returns
returns c =
    let a = c.args in
    let p = c.requires in
    let cells = a.cells.now in (
      end_is a.buffer.now cells a.used a.place a.count p.0 p.1 p.2,
      splice-is a.buffer.now cells a.used a.place a.count p.0 p.1 p.2 c.move_part.new.s c.copy_at.new.s
          c.clear_part.new.s c.move_part.ensures c.copy_at.ensures c.clear_part.ensures,
    )
