use Rattle.desk.proofs.Working.{few-of, read-accepted}
use Rattle.desk.proofs.read_page.Goals as goal

pub returns-in-Ok : goal.returns-in-Ok
returns-in-Ok c =
    read-accepted c.read-given.result _ _ _ _ _ _ _
    (few-of _ c.read.new.buf c.in_ok-size.ensures c.if-size-gt-PAGE_ROOM.false)
    c.read-given.ensures c.in-Ok.is
