use Rattle.mailbox_read.specs.Cursor.{move_of}
use Rattle.mailbox_read.proofs.Moves.{mailbox-faithful}
use Rattle.reading.proofs.Decoding.{move-told}
use Rattle.mailbox_read.proofs.byte_does.Goals as goal

pub returns : goal.returns
unfolding move_of
returns c = move-told mailbox-faithful _ _ c.feed.ensures
