use Rattle.utf7_read.specs.Cursor.{move_of}
use Rattle.utf7_read.proofs.Moves.{utf7-faithful}
use Rattle.reading.proofs.Decoding.{move-told}
use Rattle.utf7_read.proofs.byte_does.Goals as goal

pub returns : goal.returns
unfolding move_of
returns c = move-told utf7-faithful _ _ c.feed.ensures
