use Rattle.reading.proofs.Decoding.{gets-same}
use Rattle.utf7_read.proofs.StateDecoder.get_ahead.Goals as goal

pub returns : goal.returns
returns c = gets-same c.settled.ensures.1 c.get_ahead.ensures
