use Rattle.reading.proofs.Decoding.{gets-on, gets-same}
use Rattle.jp2_read.proofs.StateDecoder.get_ahead.Goals as goal

pub returns-then-is_some : goal.returns-then-is_some
returns-then-is_some c = gets-same c.settled-st.ensures.1 c.to_cell-a.ensures

pub returns : goal.returns
returns c = gets-same c.settled-st.ensures.1 (gets-on c.pass-at.ensures c.to_cell.ensures)
