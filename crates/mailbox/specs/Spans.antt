-- Document 02, order 2: where the bytes of a cell of a mailbox name begin and end.
use Rattle.std.specs.Prelude.{◌++◌}
use Rattle.bits.specs.Bits.{bits}
use Rattle.alphabet.specs.Letters.{value_of, comma}
use Rattle.reading.specs.Spans.{up_to, Marking}
use Rattle.utf7.specs.Spans.{unit_span}
use Rattle.mailbox.specs.Rule.{Shift, outside, opening, run}

-- "its own byte", "the two bytes of [..] &-", and in a run, where only letters complete a cell, the letters that hold its bits
unfoldable pub span_in : Marking Shift
span_in (outside after) b at = up_to 1 at
span_in (opening after) b at = up_to 2 at
span_in (run pending) b at = unit_span (pending ++ bits 6 (value_of comma b)) at
