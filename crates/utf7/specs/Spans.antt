-- Document 02, order 2: where the bytes of a UTF-7 cell begin and end.
use Rattle.std.specs.Prelude.{ℕ, ◌+◌, ◌-◌, ◌*◌, ◌/◌, Bool, cond, List, ◌++◌, length}
use Rattle.bits.specs.Bits.{bits}
use Rattle.alphabet.specs.Letters.{value_of, set_b, slash}
use Rattle.reading.specs.Spans.{Span, up_to, Marking}
use Rattle.utf7.specs.Rule.{Shift, outside, opening, run}

-- Bits of a run that end with those of the letter at a place, six in each letter: the place of the letter that holds bit i of them.
abbrev pub holding : List Bool → ℕ → ℕ → ℕ
holding bs at i = at - (length bs - 1 - i) / 6

-- "In a run that is from the letter holding its first bit to just past the letter holding its last"
abbrev pub unit_span : List Bool → ℕ → Span
unit_span bs at = record { begin = holding bs at 0; end = holding bs at 15 + 1 }

-- "elsewhere its own byte", "the two bytes of +-"
unfoldable pub span_in : Marking Shift
span_in outside b at = up_to 1 at
span_in opening b at = up_to 2 at
span_in (run pending) b at = cond (set_b slash b) (unit_span (pending ++ bits 6 (value_of slash b)) at) (up_to 1 at)

-- Of a whole run: its bit i lies in its letter i / 6, so unit k, of the bits from 16k on, has the letters from 16k / 6 to (16k + 15) / 6.
abbrev pub run_span : ℕ → ℕ → Span
run_span first k = record { begin = first + 16 * k / 6; end = first + (16 * k + 15) / 6 + 1 }
