-- Document 02, order 2: where the bytes of a JP-2 cell begin and end.
use Rattle.reading.specs.Spans.{Span, up_to, Marking}
use Rattle.jp2.specs.Rule.{Phase, plain, return, first, shifted, escape, State}
use Rattle.std.specs.Prelude.{ℕ}

-- "its own byte, its pair, [..] or ESC N and its byte, never a designation"; inside an escape no byte completes a cell
abbrev pub phase_span : Phase → ℕ → Span
phase_span plain at = up_to 1 at
phase_span return at = up_to 1 at
phase_span (first a) at = up_to 2 at
phase_span shifted at = up_to 3 at
phase_span (escape bytes) at = up_to 1 at

unfoldable pub span_in : Marking State
span_in st b at = phase_span st.phase at
