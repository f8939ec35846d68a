-- The n-th step over a JP-2 text, from `start`, by the laws of `reading` for cursors. Assumes nothing.
use Prim.Native.Nat.{ℕ, suc, ◌<◌, ◌≤◌}
use mathlib.Core.Path.{◌≡◌}
use mathlib.Core.List.{List}
use lib.ListN.{length, get_or}
use Rattle.answer.specs.Answer.{limit, too_long}
use Rattle.reading.specs.Reading.{verdict_of, reading}
use Rattle.reading.specs.Spans.{no_mark, marked_in}
use Rattle.reading.specs.Stepping.{in_text, cell, final}
use Rattle.reading.specs.declared.Cursor.{Cursor}
use Rattle.reading.proofs.Cursors as cursors
use Rattle.reading.proofs.Cursors.{Cursors, cursor_after}
use Rattle.reading.proofs.Decoding.{code-cursors}
use Rattle.jp2.specs.Rule.{jp2}
use Rattle.jp2.specs.Spans.{span_in}
use Rattle.jp2_read.specs.Cursor.{spot_of, cursor_of, step_of}
use Rattle.jp2_read.specs.declared.State.{State}
use Rattle.jp2_read.proofs.Moves.{jp2-faithful}

abbrev pub jp2-cursors : Cursors jp2 span_in (Cursor State)
jp2-cursors = code-cursors jp2-faithful

module _ (text : List ℕ) where
  -- the cursor after n steps from `start`
  abbrev pub after : ℕ → Cursor State
  after n = cursor_after jp2-cursors text n

  pub step-cell :
      length text ≤ limit → (n : ℕ) → n < length (reading jp2 text).cells → step_of text (after n) ≡ cell (get_or (marked_in jp2 span_in text) n no_mark) (after (suc n))
  step-cell = cursors.step-cell jp2-cursors text

  pub step-final : length text ≤ limit → (n : ℕ) → length (reading jp2 text).cells ≤ n → step_of text (after n) ≡ final (verdict_of (reading jp2 text))
  step-final = cursors.step-final jp2-cursors text

  pub step-over : limit < length text → (c : Cursor State) → step_of text c ≡ final too_long
  step-over = cursors.step-over jp2-cursors text

  -- the repair that `step` does first changes nothing at a cursor that steps lead to
  pub repair-identity : (n : ℕ) → cursor_of (in_text text (spot_of (after n))) ≡ after n
  repair-identity = cursors.repair-identity jp2-cursors text
