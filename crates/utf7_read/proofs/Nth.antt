-- The n-th step over a UTF-7 text, from `start`, by the laws of `reading` for cursors. Assumes nothing.
use Prim.Native.Nat.{ℕ, suc, ◌<◌, ◌≤◌}
use mathlib.Core.Path.{◌≡◌}
use mathlib.Core.List.{List}
use lib.ListN.{length, get_or}
use Rattle.answer.specs.Answer.{limit, too_long}
use Rattle.reading.specs.Reading.{verdict_of, reading}
use Rattle.reading.specs.Spans.{no_mark, marked_in}
use Rattle.reading.specs.Stepping.{in_text, cell, final}
use Rattle.reading.specs.declared.Cursor.{Cursor}
use Rattle.reading.proofs.Cursors as cursors
use Rattle.reading.proofs.Cursors.{Cursors, cursor_after}
use Rattle.reading.proofs.Decoding.{code-cursors}
use Rattle.utf7.specs.Rule.{utf7}
use Rattle.utf7.specs.Spans.{span_in}
use Rattle.utf7_read.specs.Cursor.{spot_of, cursor_of, step_of}
use Rattle.utf7_read.specs.declared.State.{State}
use Rattle.utf7_read.proofs.Moves.{utf7-faithful}

abbrev pub utf7-cursors : Cursors utf7 span_in (Cursor State)
utf7-cursors = code-cursors utf7-faithful

module _ (text : List ℕ) where
  -- the cursor after n steps from `start`
  abbrev pub after : ℕ → Cursor State
  after n = cursor_after utf7-cursors text n

  pub step-cell :
      length text ≤ limit → (n : ℕ) → n < length (reading utf7 text).cells → step_of text (after n) ≡ cell (get_or (marked_in utf7 span_in text) n no_mark) (after (suc n))
  step-cell = cursors.step-cell utf7-cursors text

  pub step-final : length text ≤ limit → (n : ℕ) → length (reading utf7 text).cells ≤ n → step_of text (after n) ≡ final (verdict_of (reading utf7 text))
  step-final = cursors.step-final utf7-cursors text

  pub step-over : limit < length text → (c : Cursor State) → step_of text c ≡ final too_long
  step-over = cursors.step-over utf7-cursors text

  -- the repair that `step` does first changes nothing at a cursor that steps lead to
  pub repair-identity : (n : ℕ) → cursor_of (in_text text (spot_of (after n))) ≡ after n
  repair-identity = cursors.repair-identity utf7-cursors text
