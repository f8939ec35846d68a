-- A cell all of whose bytes come next.
use Rattle.std.specs.Prelude.{ℕ, ◌+◌, ◌<◌, ◌≤◌, ◌≡◌, List, length}
use Rattle.reading.specs.Stepping.{cell}
use Rattle.reading.specs.Decoding.{step_from}
use Rattle.reading.specs.declared.Marked.{Marked}
use Rattle.jp2_read.specs.Cursor.{state_of, jp2_code}
use Rattle.jp2_read.specs.declared.Phase.TheVariants.{Plain}
use Rattle.jp2_read.specs.declared.State.{State}

-- between cells
abbrev pub at_rest : ℕ → ℕ → State
at_rest g0 g2 = record { g0 = g0; g2 = g2; phase = Plain }

-- a cell of so many bytes at a place
abbrev pub marked_at : ℕ → ℕ → ℕ → Marked
marked_at value at count = record { value = value; begin = at; end = at + count }

-- the step hands out this cell, and the reader is in the same state behind it
pub record Hands (text : List ℕ) (at : ℕ) (st : State) (m : Marked) : Type 0 where
  pub some : at < m.end
  pub within : m.end ≤ length text
  pub so : (handed : ℕ) → step_from jp2_code text at st handed ≡ cell m (record { at = m.end; handed = handed + 1; state = state_of st })
