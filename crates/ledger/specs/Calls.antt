-- Document 01, "The page" and "Numbers given back": the five calls, and everything they leave; and order 5's question
-- and order 8's squeeze. Replace, undo, redo, save and squeeze are the editor's calls, laid out in the page.
use Rattle.std.specs.Prelude.{ℕ, cond, ◌||◌, List, [], length, replicate, ltb, None, Some}
use Rattle.answer.specs.Answer.{numbered, too_long}
use Rattle.reading.specs.Reading.{Ending, accepted, fault}
use Rattle.codec.specs.declared.Kind.{Kind}
use Rattle.codec.specs.Kinds.{reading_in}
use Rattle.editor.specs.Ledger.{Call, replace, undo, redo, save, squeeze}
use Rattle.editor.specs.Layout as editor
use Rattle.ledger.specs.Words.{pad}
use Rattle.ledger.specs.Page.{State, state_of, Outcome}
use Rattle.ledger.specs.Layout.{page}
use Rattle.ledger.specs.declared.Page.{Page}
pub use Rattle.editor.specs.Records.{applied, turned, entry_at}
pub use Rattle.editor.specs.Editor.{over}
pub use Rattle.editor.specs.Layout.{refusing, Reply}

abbrev pub outcome_of : State → Call → Outcome
outcome_of s c = editor.outcome_of page s c

-- 16, 14, 11, 10, 9, 12
abbrev pub replace_of : State → ℕ → ℕ → List ℕ → Outcome
replace_of s place count cells = outcome_of s (replace place count cells)

-- 16, 14, 13
abbrev pub undo_of : State → Outcome
undo_of s = outcome_of s undo

abbrev pub redo_of : State → Outcome
redo_of s = outcome_of s redo

-- 16, 14, then 15 where no step stands or 10 where one does, then 9
abbrev pub save_of : State → List ℕ → List ℕ → Outcome
save_of s arrived out = outcome_of s (save arrived out)

-- squeeze: 16, 14, 11, 19, 9; the output is the work buffer
abbrev pub squeeze_of : State → ℕ → List ℕ → Outcome
squeeze_of s k work = outcome_of s (squeeze k work)

-- the question: 16, 14
abbrev pub unchanged_of : State → Reply
unchanged_of s = editor.reply_of page s

-- "a refused open gives the kind with four zeros"; "a refused one [sets the mark] to none"
abbrev pub no_page : Kind → Page
no_page kind = record { kind = kind; opening = 0; length = 0; used = 0; done = 0; saved = None }

-- "Open reads the arrived bytes into the text. Nothing stands; history is all 0." "An accepted open sets it to 0"
abbrev pub opened_on : Kind → List ℕ → List ℕ → List ℕ → Outcome
opened_on kind cells text history =
    record {
      verdict = numbered 0 (length cells);
      state =
          state_of
          (record { kind = kind; opening = length cells; length = length cells; used = 0; done = 0; saved = Some 0 })
          (pad (length text) cells) (replicate (length history) 0);
      output = [];
    }

unfoldable pub open_read : Kind → List ℕ → List ℕ → Ending → List ℕ → Outcome
open_read kind text history accepted cells =
    cond (ltb (length text) (length cells))
    (refusing (state_of (no_page kind) text history) [] (numbered 9 (length cells)))
    (opened_on kind cells text history)
open_read kind text history (fault k place) cells = refusing (state_of (no_page kind) text history) [] (numbered k place)

-- open: 16, reading's faults, 9
unfoldable pub open_of : Kind → List ℕ → List ℕ → List ℕ → Outcome
open_of kind arrived text history =
    cond (over arrived || (over text || over history)) (refusing (state_of (no_page kind) text history) [] too_long)
    (open_read kind text history (reading_in kind arrived).ending (reading_in kind arrived).cells)
