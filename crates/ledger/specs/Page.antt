-- Document 01, "The page": a page with the buffers lent beside it, and when it is sound.
use Rattle.std.specs.Prelude.{ℕ, Bool, true, false, cond, ◌&&◌, List, [], map, reverse, length, take, drop, leb, eqb}
use Rattle.std.specs.Prelude.{Option, None, Some}
use Rattle.answer.specs.Answer.{in_numbers}
use Rattle.editor.specs.Records.{step_of, mark_fits}
use Rattle.editor.specs.Layout as editor
use Rattle.ledger.specs.Words.{Entry, Parted, in_words, records_in, reached, lengths_fit, part_at, zeros}
use Rattle.ledger.specs.declared.Page.{Page}
use Rattle.ledger.specs.declared.Edited.{Edited}
use Rattle.ledger.specs.declared.Asked.{Asked}

pub record State : Type 0 where
  pub page : Page
  pub text : List ℕ
  pub history : List ℕ

abbrev pub state_of : Page → List ℕ → List ℕ → State
state_of page text history = record { page = page; text = text; history = history }

-- the cells of the page's text
abbrev pub text_in : State → List ℕ
text_in s = take s.page.length s.text

-- "both lengths and used fit their buffers", "everything past the ends is 0"
unfoldable pub framed : State → Bool
framed s =
    leb s.page.opening (length s.text)
    && leb s.page.length (length s.text)
    && leb s.page.used (length s.history)
    && zeros (drop s.page.length s.text)
    && zeros (drop s.page.used s.history)

-- "the length reached at done is the page's"
unfoldable pub reached_at_done : Page → Option Parted → Option Parted
reached_at_done page None = None
reached_at_done page (Some v) = cond (eqb (reached page.opening (reverse v.standing)) page.length) (Some v) None

-- "14 also when the mark is not none and is neither 0 nor the end of a record", of the undone ones too
unfoldable pub fitting : State → Option (List Entry) → Option Parted
fitting s None = None
fitting s (Some es) =
    cond (lengths_fit (length s.text) s.page.opening es && mark_fits in_words s.page.saved (map step_of es))
    (reached_at_done s.page (part_at es s.page.done []))
    None

-- the records of a sound page, parted at done; none where the page is not sound
unfoldable pub records : State → Option Parted
records s = cond (framed s) (fitting s (records_in s.page.used (take s.page.used s.history))) None

-- "A page is sound"
abbrev pub found : Option Parted → Bool
found None = false
found (Some v) = true

abbrev pub sound : State → Bool
sound s = found (records s)

-- what a call answers, and everything that it leaves; the output is save's, or squeeze's work buffer
abbrev pub Outcome : Type 0
Outcome = editor.Outcome State

-- what a call that gives a page back leaves: its answer in numbers, the page, the text and the history at exit
abbrev pub leaves : Edited → List ℕ → List ℕ → Outcome
leaves r text history = record { verdict = in_numbers r.answer; state = state_of r.page text history; output = [] }

-- what save and squeeze leave: the page, its buffers, and the output
abbrev pub keeps : Edited → List ℕ → List ℕ → List ℕ → Outcome
keeps r text history out =
    record { verdict = in_numbers r.answer; state = state_of r.page text history; output = out }

-- what the question gives
abbrev pub replies : Asked → editor.Reply
replies r = record { verdict = in_numbers r.answer; unchanged = r.unchanged }
