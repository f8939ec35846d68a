-- Undo and redo, one thing in two directions: back and forward.
use Rattle.std.specs.Prelude.{ℕ, ◌+◌, Bool, true, false, cond, List, length, get_or, leb}
use Rattle.ledger.specs.Page.{State, Outcome}
use Rattle.ledger.specs.Calls.{undo_of, redo_of}
use Rattle.ledger.specs.declared.Page.{Page}
use Rattle.page.specs.declared.Span.{Span}
use Rattle.page.specs.declared.Change.{Change}

abbrev pub stepped_of : Bool → State → Outcome
stepped_of false s = undo_of s
stepped_of true s = redo_of s

-- the words of the last standing record, or of the undone ones
abbrev pub span_of : Bool → Page → ℕ → Span
span_of false page last = record { from = last; to = page.done }
span_of true page last = record { from = page.done; to = page.used }

-- what a record at a word, with its first three words, does to the text
abbrev pub change_of : Bool → ℕ → ℕ → ℕ → ℕ → Change
change_of false at place removed added = record { place = place; count = added; from = at + 3; to = at + 3 + removed; done = at }
change_of true at place removed added =
    record { place = place; count = removed; from = at + 3 + removed; to = at + 3 + removed + added; done = at + 3 + removed + added }

abbrev pub change_in : Bool → List ℕ → ℕ → Change
change_in forward history at = change_of forward at (get_or history at 0) (get_or history (at + 1) 0) (get_or history (at + 2) 0)

-- no cells put for none
abbrev pub no_change : Change
no_change = record { place = 0; count = 0; from = 0; to = 0; done = 0 }

-- what a record at a word of the history does to the text: nothing where its first three words are not all there
unfoldable pub change_found : Bool → List ℕ → ℕ → Change
change_found forward history at = cond (leb (at + 3) (length history)) (change_in forward history at) no_change
