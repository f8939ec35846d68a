-- Document 01, "The page": a page with its buffers as a layout of one text being edited.
use Rattle.std.specs.Prelude.{ℕ, ◌+◌, ◌-◌, ◌||◌, List, ◌++◌, length, take, drop, Option, None, Some}
use Rattle.editor.specs.Marks.{Mark}
use Rattle.editor.specs.Editor.{Editor, Space, over}
use Rattle.editor.specs.Layout.{Layout}
use Rattle.ledger.specs.Words.{Entry, Parted, words_of, in_words, size_of, sizes, pad}
use Rattle.ledger.specs.declared.Page.{Page}
use Rattle.ledger.specs.Page.{State, state_of, text_in, records}

-- what the calls see of a page with these records
abbrev pub editor_of : State → Parted → Editor
editor_of s v =
    record {
      kind = s.page.kind;
      room = length s.text;
      text = text_in s;
      standing = v.standing;
      undone = v.undone;
      saved = s.page.saved;
    }

abbrev pub editor_for : State → Option Parted → Option Editor
editor_for s None = None
editor_for s (Some v) = Some (editor_of s v)

-- "12 is given exactly when done + 3 + removed + added exceeds the history's length"
abbrev pub space_in : State → Space
space_in s =
    record {
      words = length s.history;
      needed = λ e. s.page.done + size_of e;
      done = s.page.done;
      laid = words_of;
    }

-- "After an accepted open, replace, undo or redo, text past the length and history past *used* are 0."
abbrev pub left : State → List ℕ → ℕ → ℕ → Mark → List ℕ → State
left s text used done saved history =
    state_of
    (record {
      kind = s.page.kind;
      opening = s.page.opening;
      length = length text;
      used = used;
      done = done;
      saved = saved;
    })
    (pad (length s.text) text) history

-- a save changes the page's mark, and neither buffer
abbrev pub marked_as : Page → Mark → Page
marked_as p saved =
    record {
      kind = p.kind;
      opening = p.opening;
      length = p.length;
      used = p.used;
      done = p.done;
      saved = saved;
    }

-- document 02, order 8: so many words folded into a record. "the text buffer stays as it is. Later steps follow
-- unchanged, closed up, and freed words are 0."
abbrev pub folded_in : State → Mark → ℕ → Entry → State
folded_in s saved old x =
    state_of
    (record {
      kind = s.page.kind;
      opening = s.page.opening;
      length = s.page.length;
      used = s.page.used - old + size_of x;
      done = s.page.done - old + size_of x;
      saved = saved;
    })
    s.text (pad (length s.history) (words_of x ++ drop old (take s.page.used s.history)))

abbrev pub page : Layout State
page =
    record {
      weigh = in_words;
      long = λ s. over s.text || over s.history;
      editor_in = λ s. editor_for s (records s);
      text_in = text_in;
      space_in = space_in;
      marked = λ s saved. state_of (marked_as s.page saved) s.text s.history;
      -- undo and redo: "Neither changes the history."
      moved = λ s e. left s e.text s.page.used (sizes e.standing) e.saved s.history;
      -- "Replace drops what could be redone, then records its step": the words before done, and the new record
      recorded =
          λ s e x. left s e.text (s.page.done + size_of x) (s.page.done + size_of x) e.saved
          (pad (length s.history) (take s.page.done s.history ++ words_of x));
      folded = λ s e old x. folded_in s e.saved (sizes old) x;
    }
