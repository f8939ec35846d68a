-- Document 02, order 13: each bench as a layout of one text being edited.
use Rattle.std.specs.Prelude.{ℕ, ◌+◌, ◌-◌, Bool, ◌||◌, List, [], ◌∷◌, ◌++◌, reverse, length, take, drop}
use Rattle.std.specs.Prelude.{Option, None, Some}
use Rattle.editor.specs.Marks.{Mark}
use Rattle.editor.specs.Records.{Entry}
use Rattle.editor.specs.Editor.{Editor, Space, over}
use Rattle.editor.specs.Layout.{Layout}
use Rattle.ledger.specs.Words.{pad}
use Rattle.benches.specs.declared.Bench.{Bench}
use Rattle.benches.specs.Words.{Side, at, put, Record, size_of, sizes, words, own, kept, in_steps}
use Rattle.benches.specs.Benches.{State, text_in, records}

-- what the calls see of a bench with this text buffer and these records
abbrev pub editor_of : Bench → List ℕ → List Entry → Editor
editor_of b text es =
    record {
      kind = b.kind;
      room = length text;
      text = take b.length text;
      standing = reverse (take b.standing es);
      undone = drop b.standing es;
      saved = b.saved;
    }

abbrev pub editor_for : State → Side → Option (List Record) → Option Editor
editor_for t s None = None
editor_for t s (Some rs) = Some (editor_of (at t.benches s) (at t.texts s) (own s rs))

-- a buffer is over the limit: either text, or the history
abbrev pub long : State → Bool
long t = over t.texts.bench0 || (over t.texts.bench1 || over t.history)

-- the records that lie in a state; none where it is not sound
abbrev pub these : Option (List Record) → List Record
these None = []
these (Some rs) = rs

abbrev pub lying_in : State → List Record
lying_in t = these (records t)

-- "12 exactly when all words, less the caller's undone ones, plus the new record's exceed the room". What is done is
-- how many steps stand. "Squeezing and page files stay with single pages": no words are laid for folded records here.
abbrev pub space_in : State → Side → Space
space_in t s =
    record {
      words = length t.history;
      needed = λ x. t.used - sizes (drop (at t.benches s).standing (own s (lying_in t))) + size_of x;
      done = (at t.benches s).standing;
      laid = λ x. [];
    }

-- the bench of the caller's editor
abbrev pub bench_as : Bench → Editor → Bench
bench_as b e =
    record {
      kind = b.kind;
      opening = b.opening;
      length = length e.text;
      standing = length e.standing;
      saved = e.saved;
    }

-- the caller's bench and text after its call; "text past the length and history past *used* are 0"
abbrev pub left : State → Side → Editor → ℕ → List ℕ → State
left t s e used history =
    record {
      benches = put t.benches s (bench_as (at t.benches s) e);
      used = used;
      texts = put t.texts s (pad (length (at t.texts s)) e.text);
      history = history;
    }

abbrev pub marked_as : Bench → Mark → Bench
marked_as b saved =
    record { kind = b.kind; opening = b.opening; length = b.length; standing = b.standing; saved = saved }

-- "Records lie in the order accepted": the bench's undone steps are dropped, and the new record is last
abbrev pub records_after : State → Side → Entry → List Record
records_after t s x =
    kept s (at t.benches s).standing (lying_in t) ++ record { bench = s; entry = x } ∷ []

abbrev pub bench : Side → Layout State
bench s =
    record {
      weigh = in_steps;
      long = long;
      editor_in = λ t. editor_for t s (records t);
      text_in = λ t. text_in t s;
      space_in = λ t. space_in t s;
      -- a save changes the bench's mark, and no buffer
      marked =
          λ t saved.
          record {
            benches = put t.benches s (marked_as (at t.benches s) saved);
            used = t.used;
            texts = t.texts;
            history = t.history;
          };
      -- undo and redo: "Neither changes the history."
      moved = λ t e. left t s e t.used t.history;
      recorded =
          λ t e x.
          left t s e (length (words (records_after t s x))) (pad (length t.history) (words (records_after t s x)));
      -- no call of a bench folds
      folded = λ t e old x. t;
    }
