-- The text before some of a page's records, as its words and the present text have it: what the code follows, a stretch
-- of cells at a time.
use Rattle.std.specs.Prelude.{ℕ, ◌+◌, ◌-◌, ◌≤◌, ◌<◌, ◌≡◌, Bool, true, false, cond, ◌&&◌, List, [], reverse, length, get_or, take, drop, ltb, leb, min}
use Rattle.std.specs.Prelude.{Option, None, Some}
use Rattle.std.proofs.Math.Seq.{slice}
use Rattle.answer.specs.Answer.{limit}
use Rattle.editor.specs.Records.{Entry, text_before}
use Rattle.ledger.specs.Words.{records_in, lengths_fit, reached}
use Rattle.squeeze.specs.declared.Head.{Head}
use Rattle.squeeze.specs.declared.Trail.{Trail}
use Rattle.squeeze.specs.declared.Stretch.{Stretch}

-- the records in the words from one to another
abbrev pub held_by : Option (List Entry) → List Entry
held_by None = []
held_by (Some es) = es

abbrev pub entries_in : ℕ → ℕ → List ℕ → List Entry
entries_in from to history = held_by (records_in (length (slice from to history)) (slice from to history))

-- the text before them, "as undoing from the present text gives" it
abbrev pub text_since : ℕ → ℕ → List ℕ → List ℕ → List ℕ
text_since from to history text = text_before (reverse (entries_in from to history)) text

-- the words from one to another are records, which lead from the text before them to the present one
pub record Leads (from to : ℕ) (history text : List ℕ) : Type 0 where
  pub room : ℕ
  pub small : room ≤ limit
  pub order : from ≤ to
  pub within : to ≤ length history
  pub found : records_in (length (slice from to history)) (slice from to history) ≡ Some (entries_in from to history)
  pub fits : lengths_fit room (length (text_since from to history text)) (entries_in from to history) ≡ true
  pub reach : reached (length (text_since from to history text)) (entries_in from to history) ≡ length text

-- the first words of a record that begins at a word, and where it ends
abbrev pub head_in : List ℕ → ℕ → Head
head_in history at =
    record {
      place = get_or history at 0;
      removed = get_or history (at + 1) 0;
      added = get_or history (at + 2) 0;
      end = at + (3 + get_or history (at + 1) 0 + get_or history (at + 2) 0);
    }

-- a walk that started at a cell of the text before some records, and stands at another record with a cell of the text
-- before that one: as many cells from there on are the same
pub record On (from to : ℕ) (history text : List ℕ) (start most at cell count : ℕ) : Type 0 where
  pub leads : Leads at to history text
  pub some : 0 < count
  pub few : count ≤ most
  pub part : cell + count ≤ length (text_since at to history text)
  pub same :
      take count (drop start (text_since from to history text)) ≡ take count (drop cell (text_since at to history text))

-- a record removed a cell of the text before it
abbrev pub kept_in : Head → ℕ → Bool
kept_in h cell = leb h.place cell && ltb (cell - h.place) h.removed

-- the walk behind a record that did not
abbrev pub passed : Head → ℕ → ℕ → Trail
passed h cell count =
    cond (ltb cell h.place) (record { at = h.end; cell = cell; count = min count (h.place - cell) })
    (record { at = h.end; cell = cell - h.removed + h.added; count = count })

-- where the cells of a stretch are
abbrev pub cells_in : Bool → List ℕ → List ℕ → List ℕ
cells_in true history text = history
cells_in false history text = text

-- a stretch is of cells of a text, from a place on, and of no more than so many
pub record Follows (s : Stretch) (history text traced : List ℕ) (start most : ℕ) : Type 0 where
  pub some : 0 < s.count
  pub few : s.count ≤ most
  pub part : s.at + s.count ≤ length (cells_in s.kept history text)
  pub cells : take s.count (drop s.at (cells_in s.kept history text)) ≡ take s.count (drop start traced)
