-- What the loops over whole mailbox names do.
use Rattle.std.specs.Prelude.{ℕ, ◌+◌, ◌<◌, ◌≤◌, ◌≡◌, Bool, false, List, ◌++◌, length, get_or, take, drop}
use Rattle.answer.specs.Inner.{Laid}
use Rattle.reading.specs.Reading.{read_from, reading}
use Rattle.reading.specs.Inner.{Left}
use Rattle.reading.specs.Matching.{gave, reads_as}
use Rattle.utf7.specs.Sets.{printable}
use Rattle.mailbox.specs.Rule.{outside, mailbox}
use Rattle.utf7_whole.specs.Quick.{Padded, FilledBy}
use Rattle.utf7_whole.specs.declared.names.Stand.{Stand}

-- from one place outside a run to another, reading gives some cells
pub record Goes (s : List ℕ) (at : ℕ) (after : Bool) (to : ℕ) (cs : List ℕ) (after' : Bool) : Type 0 where
  pub within : to ≤ length s
  pub few : at + length cs ≤ to
  pub same :
      read_from mailbox (drop at s) at (outside after)
      ≡ record {
        cells = cs ++ (read_from mailbox (drop to s) to (outside after')).cells;
        ending = (read_from mailbox (drop to s) to (outside after')).ending;
      }

-- and they are laid into an output
pub record Puts (s : List ℕ) (from : Stand) (out : List ℕ) (r : Stand) (out' : List ℕ) : Type 0 where
  pub cells : List ℕ
  pub goes : Goes s from.at from.after r.at cells r.after
  pub laid : Laid cells from.n out out'
  pub count : r.n ≡ from.n + length cells

-- whatever text is lent with zeros behind it: by a token, and from any place in it
abbrev pub Tokens : List ℕ → Stand → List ℕ → Stand → List ℕ → Type 0
Tokens text from out r out' = (s : List ℕ) → Padded s text → Puts s from out r out'

abbrev pub Fills : List ℕ → Stand → List ℕ → Stand → List ℕ → Type 0
Fills text from out r out' = (s : List ℕ) → Padded s text → from.at ≤ length s → Puts s from out r out'

-- a '&' stands there
abbrev pub Sign : List ℕ → Stand → Type 0
Sign text from = get_or text from.at 0 ≡ 38

-- none of the units from one place to another is printable
abbrev pub Others : List ℕ → ℕ → ℕ → Type 0
Others units from to = (i : ℕ) → from ≤ i → i < to → printable (get_or units i 0) ≡ false

-- all cells of a text are the first of a buffer
abbrev pub All : List ℕ → List ℕ → Type 0
All s buf = take (length (reading mailbox s).cells) buf ≡ (reading mailbox s).cells

-- where a reader stands after n cells, and these are the first of a buffer
abbrev pub Stands : List ℕ → Stand → Type 0
Stands s r = Left mailbox s r.at (outside r.after) r.n

abbrev pub Holds : List ℕ → Stand → List ℕ → Type 0
Holds s r buf = FilledBy mailbox s r.at (outside r.after) r.n buf

-- n cells were the same: whether the text reads as the cells is whether its rest does as theirs
pub record Matches (s cells : List ℕ) (r : Stand) : Type 0 where
  pub within : r.at ≤ length s
  pub few : r.n ≤ r.at
  pub inside : r.n ≤ length cells
  pub so :
      gave (read_from mailbox (drop r.at s) r.at (outside r.after)) (drop r.n cells)
      ≡ reads_as mailbox s cells
