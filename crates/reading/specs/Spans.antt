-- Document 02, order 2: "Reading one cell must now also say where its bytes begin and end."
use Rattle.std.specs.Prelude.{ℕ, ◌+◌, ◌-◌, ◌<◌, ◌≤◌, Bool, true, ◌||◌, ◌≡◌, List, [], ◌∷◌, leb}
use Rattle.answer.specs.Lists.{Each}
use Rattle.reading.specs.Reading.{Does, give, go, bad, Rule}
use Rattle.reading.specs.declared.Marked.{Marked}

-- bytes of a text: from `begin` to just before `end`
pub record Span : Type 0 where
  pub begin : ℕ
  pub end : ℕ

-- the last bytes before a place; where there are fewer, all
abbrev pub last_bytes : ℕ → ℕ → Span
last_bytes count end = record { begin = end - count; end = end }

-- the last bytes up to the one at a place: a cell's own byte, its pair, and so on
abbrev pub up_to : ℕ → ℕ → Span
up_to count at = last_bytes count (at + 1)

-- wherever a cell ends, its bytes are so many
abbrev pub Takes : (ℕ → Span) → ℕ → Type 0
Takes span count = (at : ℕ) → span at ≡ up_to count at

-- a cell with its bytes
abbrev pub marked_as : ℕ → Span → Marked
marked_as v s = record { value = v; begin = s.begin; end = s.end }

abbrev pub no_mark : Marked
no_mark = record { value = 0; begin = 0; end = 0 }

-- the bytes of the cell that a byte completes, by the state before it, the byte and its place
abbrev pub Marking : Type 0 → Type 0
Marking S = S → ℕ → ℕ → Span

abbrev pub on_marked : {S : Type 0} → Does S → Span → (S → List Marked) → List Marked
on_marked (give v st) s rest = marked_as v s ∷ rest st
on_marked (go st) s rest = rest st
on_marked (bad k) s rest = []

module _ {S : Type 0} (rule : Rule S) (marking : Marking S) where
  -- the cells complete before the first fault, each with its bytes
  unfoldable pub marked_from : List ℕ → ℕ → S → List Marked
  marked_from [] at st = []
  marked_from (b ∷ bs) at st = on_marked (rule.byte st b) (marking st b at) (marked_from bs (at + 1))

  unfoldable pub marked_in : List ℕ → List Marked
  marked_in text = marked_from text 0 rule.start

-- begin < end <= the text's length
abbrev pub Within : ℕ → Marked → Type 0
Within size m = (m.begin < m.end) × (m.end ≤ size)

-- a cell of at most so many bytes
abbrev pub narrow : ℕ → Marked → Bool
narrow few m = leb (m.end - m.begin) few

-- a later cell does not begin before an earlier one begins, nor end before it ends; and they share no byte where one of the two has few bytes: a
-- run's cells have more than any outside runs
pub record Follows (few : ℕ) (earlier later : Marked) : Type 0 where
  pub begins : earlier.begin ≤ later.begin
  pub ends : earlier.end ≤ later.end
  pub apart : (narrow few earlier || narrow few later) ≡ true → earlier.end ≤ later.begin

-- each cell lies within the text, and every later one follows it
unfoldable pub InOrder : ℕ → ℕ → List Marked → Type 0
InOrder few size [] = Unit
InOrder few size (m ∷ ms) = Within size m × Each (Follows few m) ms × InOrder few size ms
