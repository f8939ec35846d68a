-- What the writer's private functions hand on: a text's pieces, and the sets in force.
use Rattle.std.specs.Prelude.{ℕ, zero, suc, ◌+◌, ◌*◌, ◌-◌, ◌/◌, ◌%◌, ◌<◌, ◌≤◌, ◌≡◌, Bool, true, false, cond, ◌&&◌, List, [], ◌∷◌, ◌⊎◌, length, get_or, drop, eqb}
use Rattle.answer.specs.Output.{filled}
use Rattle.jp2.specs.Table.{row_at, sent, row_of_number}
use Rattle.jp2.specs.Rule.{cell_of}
use Rattle.jp2.specs.Writable.{set_of, code_of, pair_set, shift_set, writable, first_foreign}
use Rattle.jp2.specs.Writing.{force, write_from, writing}
use Rattle.jp2_write.specs.declared.Survey.{Survey}

abbrev pub designation_of : ℕ → List ℕ
designation_of n = sent (row_at (row_of_number n))

-- a cell's bytes after its designation: of a set of G0, and of a set of G2
unfoldable pub base_of : ℕ → ℕ → List ℕ
base_of n c = cond (pair_set n) (c / 256 ∷ c % 256 ∷ []) (c ∷ [])

abbrev pub shifted_of : ℕ → List ℕ
shifted_of c = 27 ∷ 78 ∷ c ∷ []

-- of a cell that is ready, by how many they are
unfoldable pub one_of : ℕ → ℕ → List ℕ
one_of c size = cond (eqb size 3) (shifted_of c) (c ∷ [])

-- how many these are where the set is in force; 0 where it is not
unfoldable pub body_size : ℕ → ℕ → ℕ → ℕ
body_size n g0 g2 = cond (shift_set n) (cond (eqb n g2) 3 0) (cond (eqb n g0) (cond (pair_set n) 2 1) 0)

abbrev pub low_byte : ℕ → ℕ
low_byte v = v % 256

-- the cell before an index is CR
abbrev pub after_cr : List ℕ → ℕ → Bool
after_cr cells zero = false
after_cr cells (suc i) = eqb (get_or cells i 0) (cell_of 6 13)

-- G2 after a cell of G0: CR and then LF clear it
unfoldable pub g2_after : List ℕ → ℕ → ℕ → ℕ
g2_after cells i g2 = cond (after_cr cells i && eqb (get_or cells i 0) (cell_of 6 10)) 0 g2

-- what is to be written from the i-th cell on, with these sets in force
abbrev pub todo : List ℕ → ℕ → ℕ → ℕ → List ℕ
todo cells i g0 g2 = write_from (drop i cells) (force g0 g2 (after_cr cells i))

-- a cell of ASCII that is one byte and leaves G2 as it is: 32 to 127
pub record Plain (v : ℕ) : Type 0 where
  pub least : cell_of 6 32 ≤ v
  pub most : v ≤ cell_of 6 127

-- plain cells from an index to another; if there are any, ASCII is in G0
pub record Stretch (cells : List ℕ) (g0 from to : ℕ) : Type 0 where
  pub after : from ≤ to
  pub within : to ≤ length cells
  pub ascii : from < to → g0 ≡ 6
  pub plain : (k : ℕ) → from ≤ k → k < to → Plain (get_or cells k 0)

-- the bytes of a cell with a code of 32 to 127, of ASCII in G0 or of the set in G2
pub record Ready (v g0 g2 size : ℕ) : Type 0 where
  pub ascii : g0 ≡ 6
  pub shift : shift_set g2 ≡ true
  pub least : 32 ≤ code_of v
  pub most : code_of v ≤ 127
  pub stands : ((set_of v ≡ 6) × (size ≡ 1)) ⊎ ((set_of v ≡ g2) × (size ≡ 3))

-- cells from an index to another that are ready, and their bytes
pub record Run (cells : List ℕ) (g0 g2 from to size : ℕ) : Type 0 where
  pub after : from ≤ to
  pub within : to ≤ length cells
  pub sum : length (todo cells from g0 g2) ≡ size + length (todo cells to g0 g2)
  pub most : size ≤ 3 * (to - from)
  pub may : (k : ℕ) → from ≤ k → k < to → writable (get_or cells k 0) ≡ true

-- cells are judged, and if all are writable, their bytes are counted
pub record Surveyed (cells : List ℕ) (s : Survey) : Type 0 where
  pub judged : s.foreign ≡ first_foreign cells
  pub counted : length cells ≤ s.foreign → s.need ≡ length (writing cells)

-- bytes are put to the front of an output, and counted
pub record Puts (bytes out₀ out : List ℕ) (count : ℕ) : Type 0 where
  pub so : out ≡ filled bytes out₀
  pub size : count ≡ length bytes
