-- "Each kind carries its own greatest number of bytes for one cell, 5, 5 and 6, and its bytes at the end, 0, 0 and 3":
-- what these numbers mean.
use Rattle.std.specs.Prelude.{ℕ, ◌+◌, ◌*◌, ◌≤◌, ◌≡◌, List, [], ◌∷◌, ◌++◌, length}
use Rattle.answer.specs.Answer.{limit}
use Rattle.codec.specs.declared.Kind.{Kind}
use Rattle.codec.specs.Kinds.{bytes_per_cell, bytes_at_end, most_bytes, first_unwritable, writing_in}

abbrev pub bytes_for : Kind → List ℕ → ℕ
bytes_for kind cells = length (writing_in kind cells)

abbrev pub Writable : Kind → List ℕ → Type 0
Writable kind cells = first_unwritable kind cells ≡ length cells

-- "n units need at most 5n bytes", "n cells need at most 6n + 3 bytes"; and all of them are needed: after some cells,
-- one takes just so many bytes more, and alone it takes those at the end besides
pub record Sizes (kind : Kind) : Type 0 where
  pub most :
      (cells : List ℕ) → Writable kind cells →
      bytes_for kind cells ≤ bytes_per_cell kind * length cells + bytes_at_end kind
  pub before : List ℕ
  pub cell : ℕ
  pub writable : Writable kind (before ++ cell ∷ [])
  pub more : bytes_for kind (before ++ cell ∷ []) ≡ bytes_for kind before + bytes_per_cell kind
  pub alone : bytes_for kind (cell ∷ []) ≡ bytes_per_cell kind + bytes_at_end kind
  -- an output of the most bytes always has room
  pub fits : (cells : List ℕ) → Writable kind cells → length cells ≤ limit → bytes_for kind cells ≤ most_bytes
