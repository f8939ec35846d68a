-- An edit of a buffer in place, of which the first elements are in use: what it leaves.
use Rattle.std.specs.Prelude.{ℕ, ◌+◌, ◌-◌, ◌≤◌, ◌≡◌, Bool, true, cond, ◌&&◌, List, ◌++◌, length, take, drop, replicate, leb}
use Rattle.std.proofs.Math.Seq.{paste}
use Rattle.ledger.specs.Words.{zeros}

-- a buffer of which the first n elements are in use, and the others 0
pub record Filled (n : ℕ) (buffer : List ℕ) : Type 0 where
  pub fits : n ≤ length buffer
  pub blank : zeros (drop n buffer) ≡ true

-- cells put for `count` cells at a place; `applied` of the crate ledger is this, for the step of a record
abbrev pub spliced : ℕ → ℕ → List ℕ → List ℕ → List ℕ
spliced place count cells text = take place text ++ (cells ++ drop (place + count) text)

-- a list with 0 from a place up to another
abbrev pub cleared : ℕ → ℕ → List ℕ → List ℕ
cleared at to l = paste l at (replicate (length l) 0) (to - at)

-- a list with n elements moved to a place that is not after theirs; it stays as it was where the place is after theirs,
-- or not all n are there
unfoldable pub shifted_left : ℕ → ℕ → ℕ → List ℕ → List ℕ
shifted_left from to n l = cond (leb to from && leb (from + n) (length l)) (paste l to (drop from l) n) l

-- whether so many cells can be put for `count` at a place of the elements in use, in a buffer of this length
unfoldable pub fitting : ℕ → ℕ → ℕ → ℕ → ℕ → Bool
fitting used place count new room = leb (place + count) used && leb used room && leb (used - count + new) room

-- how many elements are in use after that
unfoldable pub used_after : ℕ → ℕ → ℕ → ℕ → ℕ → ℕ
used_after used place count new room = cond (fitting used place count new room) (used - count + new) used

-- the buffer after that: the elements in use with the cells among them, 0 up to where elements were in use, and what follows as it was
unfoldable pub spliced_in : ℕ → ℕ → ℕ → List ℕ → List ℕ → List ℕ
spliced_in used place count cells buffer =
    cond (fitting used place count (length cells) (length buffer))
    (cleared (used - count + length cells) used (spliced place count cells (take used buffer) ++ drop (used - count + length cells) buffer))
    buffer
