-- Document 01, "The page": the record of a step, and the texts and lengths that records lead through.
use Rattle.std.specs.Prelude.{ℕ, ◌+◌, ◌-◌, Bool, true, ◌&&◌, ◌||◌, List, [], ◌∷◌, ◌++◌, length, take, drop, leb, eqb}
use Rattle.std.specs.Prelude.{None, Some}
use Rattle.editor.specs.Marks.{Mark}
use Rattle.editor.specs.Ledger.{Step}

-- "A step's record is: place, count removed, count added, the removed cells, the added cells."
pub record Entry : Type 0 where
  pub place : ℕ
  pub removed : List ℕ
  pub added : List ℕ

-- the step that a record is of
abbrev pub step_of : Entry → Step
step_of e = record { place = e.place; count = length e.removed; added = e.added }

-- the record of cells put for `count` cells at a place of a text
abbrev pub entry_at : List ℕ → ℕ → ℕ → List ℕ → Entry
entry_at text place count cells = record { place = place; removed = take count (drop place text); added = cells }

-- a step turns a text into "the cells before its place, the cells added, and the cells from place plus count on"
abbrev pub applied : Entry → List ℕ → List ℕ
applied e text = take e.place text ++ (e.added ++ drop (e.place + length e.removed) text)

-- the step that takes it back
abbrev pub turned : Entry → Entry
turned e = record { place = e.place; removed = e.added; added = e.removed }

-- the text before records, the latest first, "as undoing from the present text gives" it
unfoldable pub text_before : List Entry → List ℕ → List ℕ
text_before [] text = text
text_before (e ∷ back) text = text_before back (applied (turned e) text)

-- the length of a text after a record
abbrev pub length_after : ℕ → Entry → ℕ
length_after n e = n - length e.removed + length e.added

unfoldable pub reached : ℕ → List Entry → ℕ
reached n [] = n
reached n (e ∷ es) = reached (length_after n e) es

-- "each record's removed part lies within the text length reached so far", "no such length exceeds the text buffer"
unfoldable pub lengths_fit : ℕ → ℕ → List Entry → Bool
lengths_fit room n [] = true
lengths_fit room n (e ∷ es) =
    leb (e.place + length e.removed) n && leb (length_after n e) room && lengths_fit room (length_after n e) es

-- "0 [..] the end of a record": somewhere among steps they count for just so much
unfoldable pub ends_at : (Step → ℕ) → List Step → ℕ → Bool
ends_at weigh [] n = eqb n 0
ends_at weigh (s ∷ rest) n = eqb n 0 || (leb (weigh s) n && ends_at weigh rest (n - weigh s))

-- 14 "when the mark is not none and is neither 0 nor the end of a record", standing or undone
abbrev pub mark_fits : (Step → ℕ) → Mark → List Step → Bool
mark_fits weigh None steps = true
mark_fits weigh (Some n) steps = ends_at weigh steps n
