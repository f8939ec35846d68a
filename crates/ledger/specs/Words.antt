-- Document 01, "The page": the words that the records of the steps are.
use Rattle.std.specs.Prelude.{ℕ, zero, suc, ◌+◌, ◌-◌, Bool, true, cond, ◌&&◌, List, [], ◌∷◌, ◌++◌, length, take, drop, replicate, leb, eqb}
use Rattle.std.specs.Prelude.{Option, None, Some}
use Rattle.editor.specs.Ledger.{Step}
use Rattle.editor.specs.Records.{step_of}
pub use Rattle.editor.specs.Records.{Entry, length_after}
unfoldable pub use Rattle.editor.specs.Records.{reached, lengths_fit}

-- "A step's record is: place, count removed, count added, the removed cells, the added cells."
abbrev pub words_of : Entry → List ℕ
words_of e = e.place ∷ length e.removed ∷ length e.added ∷ (e.removed ++ e.added)

-- "3 for each standing step and one for each cell that it removes or adds"
abbrev pub in_words : Step → ℕ
in_words s = 3 + s.count + length s.added

abbrev pub size_of : Entry → ℕ
size_of e = in_words (step_of e)

-- how many words records are
abbrev pub sizes : List Entry → ℕ
sizes [] = 0
sizes (e ∷ es) = sizes es + size_of e

abbrev pub onto : Entry → Option (List Entry) → Option (List Entry)
onto e None = None
onto e (Some es) = Some (e ∷ es)

-- the records that tile a list of words, or none; the number bounds how many there are
unfoldable pub records_in : ℕ → List ℕ → Option (List Entry)
records_in zero [] = Some []
records_in zero (p ∷ ws) = None
records_in (suc n) [] = Some []
records_in (suc n) (p ∷ []) = None
records_in (suc n) (p ∷ r ∷ []) = None
records_in (suc n) (p ∷ r ∷ a ∷ ws) =
    cond (leb (r + a) (length ws))
    (onto (record { place = p; removed = take r ws; added = take a (drop r ws) }) (records_in n (drop (r + a) ws)))
    None

-- records, parted: those that stand, the latest first, and those that can be redone
pub record Parted : Type 0 where
  pub standing : List Entry
  pub undone : List Entry

-- "done is 0 or one of their ends": the records parted there, or none; `back` are those passed, the latest first
unfoldable pub part_at : List Entry → ℕ → List Entry → Option Parted
part_at [] done back = cond (eqb done 0) (Some (record { standing = back; undone = [] })) None
part_at (e ∷ es) done back =
    cond (eqb done 0) (Some (record { standing = back; undone = e ∷ es }))
    (cond (leb (size_of e) done) (part_at es (done - size_of e) (e ∷ back)) None)

-- every element is 0
unfoldable pub zeros : List ℕ → Bool
zeros [] = true
zeros (x ∷ xs) = eqb x 0 && zeros xs

-- elements in a buffer of n, with 0 past their end
abbrev pub pad : ℕ → List ℕ → List ℕ
pad n l = l ++ replicate (n - length l) 0
