-- Document 01, "JP-2": "The tally of a list of JP-2 cells gives nine counts, one for each set in rising number."
use Rattle.std.specs.Prelude.{ℕ, ◌+◌, cond, List, [], ◌∷◌, map, length, ltb, eqb}
use Rattle.answer.specs.Answer.{Verdict, numbered, limit, too_long}
use Rattle.jp2.specs.Writable.{set_of, first_foreign}

abbrev pub sets : List ℕ
sets = 6 ∷ 14 ∷ 42 ∷ 58 ∷ 87 ∷ 100 ∷ 126 ∷ 149 ∷ 159 ∷ []

-- how many cells of a list are of a set
unfoldable pub count_of : ℕ → List ℕ → ℕ
count_of set [] = 0
count_of set (v ∷ vs) = cond (eqb (set_of v) set) 1 0 + count_of set vs

abbrev pub counts_of : List ℕ → List ℕ
counts_of cells = map (λ set. count_of set cells) sets

abbrev pub sum : List ℕ → ℕ
sum [] = 0
sum (x ∷ xs) = x + sum xs

-- the answer, and the counts: "A refused tally has nine zeros."
pub record Counts : Type 0 where
  pub verdict : Verdict
  pub counts : List ℕ

abbrev pub no_counts : Verdict → Counts
no_counts verdict = record { verdict = verdict; counts = map (λ _. 0) sets }

-- 16, then 10 with the cell's index; accepted, "tally the number of cells"
unfoldable pub tally_of : List ℕ → Counts
tally_of cells =
    cond (ltb limit (length cells)) (no_counts too_long)
    (cond (ltb (first_foreign cells) (length cells)) (no_counts (numbered 10 (first_foreign cells)))
    (record { verdict = numbered 0 (length cells); counts = counts_of cells }))
