-- "Add a comparer of two arrived texts of one kind: the same, with the count of cells, or the first cell index at
-- which they part with the byte place in each where that cell begins (the text length if it has ended)."
use Rattle.std.specs.Prelude.{ℕ, suc, cond, List, [], ◌∷◌, length, eqb, Ok, Err}
use Rattle.std.specs.declared.result.Result.{Result}
use Rattle.answer.specs.Answer.{Verdict, numbered, number_of}
use Rattle.answer.specs.declared.Refused.{Refused}
use Rattle.reading.specs.Stepping.{cells_of, answer_of}
use Rattle.reading.specs.declared.Marked.{Marked}
use Rattle.codec.specs.declared.Format.{Format}
use Rattle.stepper.specs.Stepper.{reading_of, marked_of}
use Rattle.comparer.specs.declared.Text.{Text}
use Rattle.comparer.specs.declared.Text.TheVariants.{First, Second}
use Rattle.comparer.specs.declared.Compared.{Compared}
use Rattle.comparer.specs.declared.Compared.TheVariants.{Same, Part}

-- the count of cells; or the index and the place in each; or which text is refused, and how
pub data Comparison : Type 0 where
  same : ℕ → Comparison
  part : ℕ → ℕ → ℕ → Comparison
  refused : Text → Verdict → Comparison

abbrev pub found_as : Compared → Comparison
found_as (Same count) = same count
found_as (Part index first second) = part index first second

abbrev pub compared_as : Result Compared (Text × Refused) → Comparison
compared_as (Ok found) = found_as found
compared_as (Err (which, deny)) = refused which (numbered (number_of deny.0) deny.1)

-- a text's cells with their bytes, and its answer: "Refusals: those of reading without 9"
abbrev pub marks_of : Format → List ℕ → List Marked
marks_of f text = cells_of text (marked_of f text)

abbrev pub verdict_in : Format → List ℕ → Verdict
verdict_in f text = answer_of text (reading_of f text)

-- what is left of two texts' cells behind n that are the same, where `one` and `two` are the texts' lengths
unfoldable pub parts_at : ℕ → ℕ → ℕ → List Marked → List Marked → Comparison
parts_at one two n [] [] = same n
parts_at one two n [] (b ∷ others) = part n one b.begin
parts_at one two n (a ∷ rest) [] = part n a.begin two
parts_at one two n (a ∷ rest) (b ∷ others) =
    cond (eqb a.value b.value) (parts_at one two (suc n) rest others) (part n a.begin b.begin)

abbrev pub parts_of : Format → List ℕ → List ℕ → Comparison
parts_of f first second = parts_at (length first) (length second) 0 (marks_of f first) (marks_of f second)

-- a refusal comes before what would be told otherwise
abbrev pub unless_refused : Text → Verdict → Comparison → Comparison
unless_refused which answer otherwise = cond (eqb answer.number 0) otherwise (refused which answer)

-- "all of the first text's, 16 too, before the second's, saying which text"
abbrev pub judged_by : Verdict → Verdict → Comparison → Comparison
judged_by one two found = unless_refused First one (unless_refused Second two found)

unfoldable pub compare_of : Format → List ℕ → List ℕ → Comparison
compare_of f first second = judged_by (verdict_in f first) (verdict_in f second) (parts_of f first second)
