-- Small cases of a format, by its rule: the rows of a table, and what each states.
use Rattle.std.specs.Prelude.{ℕ, ◌≡◌, List, map, length}
use Prim.Native.String.{String}
use Rattle.answer.specs.Answer.{numbered}
use Rattle.answer.specs.Output.{Outcome, refusing}
use Rattle.answer.specs.Bytes.{bytes}
use Rattle.reading.specs.Reading.{Rule, read_into}
use Rattle.reading.specs.Spans.{Marking, marked_in}
use Rattle.reading.specs.declared.Marked.{Marked}

-- over the ways of writing
pub data Case (K : Type 0) : Type 0 where
  -- the text is accepted, and its cells
  reads : String → List ℕ → Case K
  -- the text is refused: its number and place, before 9
  fails : String → ℕ → ℕ → Case K
  -- the text's cells with their bytes
  stands : String → List Marked → Case K
  -- the cells are accepted, and their text
  writes : K → List ℕ → String → Case K
  -- the cells are refused: the index of the first that is not writable, before 9
  unwritable : K → List ℕ → ℕ → Case K

-- a cell, where its bytes begin, and where they end
abbrev pub cell : ℕ → ℕ → ℕ → Marked
cell value begin end = record { value = value; begin = begin; end = end }

-- a call that is accepted and fills an output of just that length
abbrev pub Accepts : (List ℕ → Outcome) → List ℕ → Type 0
Accepts call result = call (map (λ _. 0) result) ≡ record { verdict = numbered 0 (length result); out = result }

-- a call that is refused, whatever the output
abbrev pub Refuses : (List ℕ → Outcome) → ℕ → ℕ → Type 0
Refuses call number place = (out : List ℕ) → call out ≡ refusing (numbered number place) out

module _ {S K : Type 0} (rule : Rule S) (marking : Marking S) (write : K → List ℕ → List ℕ → Outcome) where
  abbrev pub Holds : Case K → Type 0
  Holds (reads text cells) = Accepts (read_into rule (bytes text)) cells
  Holds (fails text number place) = Refuses (read_into rule (bytes text)) number place
  Holds (stands text marks) = marked_in rule marking (bytes text) ≡ marks
  Holds (writes kind cells text) = Accepts (write kind cells) (bytes text)
  Holds (unwritable kind cells index) = Refuses (write kind cells) 10 index
