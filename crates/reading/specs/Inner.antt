-- A reading on its way, as the contracts of the functions that fill an output say it: no promise to a caller
-- rests on these.
use Rattle.std.specs.Prelude.{ℕ, ◌≤◌, ◌≡◌, List, length, take, drop}
use Rattle.answer.specs.Inner.{Put}
use Rattle.reading.specs.Reading.{Rule, read_from, reading}

-- a reader at a place, in a state, after n cells of a text: what is left of the reading is that of what is left of
-- the text
pub record Left {S : Type 0} (rule : Rule S) (s : List ℕ) (at : ℕ) (st : S) (n : ℕ) : Type 0 where
  pub within : at ≤ length s
  pub few : n ≤ at
  pub inside : n ≤ length (reading rule s).cells
  pub cells : drop n (reading rule s).cells ≡ (read_from rule (drop at s) at st).cells
  pub ending : (reading rule s).ending ≡ (read_from rule (drop at s) at st).ending

-- n cells of a text stand in an output that has room for all
pub record Filling {S : Type 0} (rule : Rule S) (s : List ℕ) (at : ℕ) (st : S) (n : ℕ)
    (out₀ out : List ℕ) : Type 0 where
  pub left : Left rule s at st n
  pub put : Put (reading rule s).cells out₀ out n (read_from rule (drop at s) at st).cells

-- the first n places of a buffer that has a place for every byte hold the cells so far
pub record Front {S : Type 0} (rule : Rule S) (s : List ℕ) (at : ℕ) (st : S) (n : ℕ) (buf : List ℕ) : Type 0 where
  pub left : Left rule s at st n
  pub room : length s ≤ length buf
  pub front : take n buf ≡ take n (reading rule s).cells
