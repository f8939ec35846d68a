-- What reading a text means, by any rule for a byte and for the end of the text.
use Rattle.std.specs.Prelude.{ℕ, ◌+◌, cond, List, [], ◌∷◌, length, ltb}
use Rattle.answer.specs.Answer.{Verdict, numbered, limit, too_long}
use Rattle.answer.specs.Output.{Outcome, refusing, deliver}

-- what a byte does in a state: it completes a cell, it goes on, or it is a fault, by its number
pub data Does (S : Type 0) : Type 0 where
  give : ℕ → S → Does S
  go : S → Does S
  bad : ℕ → Does S

-- how a text ends: accepted, or with a fault, by its number and place
pub data Ending : Type 0 where
  accepted : Ending
  fault : ℕ → ℕ → Ending

-- the state at the start of a text, what a byte does, and how a text of some length ends in a state
pub record Rule (S : Type 0) : Type 0 where
  pub start : S
  pub byte : S → ℕ → Does S
  pub end : ℕ → S → Ending

-- the cells complete before the first fault, and how the text ends
pub record Reading : Type 0 where
  pub cells : List ℕ
  pub ending : Ending

abbrev pub push : ℕ → Reading → Reading
push v r = record { cells = v ∷ r.cells; ending = r.ending }

abbrev pub on_read : {S : Type 0} → Does S → ℕ → (S → Reading) → Reading
on_read (give v st) at rest = push v (rest st)
on_read (go st) at rest = rest st
on_read (bad k) at rest = record { cells = []; ending = fault k at }

-- the number and place of an ending after some cells: 0 with their count, or the fault
abbrev pub closing : Ending → ℕ → Verdict
closing accepted count = numbered 0 count
closing (fault k place) count = numbered k place

-- the answer of a reading that has room enough
abbrev pub verdict_of : Reading → Verdict
verdict_of r = closing r.ending (length r.cells)

-- "9 only for a text with no fault"
abbrev pub on_ending : Ending → List ℕ → List ℕ → Outcome
on_ending accepted cells out = deliver cells out
on_ending (fault k place) cells out = refusing (numbered k place) out

module _ {S : Type 0} (rule : Rule S) where
  -- the reading of the bytes that stand from a place on, in a state
  unfoldable pub read_from : List ℕ → ℕ → S → Reading
  read_from [] at st = record { cells = []; ending = rule.end at st }
  read_from (b ∷ bs) at st = on_read (rule.byte st b) at (read_from bs (at + 1))

  unfoldable pub reading : List ℕ → Reading
  reading text = read_from text 0 rule.start

  -- reading into an output: "16 comes first", then the earliest fault, then 9
  unfoldable pub read_into : List ℕ → List ℕ → Outcome
  read_into text out =
      cond (ltb limit (length text)) (refusing too_long out) (on_ending (reading text).ending (reading text).cells out)
