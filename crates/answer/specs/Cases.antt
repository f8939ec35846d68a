-- Cases of what a call that fills an output answers and leaves, one table and what it states.
use Rattle.std.specs.Prelude.{ℕ, ◌≡◌, Ok, List, [], ◌∷◌, length}
use Rattle.answer.specs.Answer.{Answer, numbered, refused_at}
use Rattle.answer.specs.Lists.{Each}
use Rattle.answer.specs.Output.{Outcome, leaves, deliver, written}
use Rattle.answer.specs.declared.Refusal.TheVariants.{NoRoom}

pub data Case : Type 0 where
  -- the answer and the output at exit; the number, the place, and the output
  tells : Answer → List ℕ → ℕ → ℕ → List ℕ → Case
  -- elements for an output, and the output; the number, the place, and the output then
  delivers : List ℕ → List ℕ → ℕ → ℕ → List ℕ → Case
  -- how many cells, which of them is the first that is not writable, their text, and the output; the same
  writes : ℕ → ℕ → List ℕ → List ℕ → ℕ → ℕ → List ℕ → Case

abbrev pub leaving : ℕ → ℕ → List ℕ → Outcome
leaving number place out = record { verdict = numbered number place; out = out }

abbrev pub Holds : Case → Type 0
Holds (tells answer out number place left) = leaves answer out ≡ leaving number place left
Holds (delivers elements out number place left) = deliver elements out ≡ leaving number place left
Holds (writes count first text out number place left) =
    (cells : List ℕ) → length cells ≡ count → written cells first text out ≡ leaving number place left

abbrev pub cases : List Case
cases =
    -- the output of a promise is all of it
    tells (Ok 1) (8 ∷ 9 ∷ []) 0 1 (8 ∷ 9 ∷ [])
    ∷ tells (refused_at NoRoom 3) (8 ∷ 9 ∷ []) 9 3 (8 ∷ 9 ∷ [])
    -- "9, too little room, elements needed": three into two places, and one into none
    ∷ delivers (1 ∷ 2 ∷ 3 ∷ []) (8 ∷ 9 ∷ []) 9 3 (8 ∷ 9 ∷ [])
    ∷ delivers (1 ∷ []) [] 9 1 []
    -- "fills the first count elements and no others": three into three, and into five
    ∷ delivers (1 ∷ 2 ∷ 3 ∷ []) (7 ∷ 8 ∷ 9 ∷ []) 0 3 (1 ∷ 2 ∷ 3 ∷ [])
    ∷ delivers (1 ∷ 2 ∷ 3 ∷ []) (5 ∷ 6 ∷ 7 ∷ 8 ∷ 9 ∷ []) 0 3 (1 ∷ 2 ∷ 3 ∷ 8 ∷ 9 ∷ [])
    ∷ delivers [] (8 ∷ 9 ∷ []) 0 0 (8 ∷ 9 ∷ [])
    -- "16 gives 1,048,576", before 10 and 9
    ∷ writes 1048577 0 (1 ∷ 2 ∷ []) (9 ∷ []) 16 1048576 (9 ∷ [])
    -- "first 10, then 9": the last of 1,048,576 cells is not writable, and there is too little room
    ∷ writes 1048576 1048575 (1 ∷ 2 ∷ []) (9 ∷ []) 10 1048575 (9 ∷ [])
    -- every cell is writable
    ∷ writes 2 2 (1 ∷ 2 ∷ 3 ∷ []) (8 ∷ 9 ∷ []) 9 3 (8 ∷ 9 ∷ [])
    ∷ writes 1048576 1048576 (1 ∷ 2 ∷ 3 ∷ []) (6 ∷ 7 ∷ 8 ∷ 9 ∷ []) 0 3 (1 ∷ 2 ∷ 3 ∷ 9 ∷ [])
    ∷ []

abbrev pub AllHold : Type 0
AllHold = Each Holds cases
