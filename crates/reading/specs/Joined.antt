-- Document 02, order 9: two texts joined, by any rule.
use Rattle.std.specs.Prelude.{ℕ, ◌≤◌, ◌≡◌, List, ◌++◌, length, take}
use Rattle.answer.specs.Answer.{limit}
use Rattle.answer.specs.Output.{Outcome, deliver}
use Rattle.reading.specs.Reading.{accepted, Rule, read_from, reading, read_into}
use Rattle.reading.specs.Located.{state_after}

-- the cells that an accepted call left in front of its output
abbrev pub cells_in : Outcome → List ℕ
cells_in o = take o.verdict.place o.out

module _ {S : Type 0} (rule : Rule S) where
  -- a text that is accepted by itself, and the state that it ends in
  abbrev pub Accepted : List ℕ → Type 0
  Accepted text = (reading rule text).ending ≡ accepted

  abbrev pub end_state : List ℕ → S
  end_state text = state_after rule rule.start text

  -- a state serves for another: what is accepted from the other is accepted from it too, as the same cells, wherever it
  -- stands; what is not accepted from the other may be from it
  abbrev pub Serves : S → S → Type 0
  Serves now st =
      (text : List ℕ) (at at' : ℕ) → (read_from rule text at st).ending ≡ accepted →
      read_from rule text at' now ≡ read_from rule text at st

  module _ (first second : List ℕ) where
    -- "joined are accepted and read as the first's cells and then the second's"
    abbrev pub ReadsAsBoth : Type 0
    ReadsAsBoth =
        reading rule (first ++ second)
        ≡ record { cells = (reading rule first).cells ++ (reading rule second).cells; ending = accepted }

    -- the same of calls, "the joined length within the limit": where both texts were accepted, whatever their outputs,
    -- the call on the joined text leaves in every output the cells of both, or refuses with 9 where they lack room
    abbrev pub CallsAsBoth : Type 0
    CallsAsBoth =
        (out₁ out₂ out : List ℕ) → (read_into rule first out₁).verdict.number ≡ 0 →
        (read_into rule second out₂).verdict.number ≡ 0 → length (first ++ second) ≤ limit →
        read_into rule (first ++ second) out
        ≡ deliver (cells_in (read_into rule first out₁) ++ cells_in (read_into rule second out₂)) out
