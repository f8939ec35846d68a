-- Document 02, order 3: "a run with six or more bits left over holds a letter that nobody needed". That no run of a
-- text holds one.
use Rattle.std.specs.Prelude.{ℕ, cond, ◌≡◌, List, [], ◌∷◌, map}
use Rattle.bits.specs.Bits.{bits_of, full}
use Rattle.alphabet.specs.Letters.{value_of, set_b, slash}
use Rattle.reading.specs.Reading.{Does, give, go, bad}
use Rattle.utf7.specs.Rule.{Shift, outside, opening, run, byte_does}
use Rattle.utf7.specs.Writing.{letters}

-- the letters that bytes begin with: those of a run, if its sign stands directly before
unfoldable pub letters_first : List ℕ → List ℕ
letters_first [] = []
letters_first (b ∷ bs) = cond (set_b slash b) (b ∷ letters_first bs) []

-- letters that are just those with which the units in them are written
abbrev pub Needed : List ℕ → Type 0
Needed ls = letters slash (bits_of 16 (full 16 (bits_of 6 (map (value_of slash) ls)))) ≡ ls

abbrev pub Opened : Shift → List ℕ → Type 0
Opened outside bs = Unit
Opened opening bs = Needed (letters_first bs)
Opened (run pending) bs = Unit

abbrev pub OnRun : Does Shift → List ℕ → (Shift → Type 0) → Type 0
OnRun (give v shift) bs rest = rest shift
OnRun (go shift) bs rest = Opened shift bs × rest shift
OnRun (bad k) bs rest = ⊥

-- the bytes from a state on have no fault, and each run among them has the letters that its units need
unfoldable pub RunsNeeded : List ℕ → Shift → Type 0
RunsNeeded [] shift = Unit
RunsNeeded (b ∷ bs) shift = OnRun (byte_does shift b) bs (RunsNeeded bs)
