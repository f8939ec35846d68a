-- "So lines and texts end outside a run": after each CR or LF of a text, and at its end, a reader is outside a run.
use Rattle.std.specs.Prelude.{ℕ, Bool, true, ◌||◌, ◌≡◌, List, [], ◌∷◌, eqb}
use Rattle.reading.specs.Reading.{Does, give, go, bad}
use Rattle.utf7.specs.Rule.{Shift, outside, byte_does}

abbrev pub line_end : ℕ → Bool
line_end b = eqb b 13 || eqb b 10

abbrev pub OnLine : Does Shift → ℕ → (Shift → Type 0) → Type 0
OnLine (give v shift) b rest = (line_end b ≡ true → shift ≡ outside) × rest shift
OnLine (go shift) b rest = (line_end b ≡ true → shift ≡ outside) × rest shift
OnLine (bad k) b rest = ⊥

-- the bytes from a state on have no fault, and so end their lines
unfoldable pub LinesClosed : List ℕ → Shift → Type 0
LinesClosed [] shift = shift ≡ outside
LinesClosed (b ∷ bs) shift = OnLine (byte_does shift b) b (LinesClosed bs)
