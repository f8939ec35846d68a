-- Document 02, order 9, of UTF-7: texts joined.
use Rattle.std.specs.Prelude.{ℕ, ◌≡◌, List, [], ◌∷◌, ◌++◌}
use Rattle.answer.specs.Bytes.{bytes}
use Rattle.reading.specs.Reading.{accepted, reading}
use Rattle.reading.specs.Joined.{Accepted, end_state, ReadsAsBoth, CallsAsBoth}
use Rattle.utf7.specs.Rule.{outside, utf7}

-- "the first ends outside a run": the last run of an accepted text, if it has one, was ended by a byte
abbrev pub EndsOutside : List ℕ → Type 0
EndsOutside text = end_state utf7 text ≡ outside

-- "the counterexample "+AKM" and "-" without that": both are accepted, and joined the "-" ends the run and is no cell
pub record Counterexample : Type 0 where
  pub first : reading utf7 (bytes "+AKM") ≡ record { cells = 0xA3 ∷ []; ending = accepted }
  pub second : reading utf7 (bytes "-") ≡ record { cells = 0x2D ∷ []; ending = accepted }
  pub both : reading utf7 (bytes "+AKM" ++ bytes "-") ≡ record { cells = 0xA3 ∷ []; ending = accepted }
  pub inside : EndsOutside (bytes "+AKM") → ⊥
  pub fails : ReadsAsBoth utf7 (bytes "+AKM") (bytes "-") → ⊥

pub record LettersJoined : Type 0 where
  -- "For UTF-7 it holds when the first ends outside a run"
  pub reads :
      (first second : List ℕ) → Accepted utf7 first → EndsOutside first → Accepted utf7 second →
      ReadsAsBoth utf7 first second
  pub calls : (first second : List ℕ) → EndsOutside first → CallsAsBoth utf7 first second
  -- and only then: behind a text that ends in a run `-` is no cell
  pub only : (first : List ℕ) → Accepted utf7 first → ReadsAsBoth utf7 first (bytes "-") → EndsOutside first
  pub without-that : Counterexample
