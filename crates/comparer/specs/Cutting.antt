-- What the functions that cut texts into blocks find: no promise to a caller rests on these.
use Rattle.std.specs.Prelude.{ℕ, ◌-◌, ◌≡◌, List, get_or}
use Rattle.reading.specs.Reading.{accepted}
use Rattle.codec.specs.declared.Format.{Format}
use Rattle.codec.specs.declared.Format.TheVariants.{Utf7, Jp2, Mailbox}
use Rattle.stepper.specs.Stepper.{reading_of}

-- a place behind a line end, or the first one
abbrev pub Ended : List ℕ → ℕ → ℕ → Type 0
Ended text from at = (at ≡ from → ⊥) → get_or text (at - 1) 0 ≡ 10

-- both texts are accepted, and as the same cells
pub record ReadAlike (f : Format) (first second : List ℕ) : Type 0 where
  pub one : (reading_of f first).ending ≡ accepted
  pub two : (reading_of f second).ending ≡ accepted
  pub cells : (reading_of f first).cells ≡ (reading_of f second).cells

-- a format that can be cut behind a line end
abbrev pub Cut : Format → Type 0
Cut Utf7 = Unit
Cut Jp2 = Unit
Cut Mailbox = ⊥
