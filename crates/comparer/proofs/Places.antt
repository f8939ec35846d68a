-- Where a comparison stands in a text, and the n-th step from the start of a text, by places alone. Assumes nothing.
use Prim.Native.Nat.{ℕ, zero, suc, ◌≤◌}
use mathlib.Core.Path.{◌≡◌, refl}
use mathlib.Core.List.{List}
use lib.ListN.{length}
use denote.Ref.{Bor}
use Rattle.reading.specs.Stepping.{after_steps}
use Rattle.codec.specs.declared.Format.{Format}
use Rattle.stepper.specs.Stepper.{start_of, step_of, given_at, place_after, reader_after, reading_of, marked_of, nth_gift}
use Rattle.stepper.specs.declared.Place.{Place}
use Rattle.stepper.specs.declared.Reader.{Reader}
use Rattle.stepper.proofs.Law.{nth-step}
use Rattle.comparer.specs.Compare.{marks_of}

-- the place after n steps from the start of a text
abbrev standing_at : Format → List ℕ → ℕ → Place
standing_at f text n = after_steps (step_of text) (start_of f) n

-- a place where a reader stands after n cells
pub record Steps (f : Format) (text : List ℕ) (n : ℕ) (place : Place) : Type 0 where
  pub stands : place ≡ standing_at f text n
  pub inside : n ≤ length (marks_of f text)

module _ (f : Format) (text : List ℕ) where
  -- some reader of the text; it stands where the steps lead
  abbrev held : Bor (List ℕ)
  held = record { ref_ptr = (0, 0); now = text }

  reader-stands : (n : ℕ) → reader_after held f n ≡ record { text = held; place = standing_at f text n }
  unfolding reader_after after_steps
  reader-stands zero = refl
  reader-stands (suc n) = rw (reader-stands n)

  pub nth-given : (n : ℕ) → given_at text (standing_at f text n) ≡ nth_gift text (reading_of f text) (marked_of f text) n
  nth-given n = rw (reader-stands n) at (nth-step held f n)
