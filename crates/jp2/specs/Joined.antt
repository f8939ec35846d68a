-- Document 02, order 9, of JP-2: texts joined.
use Rattle.std.specs.Prelude.{ℕ, ◌≡◌, List, [], ◌∷◌, ◌++◌}
use Rattle.answer.specs.Bytes.{bytes}
use Rattle.reading.specs.Reading.{accepted, fault, reading}
use Rattle.reading.specs.Joined.{Accepted, ReadsAsBoth, CallsAsBoth}
use Rattle.jp2.specs.Rule.{jp2}

-- It holds one way only. By itself a text starts with "nothing in G2", behind another with the set that this left
-- there: ESC N A is refused, and behind ESC . A it is a cell.
pub record OneWay : Type 0 where
  pub first : reading jp2 (bytes "␛.A") ≡ record { cells = []; ending = accepted }
  pub second : reading jp2 (bytes "␛NA") ≡ record { cells = []; ending = fault 6 1 }
  pub both : reading jp2 (bytes "␛.A" ++ bytes "␛NA") ≡ record { cells = 0x00640041 ∷ []; ending = accepted }

pub record LettersJoined : Type 0 where
  -- "two accepted JP-2 texts joined are accepted and read as the first's cells and then the second's"
  pub reads : (first second : List ℕ) → Accepted jp2 first → Accepted jp2 second → ReadsAsBoth jp2 first second
  pub calls : (first second : List ℕ) → CallsAsBoth jp2 first second
  pub one_way : OneWay
