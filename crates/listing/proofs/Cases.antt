-- Document 01, end of "Small cases": what the lister prints, computed. Assumes nothing.
use mathlib.Core.Path.{◌≡◌, refl}
use mathlib.Core.List.{[], ◌∷◌}
use Rattle.answer.specs.Answer.{numbered}
use Rattle.listing.specs.Listing.{decimal_in, hex_in, spaced, answer_lines, listing}

pub record Cases : Type 0 where
  -- status=0 count=4 cells=00000041 00002262 00000391 0000002E
  pub accepted :
      listing (numbered 0 4) (0x41 ∷ 0x2262 ∷ 0x391 ∷ 0x2E ∷ [])
      ≡ 115 ∷ 116 ∷ 97 ∷ 116 ∷ 117 ∷ 115 ∷ 61 ∷ 48 ∷ 10 ∷
      99 ∷ 111 ∷ 117 ∷ 110 ∷ 116 ∷ 61 ∷ 52 ∷ 10 ∷
      99 ∷ 101 ∷ 108 ∷ 108 ∷ 115 ∷ 61 ∷ 48 ∷ 48 ∷ 48 ∷ 48 ∷ 48 ∷ 48 ∷ 52 ∷ 49 ∷ 32 ∷ 48 ∷ 48 ∷ 48 ∷ 48 ∷ 50 ∷ 50 ∷ 54 ∷
      50 ∷ 32 ∷ 48 ∷ 48 ∷ 48 ∷ 48 ∷ 48 ∷ 51 ∷ 57 ∷ 49 ∷ 32 ∷ 48 ∷ 48 ∷ 48 ∷ 48 ∷ 48 ∷ 48 ∷ 50 ∷ 69 ∷ 10 ∷ []
  -- status=2 place=1
  pub refused :
      listing (numbered 2 1) []
      ≡ 115 ∷ 116 ∷ 97 ∷ 116 ∷ 117 ∷ 115 ∷ 61 ∷ 50 ∷ 10 ∷
      112 ∷ 108 ∷ 97 ∷ 99 ∷ 101 ∷ 61 ∷ 49 ∷ 10 ∷ []
  -- status=16 place=16384
  pub long :
      listing (numbered 16 16384) []
      ≡ 115 ∷ 116 ∷ 97 ∷ 116 ∷ 117 ∷ 115 ∷ 61 ∷ 49 ∷ 54 ∷ 10 ∷
      112 ∷ 108 ∷ 97 ∷ 99 ∷ 101 ∷ 61 ∷ 49 ∷ 54 ∷ 51 ∷ 56 ∷ 52 ∷ 10 ∷ []
  -- status=0 count=0 cells=
  pub empty :
      listing (numbered 0 0) []
      ≡ 115 ∷ 116 ∷ 97 ∷ 116 ∷ 117 ∷ 115 ∷ 61 ∷ 48 ∷ 10 ∷
      99 ∷ 111 ∷ 117 ∷ 110 ∷ 116 ∷ 61 ∷ 48 ∷ 10 ∷
      99 ∷ 101 ∷ 108 ∷ 108 ∷ 115 ∷ 61 ∷ 10 ∷ []
  -- an answer alone: status=13 place=0, status=0 count=4
  pub told-place :
      answer_lines (numbered 13 0)
      ≡ 115 ∷ 116 ∷ 97 ∷ 116 ∷ 117 ∷ 115 ∷ 61 ∷ 49 ∷ 51 ∷ 10 ∷
      112 ∷ 108 ∷ 97 ∷ 99 ∷ 101 ∷ 61 ∷ 48 ∷ 10 ∷ []
  pub told-count :
      answer_lines (numbered 0 4)
      ≡ 115 ∷ 116 ∷ 97 ∷ 116 ∷ 117 ∷ 115 ∷ 61 ∷ 48 ∷ 10 ∷
      99 ∷ 111 ∷ 117 ∷ 110 ∷ 116 ∷ 61 ∷ 52 ∷ 10 ∷ []

pub cases : Cases
unfolding answer_lines listing decimal_in hex_in spaced
cases = record { accepted = refl; refused = refl; long = refl; empty = refl; told-place = refl; told-count = refl }
