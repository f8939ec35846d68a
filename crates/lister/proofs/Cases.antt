-- Document 01, end of "Small cases": what the UTF-7 lister prints of P2, and every lister of a text that is too long.
-- Assumes nothing.
use Prim.Native.Nat.{ℕ, ◌<◌}
use mathlib.Core.Path.{◌≡◌, refl, ap, ◌∙◌}
use mathlib.Core.List.{List, [], ◌∷◌}
use native.Mathlib.Omega.{arith}
use lib.ListN.{length}
use Rattle.reading.specs.Reading.{Reading, verdict_of}
use Rattle.codec.specs.declared.Format.{Format}
use Rattle.codec.specs.declared.Format.TheVariants.{Utf7}
use Rattle.codec.specs.Kinds.{format_of}
use Rattle.codec.proofs.Worked.{letter, letter-reads}
use Rattle.listing.specs.Listing.{listing}
use Rattle.listing.proofs.Cases as lines
use Rattle.lister.specs.Printed.{printed}
use Rattle.lister.proofs.Laws.{short-read, long-refused}

pub record Cases : Type 0 where
  -- "A+ImIDkQ.": status=0 count=4 cells=00000041 00002262 00000391 0000002E
  pub accepted :
      printed Utf7 letter
      ≡ 115 ∷ 116 ∷ 97 ∷ 116 ∷ 117 ∷ 115 ∷ 61 ∷ 48 ∷ 10 ∷
      99 ∷ 111 ∷ 117 ∷ 110 ∷ 116 ∷ 61 ∷ 52 ∷ 10 ∷
      99 ∷ 101 ∷ 108 ∷ 108 ∷ 115 ∷ 61 ∷ 48 ∷ 48 ∷ 48 ∷ 48 ∷ 48 ∷ 48 ∷ 52 ∷ 49 ∷ 32 ∷ 48 ∷ 48 ∷ 48 ∷ 48 ∷ 50 ∷ 50 ∷ 54 ∷
      50 ∷ 32 ∷ 48 ∷ 48 ∷ 48 ∷ 48 ∷ 48 ∷ 51 ∷ 57 ∷ 49 ∷ 32 ∷ 48 ∷ 48 ∷ 48 ∷ 48 ∷ 48 ∷ 48 ∷ 50 ∷ 69 ∷ 10 ∷ []
  -- status=16 place=16384
  pub long :
      (f : Format) (text : List ℕ) → 16384 < length text →
      printed f text
      ≡ 115 ∷ 116 ∷ 97 ∷ 116 ∷ 117 ∷ 115 ∷ 61 ∷ 49 ∷ 54 ∷ 10 ∷
      112 ∷ 108 ∷ 97 ∷ 99 ∷ 101 ∷ 61 ∷ 49 ∷ 54 ∷ 51 ∷ 56 ∷ 52 ∷ 10 ∷ []

pub cases : Cases
unfolding format_of
cases =
    record {
      accepted =
          short-read Utf7 letter (omega arith)
          ∙ (ap (λ (r : Reading). listing (verdict_of r) r.cells) letter-reads ∙ (lines.cases).accepted);
      long = λ f text h. long-refused f text h ∙ (lines.cases).long;
    }
