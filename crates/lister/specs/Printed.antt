-- "The UTF-7 lister and the JP-2 lister read standard input, at most 16,384 bytes (longer: status 16, place 16384)."
-- So does the lister of mailbox names.
use Rattle.std.specs.Prelude.{ℕ, cond, List, [], length, ltb}
use Rattle.answer.specs.Answer.{numbered}
use Rattle.answer.specs.Output.{Outcome, deliver}
use Rattle.reading.specs.Reading.{verdict_of}
use Rattle.codec.specs.declared.Format.{Format}
use Rattle.codec.specs.Kinds.{reading_of}
use Rattle.listing.specs.Listing.{listing}

-- "at most 16,384 bytes"
unfoldable pub most : ℕ
most = 16384

-- the bytes that a lister prints of those that came: it need not see more than one beyond the most
unfoldable pub printed : Format → List ℕ → List ℕ
printed f text =
    cond (ltb most (length text))
    (listing (numbered 16 most) [])
    (listing (verdict_of (reading_of f text)) (reading_of f text).cells)

-- they go into an output: 9 where they do not fit
unfoldable pub print_into : Format → List ℕ → List ℕ → Outcome
print_into f text out = deliver (printed f text) out
