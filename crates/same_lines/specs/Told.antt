-- What same_letter prints of a comparison, in lines as the listers': `status=` and `count=` where the texts are the
-- same, `index=`, `first=` and `second=` where they part, `text=` and `place=` where one is refused.
use Rattle.std.specs.Prelude.{ℕ, List, [], ◌∷◌, ◌++◌, length, replicate}
use Rattle.answer.specs.Bytes.{bytes}
use Rattle.answer.specs.Output.{filled}
use Rattle.listing.specs.Listing.{decimal, line, status_name, count_name, place_name}
use Rattle.comparer.specs.Compare.{Comparison, same, part, refused}
use Rattle.comparer.specs.declared.Text.{Text}
use Rattle.comparer.specs.declared.Text.TheVariants.{First, Second}
use Rattle.same_lines.specs.declared.Lines.{Lines}

-- a line that says a number, by its name
abbrev pub says : List ℕ → ℕ → List ℕ
says name n = line name (decimal n)

-- "saying which text"
abbrev pub text_number : Text → ℕ
text_number First = 1
text_number Second = 2

unfoldable pub printed : Comparison → List ℕ
printed (same count) = says status_name 0 ++ says count_name count
printed (part index first second) =
    says status_name 0 ++ says (bytes "index") index ++ says (bytes "first") first ++ says (bytes "second") second
printed (refused which v) =
    says status_name v.number ++ says (bytes "text") (text_number which) ++ says place_name v.place

-- lines in a buffer of 128 bytes, and zeros behind
unfoldable pub laid : List ℕ → Lines
laid l = record { bytes = filled l (replicate 128 0); size = length l }
