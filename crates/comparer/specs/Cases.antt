-- Small cases of comparing, one table and what it states.
use Prim.Native.String.{String}
use Rattle.std.specs.Prelude.{◌≡◌, List, [], ◌∷◌}
use Rattle.answer.specs.Answer.{numbered}
use Rattle.answer.specs.Bytes.{bytes}
use Rattle.answer.specs.Lists.{Each}
use Rattle.codec.specs.declared.Format.{Format}
use Rattle.codec.specs.declared.Format.TheVariants.{Utf7, Jp2, Mailbox}
use Rattle.comparer.specs.Compare.{Comparison, same, part, refused, compare_of}
use Rattle.comparer.specs.declared.Text.TheVariants.{First, Second}

pub record Case : Type 0 where
  pub format : Format
  pub first : String
  pub second : String
  pub told : Comparison

abbrev compared : Format → String → String → Comparison → Case
compared f first second told = record { format = f; first = first; second = second; told = told }

abbrev pub cases : List Case
cases =
    compared Utf7 "" "" (same 0)
    -- equal by another spelling: other runs, a `-` left out, header and body
    ∷ compared Utf7 "A+ImIDkQ." "A+ImI-+A5E-." (same 4)
    ∷ compared Utf7 "a+AKM" "a+AKM-" (same 2)
    ∷ compared Utf7 "Hi+ACE-" "Hi!" (same 3)
    -- a designation of the set in force
    ∷ compared Jp2 "a" "␛(Ba" (same 1)
    ∷ compared Mailbox "&AKM-a" "&AKM-a" (same 2)
    -- where they part: in a run a cell begins at the letter with its first bit, and never at a designation
    ∷ compared Utf7 "A+ImIDkQ." "A+ImI-+A5A-." (part 2 4 7)
    ∷ compared Jp2 "␛(Ba" "b" (part 0 3 0)
    ∷ compared Mailbox "a&-b" "a&-&AKM-" (part 2 3 4)
    -- "the text length if it has ended"
    ∷ compared Utf7 "a+AGI-" "abc" (part 2 6 2)
    ∷ compared Utf7 "abc" "a+AGI-" (part 2 2 6)
    ∷ compared Jp2 "" "␛(Ba" (part 0 0 3)
    -- a fault behind the parting
    ∷ compared Utf7 "ax~" "by" (refused First (numbered 3 2))
    ∷ compared Utf7 "ax" "by~" (refused Second (numbered 3 2))
    ∷ compared Jp2 "a" "b␛" (refused Second (numbered 7 2))
    ∷ compared Mailbox "ab" "b&A-" (refused Second (numbered 17 3))
    -- a fault behind what is the same in both
    ∷ compared Utf7 "a" "a~" (refused Second (numbered 3 1))
    -- the first's before the second's, though it stands behind
    ∷ compared Utf7 "abc~" "~" (refused First (numbered 3 3))
    ∷ []

abbrev pub Holds : Case → Type 0
Holds c = compare_of c.format (bytes c.first) (bytes c.second) ≡ c.told

abbrev pub AllHold : Type 0
AllHold = Each Holds cases
