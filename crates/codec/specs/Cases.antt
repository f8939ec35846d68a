-- Document 01, "Small cases": those marked P, P8 as document 02, order 3 has it, with that order's own; one table and
-- what it states.
use Rattle.std.specs.Prelude.{ℕ, ◌≡◌, List, [], ◌∷◌, map, length}
use Rattle.answer.specs.Answer.{numbered}
use Rattle.answer.specs.Output.{Outcome, refusing}
use Rattle.codec.specs.declared.Format.{Format}
use Rattle.codec.specs.declared.Format.TheVariants as format
use Rattle.codec.specs.declared.Kind.{Kind}
use Rattle.codec.specs.declared.Kind.TheVariants.{Utf7Header, Utf7Body, Jp2}
use Rattle.codec.specs.Kinds.{read_in, write_in}

-- a text that reads as cells, one that is refused with a number and a place, cells that are written as a text
pub data Case : Type 0 where
  reads : Format → List ℕ → List ℕ → Case
  fails : Format → List ℕ → ℕ → ℕ → Case
  writes : Kind → List ℕ → List ℕ → Case

-- a call that is accepted and fills an output of just that length
abbrev pub Fills : (List ℕ → Outcome) → List ℕ → Type 0
Fills call result = call (map (λ _. 0) result) ≡ record { verdict = numbered 0 (length result); out = result }

abbrev pub Holds : Case → Type 0
Holds (reads f text cells) = Fills (read_in f text) cells
Holds (fails f text number place) = (out : List ℕ) → read_in f text out ≡ refusing (numbered number place) out
Holds (writes kind cells text) = Fills (write_in kind cells) text

abbrev pub All : List Case → Type 0
All [] = Unit
All (c ∷ cs) = Holds c × All cs

abbrev pub cases : List Case
cases =
    -- P1, the empty text, either reader
    reads format.Utf7 [] []
    ∷ reads format.Jp2 [] []
    -- P2, "A+ImIDkQ."
    ∷ reads format.Utf7 (65 ∷ 43 ∷ 73 ∷ 109 ∷ 73 ∷ 68 ∷ 107 ∷ 81 ∷ 46 ∷ []) (0x41 ∷ 0x2262 ∷ 0x391 ∷ 0x2E ∷ [])
    -- P3, "A+ImIDkQ-."
    ∷ writes Utf7Body (0x41 ∷ 0x2262 ∷ 0x391 ∷ 0x2E ∷ []) (65 ∷ 43 ∷ 73 ∷ 109 ∷ 73 ∷ 68 ∷ 107 ∷ 81 ∷ 45 ∷ 46 ∷ [])
    -- P4, "+ZeVnLIqe-", in either style
    ∷ writes Utf7Header (0x65E5 ∷ 0x672C ∷ 0x8A9E ∷ []) (43 ∷ 90 ∷ 101 ∷ 86 ∷ 110 ∷ 76 ∷ 73 ∷ 113 ∷ 101 ∷ 45 ∷ [])
    ∷ writes Utf7Body (0x65E5 ∷ 0x672C ∷ 0x8A9E ∷ []) (43 ∷ 90 ∷ 101 ∷ 86 ∷ 110 ∷ 76 ∷ 73 ∷ 113 ∷ 101 ∷ 45 ∷ [])
    -- P5, "+-"
    ∷ reads format.Utf7 (43 ∷ 45 ∷ []) (0x2B ∷ [])
    -- P6, "+" and "+!"
    ∷ fails format.Utf7 (43 ∷ []) 2 1
    ∷ fails format.Utf7 (43 ∷ 33 ∷ []) 2 1
    -- P7, "+AKN-" and "+AKM-1"
    ∷ fails format.Utf7 (43 ∷ 65 ∷ 75 ∷ 78 ∷ 45 ∷ []) 4 4
    ∷ reads format.Utf7 (43 ∷ 65 ∷ 75 ∷ 77 ∷ 45 ∷ 49 ∷ []) (0xA3 ∷ 0x31 ∷ [])
    -- P8, "+A-", which order 3 has "refused at 2", and "~"
    ∷ fails format.Utf7 (43 ∷ 65 ∷ 45 ∷ []) 4 2
    ∷ fails format.Utf7 (126 ∷ []) 3 0
    -- order 3, "+AAAA-", and "+A" at its length
    ∷ fails format.Utf7 (43 ∷ 65 ∷ 65 ∷ 65 ∷ 65 ∷ 45 ∷ []) 4 5
    ∷ fails format.Utf7 (43 ∷ 65 ∷ []) 4 2
    -- P9, 1B 24 42 24 22 1B 28 42, and back
    ∷ reads format.Jp2 (27 ∷ 36 ∷ 66 ∷ 36 ∷ 34 ∷ 27 ∷ 40 ∷ 66 ∷ []) (0x572422 ∷ [])
    ∷ writes Jp2 (0x572422 ∷ []) (27 ∷ 36 ∷ 66 ∷ 36 ∷ 34 ∷ 27 ∷ 40 ∷ 66 ∷ [])
    -- P10, its first five bytes and its first four
    ∷ fails format.Jp2 (27 ∷ 36 ∷ 66 ∷ 36 ∷ 34 ∷ []) 8 5
    ∷ fails format.Jp2 (27 ∷ 36 ∷ 66 ∷ 36 ∷ []) 7 4
    -- P11, 1B 2E 41 1B 4E 41
    ∷ reads format.Jp2 (27 ∷ 46 ∷ 65 ∷ 27 ∷ 78 ∷ 65 ∷ []) (0x640041 ∷ [])
    -- P12, 1B 2E 41 0D 0A 1B 4E 41, and without 0D
    ∷ fails format.Jp2 (27 ∷ 46 ∷ 65 ∷ 13 ∷ 10 ∷ 27 ∷ 78 ∷ 65 ∷ []) 6 6
    ∷ reads format.Jp2 (27 ∷ 46 ∷ 65 ∷ 10 ∷ 27 ∷ 78 ∷ 65 ∷ []) (0x6000A ∷ 0x640041 ∷ [])
    ∷ []
