-- Small cases of JP-2: a table of texts and cells, one of tallies, and what they state.
use Rattle.std.specs.Prelude.{ℕ, ◌≡◌, List, [], ◌∷◌, ◌++◌, replicate}
use Prim.Native.String.{String}
use Rattle.answer.specs.Answer.{numbered}
use Rattle.answer.specs.Lists.{Each}
use Rattle.reading.specs.Cases as case
use Rattle.reading.specs.Cases.{Case, reads, fails, stands, cell, Holds}
use Rattle.jp2.specs.Rule.{cell_of, jp2}
use Rattle.jp2.specs.Spans.{span_in}
use Rattle.jp2.specs.Writing.{write_into}
use Rattle.jp2.specs.Tally.{Counts, tally_of}

-- there is one way of writing
abbrev writes : List ℕ → String → Case Unit
writes cells text = case.writes tt cells text

abbrev unwritable : List ℕ → ℕ → Case Unit
unwritable cells index = case.unwritable tt cells index

-- one cell of each set, in the order of document 01's table, and its text
abbrev pub every_set : List ℕ
every_set =
    0x00060041 ∷ 0x000E0041 ∷ 0x002A2121 ∷ 0x00572121 ∷ 0x003A2121 ∷ 0x00952121 ∷ 0x009F2121 ∷ 0x00640041
    ∷ 0x007E0041 ∷ []

abbrev pub every_escape : String
every_escape = "A␛(JA␛$@!!␛$B!!␛$A!!␛$(C!!␛$(D!!␛.A␛NA␛.F␛NA␛(B"

abbrev pub cases : List (Case Unit)
cases =
    -- P1, P9 and back, P10, P11, P12
    reads "" []
    ∷ reads "␛$B$\"␛(B" (0x00572422 ∷ [])
    ∷ writes (0x00572422 ∷ []) "␛$B$\"␛(B"
    ∷ fails "␛$B$\"" 8 5
    ∷ fails "␛$B$" 7 4
    ∷ reads "␛.A␛NA" (0x00640041 ∷ [])
    ∷ fails "␛.A␍␊␛NA" 6 6
    ∷ reads "␛.A␊␛NA" (0x0006000A ∷ 0x00640041 ∷ [])
    -- every designation, read and written
    ∷ reads every_escape every_set
    ∷ writes every_set every_escape
    -- 1 comes first, wherever the byte stands
    ∷ fails "\u{80}" 1 0
    ∷ fails "␛\u{80}" 1 1
    ∷ fails "␛$B!\u{80}" 1 4
    ∷ fails "␛.A␛N\u{80}" 1 5
    -- 3: SO and SI, a byte that is none of a pair, an escape inside a pair, a byte below 32 after ESC N
    ∷ fails "␎" 3 0
    ∷ fails "␏" 3 0
    ∷ fails "␛$B " 3 3
    ∷ fails "␛$B!\u{7f}" 3 4
    ∷ fails "␛$B!␛" 3 4
    ∷ fails "␛.A␛N␟" 3 5
    -- 5 at the first byte that fits no escape; "ESC $ ( B" is none
    ∷ fails "␛A" 5 1
    ∷ fails "␛(C" 5 2
    ∷ fails "␛$(B" 5 3
    -- 7 precedes 8: in an escape, in a pair, after ESC N, each with a set of pairs in G0
    ∷ fails "␛$B␛(" 7 5
    ∷ fails "␛$B!" 7 4
    ∷ fails "␛.A␛$B␛N" 7 8
    ∷ fails "␛(J" 8 3
    -- with 14 in G0 bytes 33 to 126 carry 14, the others 6
    ∷ reads "␛(J !~\u{7f}␛(B" (0x00060020 ∷ 0x000E0021 ∷ 0x000E007E ∷ 0x0006007F ∷ [])
    -- ESC N and 32 or 127; G0 stays
    ∷ reads "␛.F␛$B␛N ␛N\u{7f}!!␛(B" (0x007E0020 ∷ 0x007E007F ∷ 0x00572121 ∷ [])
    -- G2 stays over CR and LF that do not follow each other directly: a designation, or a cell of G2, lies between
    ∷ reads "␛.A␍␛(B␊␛NA" (0x0006000D ∷ 0x0006000A ∷ 0x00640041 ∷ [])
    ∷ reads "␛.A␍␛NA␊␛NA" (0x0006000D ∷ 0x00640041 ∷ 0x0006000A ∷ 0x00640041 ∷ [])
    -- a cell's bytes: its own, its pair, ESC N and its byte; no designation
    ∷ stands "A␛$B!!␛.A␛NA␛(B" (cell 0x00060041 0 1 ∷ cell 0x00572121 4 6 ∷ cell 0x00640041 9 12 ∷ [])
    -- written: a designation only where the set in force differs, in G0 and in G2
    ∷ writes [] ""
    ∷ writes (0x00060041 ∷ 0x00060042 ∷ []) "AB"
    ∷ writes (0x00572121 ∷ 0x00640041 ∷ 0x00640042 ∷ 0x00572122 ∷ []) "␛$B!!␛.A␛NA␛NB!\"␛(B"
    ∷ writes (0x000E0041 ∷ 0x0006000A ∷ []) "␛(JA␛(B␊"
    -- anew after CR LF, and not after LF CR
    ∷ writes (0x00640041 ∷ 0x0006000D ∷ 0x0006000A ∷ 0x00640041 ∷ []) "␛.A␛NA␍␊␛.A␛NA"
    ∷ writes (0x00640041 ∷ 0x0006000A ∷ 0x0006000D ∷ 0x00640041 ∷ []) "␛.A␛NA␊␍␛NA"
    -- 10 with the index of the first cell that is not writable
    ∷ unwritable (0x00060041 ∷ 0x0006001B ∷ 0x00070041 ∷ []) 1
    ∷ []

-- cells and their tally
pub record Tallied : Type 0 where
  pub cells : List ℕ
  pub told : Counts

abbrev tallies : List ℕ → ℕ → ℕ → List ℕ → Tallied
tallies cells number place counts =
    record { cells = cells; told = record { verdict = numbered number place; counts = counts } }

-- cells of each set, of the first 1, of the next in rising number 2, and so on
abbrev pub ranked : List ℕ
ranked =
    replicate 1 (cell_of 6 0x41) ++ replicate 2 (cell_of 14 0x41) ++ replicate 3 (cell_of 42 0x2121)
    ++ replicate 4 (cell_of 58 0x2121) ++ replicate 5 (cell_of 87 0x2121) ++ replicate 6 (cell_of 100 0x41)
    ++ replicate 7 (cell_of 126 0x41) ++ replicate 8 (cell_of 149 0x2121) ++ replicate 9 (cell_of 159 0x2121)

abbrev pub tallied : List Tallied
tallied =
    -- "nine counts, one for each set in rising number"; "A refused tally has nine zeros."
    tallies ranked 0 45 (1 ∷ 2 ∷ 3 ∷ 4 ∷ 5 ∷ 6 ∷ 7 ∷ 8 ∷ 9 ∷ [])
    ∷ tallies (0x00060041 ∷ 0x0006001B ∷ []) 10 1 (0 ∷ 0 ∷ 0 ∷ 0 ∷ 0 ∷ 0 ∷ 0 ∷ 0 ∷ 0 ∷ [])
    ∷ []

abbrev pub AllHold : Type 0
AllHold =
    Each (Holds jp2 span_in (λ _. write_into)) cases × Each (λ (t : Tallied). tally_of t.cells ≡ t.told) tallied
