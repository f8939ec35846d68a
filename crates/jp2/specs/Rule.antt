-- Document 01, "JP-2": reading.
use Rattle.std.specs.Prelude.{ℕ, ◌+◌, ◌*◌, Bool, true, false, cond, ◌&&◌, ◌||◌, List, [], ◌∷◌, ◌++◌, leb, ltb, eqb}
use Rattle.reading.specs.Reading.{Does, give, go, bad, Ending, accepted, fault, Rule}
use Rattle.jp2.specs.Table.{row_at, is_list, row_of_escape, row_begun_by}
use Rattle.jp2.specs.declared.Designation.{Designation}

-- between cells, directly after a CR, after the first byte of a pair, after ESC N, or inside an escape with its bytes so far
pub data Phase : Type 0 where
  plain : Phase
  return : Phase
  first : ℕ → Phase
  shifted : Phase
  escape : List ℕ → Phase

-- the numbers of the sets in G0 and G2 (0: nothing), and the phase
pub record State : Type 0 where
  pub g0 : ℕ
  pub g2 : ℕ
  pub phase : Phase

abbrev pub state : ℕ → ℕ → Phase → State
state g0 g2 phase = record { g0 = g0; g2 = g2; phase = phase }

-- bytes 33 to 126
unfoldable pub graphic : ℕ → Bool
graphic b = leb 33 b && leb b 126

-- "A JP-2 cell is registration number times 65536, plus the code as sent"
abbrev pub cell_of : ℕ → ℕ → ℕ
cell_of number code = number * 65536 + code

-- "With 6 or 14 in G0, bytes 0 to 127 but ESC, SI (15) and SO (14) are single cells. Bytes 33 to 126 carry the G0 number; 0 to 32
-- and 127 always carry 6." "CR directly followed by LF clears G2."
unfoldable pub single_does : ℕ → ℕ → Bool → ℕ → Does State
single_does g0 g2 after_return b =
    cond (eqb b 14 || eqb b 15) (bad 3)
    (give (cell_of (cond (graphic b) g0 6) b)
    (state g0 (cond (after_return && eqb b 10) 0 g2) (cond (eqb b 13) return plain)))

-- "With another set, a cell is two bytes of 33 to 126, never broken by an escape."
unfoldable pub first_does : ℕ → ℕ → ℕ → Does State
first_does g0 g2 b = cond (graphic b) (go (state g0 g2 (first b))) (bad 3)

unfoldable pub second_does : ℕ → ℕ → ℕ → ℕ → Does State
second_does g0 g2 a b = cond (graphic b) (give (cell_of g0 (a * 256 + b)) (state g0 g2 plain)) (bad 3)

unfoldable pub between_does : ℕ → ℕ → Bool → ℕ → Does State
between_does g0 g2 after_return b =
    cond (eqb b 27) (go (state g0 g2 (escape (27 ∷ []))))
    (cond (eqb g0 6 || eqb g0 14) (single_does g0 g2 after_return b) (first_does g0 g2 b))

-- "ESC N and a byte of 32 to 127 is one cell of the G2 set, whichever G0 is; G0 stays."
unfoldable pub shifted_does : ℕ → ℕ → ℕ → Does State
shifted_does g0 g2 b = cond (ltb b 32) (bad 3) (give (cell_of g2 b) (state g0 g2 plain))

-- a designation puts its set into G0 or G2
abbrev pub designated : ℕ → ℕ → Designation → State
designated g0 g2 d = cond (eqb d.to 2) (state g0 d.number plain) (state d.number g2 plain)

-- the bytes since ESC: ESC N ("6, ESC N with nothing in G2"), a row of the table, the beginning of a row, or 5 at "first byte that fits none"
unfoldable pub escape_does : ℕ → ℕ → List ℕ → Does State
escape_does g0 g2 bytes =
    cond (is_list bytes (27 ∷ 78 ∷ [])) (cond (eqb g2 0) (bad 6) (go (state g0 g2 shifted)))
    (cond (ltb (row_of_escape bytes) 9) (go (designated g0 g2 (row_at (row_of_escape bytes))))
    (cond (ltb (row_begun_by bytes) 9) (go (state g0 g2 (escape bytes))) (bad 5)))

abbrev pub in_phase : Phase → ℕ → ℕ → ℕ → Does State
in_phase plain g0 g2 b = between_does g0 g2 false b
in_phase return g0 g2 b = between_does g0 g2 true b
in_phase (first a) g0 g2 b = second_does g0 g2 a b
in_phase shifted g0 g2 b = shifted_does g0 g2 b
in_phase (escape bytes) g0 g2 b = escape_does g0 g2 (bytes ++ b ∷ [])

-- "at one byte 1, then 2 or 4, then 3, 5 or 6"
unfoldable pub byte_does : State → ℕ → Does State
byte_does st b = cond (ltb b 128) (in_phase st.phase st.g0 st.g2 b) (bad 1)

-- "A text ends with ASCII in G0": 8; "7, text ends in an escape, in a pair or after ESC N"; "7 precedes 8"
abbrev pub end_phase : Phase → ℕ → ℕ → Ending
end_phase plain g0 size = cond (eqb g0 6) accepted (fault 8 size)
end_phase return g0 size = cond (eqb g0 6) accepted (fault 8 size)
end_phase (first a) g0 size = fault 7 size
end_phase shifted g0 size = fault 7 size
end_phase (escape bytes) g0 size = fault 7 size

unfoldable pub ends_in : ℕ → State → Ending
ends_in size st = end_phase st.phase st.g0 size

-- "A text starts with ASCII in G0 and nothing in G2."
abbrev pub jp2 : Rule State
jp2 = record { start = state 6 0 plain; byte = byte_does; end = ends_in }
