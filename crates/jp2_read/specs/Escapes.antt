-- A designation that stands in a text, by one search of the table.
use Rattle.std.specs.Prelude.{ℕ, zero, suc, ◌+◌, ◌*◌, ◌/◌, ◌%◌, Bool, cond, ◌&&◌, List, [], ◌∷◌, length, get_or, eqb, leb}
use Rattle.jp2.specs.Table.{row_at, sent, begins}
use Rattle.jp2.specs.declared.Designation.{Designation}

-- a row as one number: its set's number, where it goes, and its length
abbrev pub code_of : Designation → ℕ
code_of d = (d.number * 8 + d.to) * 8 + d.length

-- the row among the first n that is sent where bytes start; 0 where there is none
unfoldable pub code_among : ℕ → List ℕ → ℕ
code_among zero bytes = 0
code_among (suc n) bytes = cond (begins (sent (row_at n)) bytes) (code_of (row_at n)) (code_among n bytes)

-- the four bytes from a place on
abbrev pub four_at : List ℕ → ℕ → List ℕ
four_at text at = get_or text at 0 ∷ get_or text (at + 1) 0 ∷ get_or text (at + 2) 0 ∷ get_or text (at + 3) 0 ∷ []

-- the designation at a place with four bytes from there on; else 0
abbrev pub code_at : List ℕ → ℕ → ℕ
code_at text at = cond (leb (at + 4) (length text)) (code_among 9 (four_at text at)) 0

-- G0 and G2 after a designation
abbrev pub to_g2 : ℕ → Bool
to_g2 r = eqb (r / 8 % 8) 2

abbrev pub g0_after : ℕ → ℕ → ℕ
g0_after g0 r = cond (to_g2 r) g0 (r / 64 % 65536)

abbrev pub g2_after : ℕ → ℕ → ℕ
g2_after g2 r = cond (to_g2 r) (r / 64 % 65536) g2

-- a row's escape goes on with two bytes, in one number, and then with c, or has just three
abbrev pub sends : Designation → ℕ → ℕ → Bool → Bool
sends d two c long =
    eqb (get_or d.escape 1 0 * 256 + get_or d.escape 2 0) two && cond long (eqb (get_or d.escape 3 0) c) (eqb d.length 3)
