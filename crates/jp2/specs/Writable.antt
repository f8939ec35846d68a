-- Document 01, "JP-2": "Writable cells".
use Rattle.std.specs.Prelude.{ℕ, ◌/◌, ◌%◌, Bool, false, cond, ◌&&◌, ◌||◌, not, List, leb, eqb}
use Rattle.jp2.specs.Table.{first_where}
use Rattle.jp2.specs.Rule.{graphic}

-- a cell's set and its code
abbrev pub set_of : ℕ → ℕ
set_of v = v / 65536

abbrev pub code_of : ℕ → ℕ
code_of v = v % 65536

-- the sets of pairs, and those of G2
unfoldable pub pair_set : ℕ → Bool
pair_set n = eqb n 42 || (eqb n 58 || (eqb n 87 || (eqb n 149 || eqb n 159)))

unfoldable pub shift_set : ℕ → Bool
shift_set n = eqb n 100 || eqb n 126

-- 0 to 127 but SO, SI and ESC
unfoldable pub ascii : ℕ → Bool
ascii c = leb c 127 && not (eqb c 14 || (eqb c 15 || eqb c 27))

-- "6 with 0 to 127 but 14, 15, 27; 14 with 33 to 126; the five pair sets with two bytes of 33 to 126; 100 and 126 with 32 to 127"
unfoldable pub codes : ℕ → ℕ → Bool
codes n c =
    cond (eqb n 6) (ascii c)
    (cond (eqb n 14) (graphic c)
    (cond (pair_set n) (graphic (c / 256) && graphic (c % 256)) (cond (shift_set n) (leb 32 c && leb c 127) false)))

unfoldable pub writable : ℕ → Bool
writable v = codes (set_of v) (code_of v)

-- the index of the first cell that is not writable, or the length
unfoldable pub first_foreign : List ℕ → ℕ
first_foreign cells = first_where (λ v. not (writable v)) cells
