-- Document 01, "JP-2": the table of the nine designations, and the searches that reader and writer share.
use Rattle.std.specs.Prelude.{ℕ, suc, Bool, true, false, cond, ◌&&◌, List, [], ◌∷◌, length, get_or, take, eqb}
use Rattle.jp2.specs.declared.Designation.{Designation}

abbrev pub designation : ℕ → List ℕ → ℕ → ℕ → Designation
designation number escape size to = record { number = number; escape = escape; length = size; to = to }

-- in the order of the document; an escape of three bytes has 0 as its fourth
unfoldable pub designations : List Designation
designations =
    designation 6 (27 ∷ 40 ∷ 66 ∷ 0 ∷ []) 3 0
    ∷ designation 14 (27 ∷ 40 ∷ 74 ∷ 0 ∷ []) 3 0
    ∷ designation 42 (27 ∷ 36 ∷ 64 ∷ 0 ∷ []) 3 0
    ∷ designation 87 (27 ∷ 36 ∷ 66 ∷ 0 ∷ []) 3 0
    ∷ designation 58 (27 ∷ 36 ∷ 65 ∷ 0 ∷ []) 3 0
    ∷ designation 149 (27 ∷ 36 ∷ 40 ∷ 67 ∷ []) 4 0
    ∷ designation 159 (27 ∷ 36 ∷ 40 ∷ 68 ∷ []) 4 0
    ∷ designation 100 (27 ∷ 46 ∷ 65 ∷ 0 ∷ []) 3 2
    ∷ designation 126 (27 ∷ 46 ∷ 70 ∷ 0 ∷ []) 3 2
    ∷ []

-- no set's row
abbrev pub no_row : Designation
no_row = designation 0 (0 ∷ 0 ∷ 0 ∷ 0 ∷ []) 0 0

abbrev pub row_at : ℕ → Designation
row_at i = get_or designations i no_row

-- the bytes that are sent
abbrev pub sent : Designation → List ℕ
sent d = take d.length d.escape

-- the first bytes of a list are those of another
unfoldable pub begins : List ℕ → List ℕ → Bool
begins [] l = true
begins (a ∷ rest) [] = false
begins (a ∷ rest) (b ∷ l) = cond (eqb a b) (begins rest l) false

abbrev pub is_list : List ℕ → List ℕ → Bool
is_list bytes l = begins bytes l && eqb (length bytes) (length l)

-- the index of the first element that passes a test, or the length
unfoldable pub first_where : {A : Type 0} → (A → Bool) → List A → ℕ
first_where test [] = 0
first_where test (x ∷ xs) = cond (test x) 0 (suc (first_where test xs))

-- the row of a set's number; of an escape; the first row that bytes begin. 9 where there is none
unfoldable pub row_of_number : ℕ → ℕ
row_of_number number = first_where (λ d. eqb d.number number) designations

unfoldable pub row_of_escape : List ℕ → ℕ
row_of_escape bytes = first_where (λ d. is_list bytes (sent d)) designations

unfoldable pub row_begun_by : List ℕ → ℕ
row_begun_by bytes = first_where (λ d. begins bytes (sent d)) designations
