-- Document 01, "JP-2": writing.
use Rattle.std.specs.Prelude.{ℕ, ◌/◌, ◌%◌, Bool, false, cond, ◌&&◌, List, [], ◌∷◌, ◌++◌, eqb}
use Rattle.answer.specs.Output.{Outcome, written}
use Rattle.jp2.specs.Table.{row_at, sent, row_of_number}
use Rattle.jp2.specs.Writable.{set_of, code_of, pair_set, shift_set, first_foreign}

-- the sets in force, and whether the last cell was CR
pub record Force : Type 0 where
  pub g0 : ℕ
  pub g2 : ℕ
  pub cr : Bool

abbrev pub force : ℕ → ℕ → Bool → Force
force g0 g2 cr = record { g0 = g0; g2 = g2; cr = cr }

-- "The writer designates only when the set in force differs"
unfoldable pub designating : ℕ → ℕ → List ℕ
designating now number = cond (eqb now number) [] (sent (row_at (row_of_number number)))

-- a cell's bytes, its designation "directly before the cell": ESC N and the code from G2, a pair, or a single byte
unfoldable pub spell : Force → ℕ → ℕ → List ℕ
spell f n c =
    cond (shift_set n) (designating f.g2 n ++ 27 ∷ 78 ∷ c ∷ [])
    (designating f.g0 n ++ cond (pair_set n) (c / 256 ∷ c % 256 ∷ []) (c ∷ []))

-- the sets in force after it: CR and then LF, both of set 6, clear G2
unfoldable pub force_after : Force → ℕ → ℕ → Force
force_after f n c =
    cond (shift_set n) (force f.g0 n false)
    (force n (cond (f.cr && (eqb n 6 && eqb c 10)) 0 f.g2) (eqb n 6 && eqb c 13))

-- "and returns to ASCII at the end if needed"
unfoldable pub write_from : List ℕ → Force → List ℕ
write_from [] f = designating f.g0 6
write_from (v ∷ vs) f = spell f (set_of v) (code_of v) ++ write_from vs (force_after f (set_of v) (code_of v))

unfoldable pub writing : List ℕ → List ℕ
writing cells = write_from cells (force 6 0 false)

-- writing into an output: 16, then 10 with the cell's index, then 9
unfoldable pub write_into : List ℕ → List ℕ → Outcome
write_into cells out = written cells (first_foreign cells) (writing cells) out
