-- The values of a run's letters, which are put before they are turned into letters.
use Rattle.std.specs.Prelude.{ℕ, ◌/◌, ◌%◌, Bool, List, [], ◌∷◌, ◌++◌}
use Rattle.bits.specs.Bits.{full, filler}

-- bits "with fewest zero bits as filler", six for each
unfoldable pub values : List Bool → List ℕ
values bs = full 6 (bs ++ filler 6 bs)

-- those of 24 bits
abbrev pub four_of : ℕ → List ℕ
four_of v = v / 262144 ∷ v % 262144 / 4096 ∷ v % 262144 % 4096 / 64 ∷ v % 262144 % 4096 % 64 ∷ []
