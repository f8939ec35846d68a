-- Hex digits by their bytes' places, as code takes them.
use Rattle.std.specs.Prelude.{ℕ, zero, suc, ◌+◌, ◌*◌, ◌/◌, ◌%◌, ◌<◌, List, [], ◌∷◌, get_or}
use Rattle.parsing.specs.Digits.{value_of}

-- the value of a hex digit without a branch, and some number below 16 of any other byte
abbrev pub nibble : ℕ → ℕ
nibble b = (b % 16 + b / 64 * 9) % 16

-- the number that the k bytes from a place on are by their nibbles
unfoldable pub hex_at : List ℕ → ℕ → ℕ → ℕ
hex_at s at zero = 0
hex_at s at (suc k) = hex_at s at k * 16 + nibble (get_or s (at + k) 0)

-- n such numbers, one after another
unfoldable pub hexes_at : List ℕ → ℕ → ℕ → ℕ → List ℕ
hexes_at s at k zero = []
hexes_at s at k (suc n) = hex_at s at k ∷ hexes_at s (at + k) k n

-- a byte that is a hex digit
abbrev pub IsDigit : ℕ → Type 0
IsDigit b = value_of b < 16
