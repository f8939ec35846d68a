-- Numbers as bits, "high bit first", and bits cut into groups.
use Rattle.std.specs.Prelude.{ℕ, zero, suc, ◌+◌, ◌-◌, ◌*◌, ◌/◌, ◌%◌, ◌^◌, Bool, true, false, cond, List, [], ◌∷◌, ◌++◌, length, take, drop, replicate, eqb}

-- the w lowest bits of a number, the highest of them first
unfoldable pub bits : ℕ → ℕ → List Bool
bits zero x = []
bits (suc w) x = eqb (x / 2 ^ w % 2) 1 ∷ bits w x

-- the number whose bits they are
unfoldable pub number : List Bool → ℕ
number [] = 0
number (b ∷ bs) = cond b (2 ^ length bs) 0 + number bs

unfoldable pub all_zero : List Bool → Bool
all_zero [] = true
all_zero (true ∷ bs) = false
all_zero (false ∷ bs) = all_zero bs

-- the bits of several numbers, w for each
unfoldable pub bits_of : ℕ → List ℕ → List Bool
bits_of w [] = []
bits_of w (x ∷ xs) = bits w x ++ bits_of w xs

-- the first k groups of w bits, as numbers
unfoldable pub groups : ℕ → ℕ → List Bool → List ℕ
groups w zero bs = []
groups w (suc k) bs = number (take w bs) ∷ groups w k (drop w bs)

-- "each full 16 bits are a unit": each full w bits as a number; and the bits left over
unfoldable pub full : ℕ → List Bool → List ℕ
full w bs = groups w (length bs / w) bs

unfoldable pub left_over : ℕ → List Bool → List Bool
left_over w bs = drop (length bs / w * w) bs

-- "fewest zero bits as filler": those that make the last group of w full
unfoldable pub filler : ℕ → List Bool → List Bool
filler w bs = replicate ((w - length bs % w) % w) false
