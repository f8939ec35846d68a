-- What the writer's private functions find out of the cells and bytes of a block.
use Rattle.std.specs.Prelude.{ℕ, ◌+◌, ◌*◌, ◌/◌, ◌%◌, ◌^◌, ◌<◌, ◌≡◌, true, cond, List, [], ◌∷◌, get_or, take, drop, ltb}
use Rattle.utf7.specs.Sets.{own}
use Rattle.utf7.specs.declared.Style.{Style}

-- 128 or more, and so neither written as itself nor a sign
abbrev pub High : ℕ → Type 0
High u = 127 < u

-- written as itself, and 1 for what is
abbrev pub Own : Style → ℕ → Type 0
Own style u = own style u ≡ true

abbrev pub own_bit : Style → ℕ → ℕ
own_bit style u = cond (own style u) 1 0

-- a bit for each of 64 codes: whether the style writes it as itself
abbrev pub OwnFrom : Style → ℕ → ℕ → Type 0
OwnFrom style from set = (k : ℕ) → k < 64 → set / 2 ^ k % 2 ≡ own_bit style (from + k)

-- a cell below 128 as a byte, and 0 for any other
abbrev pub narrow : ℕ → ℕ
narrow u = cond (ltb u 128) u 0

-- the first n bytes of a block are the cells from a place on, made narrow
abbrev pub Narrowed : List ℕ → ℕ → List ℕ → ℕ → Type 0
Narrowed us i bs n = (m : ℕ) → m < n → get_or bs m 0 ≡ narrow (get_or us (i + m) 0)

-- of each of the first n bytes: 0 if the style writes it as itself, else 1
abbrev pub mark_of : Style → ℕ → ℕ
mark_of style u = cond (own style u) 0 1

abbrev pub Turned : Style → List ℕ → List ℕ → ℕ → Type 0
Turned style bs ms n = (m : ℕ) → m < n → get_or ms m 0 ≡ mark_of style (get_or bs m 0)

-- marks of the n cells from a place on
abbrev pub Marked : Style → List ℕ → ℕ → List ℕ → ℕ → Type 0
Marked style us i ms n = (m : ℕ) → m < n → get_or ms m 0 ≡ mark_of style (get_or us (i + m) 0)

-- marks as one number, the first lowest
abbrev pub Bit : ℕ → Type 0
Bit b = b < 2

abbrev pub Zero : ℕ → Type 0
Zero b = b ≡ 0

unfoldable pub word_of : List ℕ → ℕ
word_of [] = 0
word_of (b ∷ bs) = b + 256 * word_of bs

abbrev pub word_at : List ℕ → ℕ → ℕ → ℕ
word_at ms j n = word_of (take n (drop j ms))

-- the low bytes of the n cells from a place on
abbrev pub Low : List ℕ → ℕ → List ℕ → ℕ → Type 0
Low us i bs n = (m : ℕ) → m < n → get_or bs m 0 ≡ get_or us (i + m) 0 % 256
