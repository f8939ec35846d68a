-- Marks: how many are 0 before another, and as the digits of a number.
use Rattle.std.specs.Prelude.{ℕ, zero, suc, ◌+◌, ◌*◌, cond, List, length, get_or, eqb, leb}

-- of the first m
unfoldable pub leading : ℕ → (ℕ → ℕ) → ℕ
leading zero f = 0
leading (suc m) f = cond (eqb (f 0) 0) (1 + leading m (λ k. f (1 + k))) 0

-- of sixteen from a place on; none where so many do not stand there
abbrev pub ahead_in : List ℕ → ℕ → ℕ
ahead_in x j = cond (leb (j + 16) (length x)) (leading 16 (λ k. get_or x (j + k) 0)) 0

-- the first m, as digits to the base 256, the lowest first
unfoldable pub joined : ℕ → (ℕ → ℕ) → ℕ
joined zero f = 0
joined (suc m) f = joined m (λ k. f (1 + k)) * 256 + f 0
