-- What holds of each of several elements, one after another.
use Rattle.std.specs.Prelude.{ℕ, ◌+◌, ◌<◌, List, get_or}

-- of the n elements from a place on
abbrev pub Ahead : (ℕ → Type 0) → List ℕ → ℕ → ℕ → Type 0
Ahead P us i n = (m : ℕ) → m < n → P (get_or us (i + m) 0)
