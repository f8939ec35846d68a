-- An output on its way, as the contracts of the functions that fill it say it: no promise to a caller rests on these.
use Rattle.std.specs.Prelude.{ℕ, ◌+◌, ◌≤◌, ◌≡◌, List, ◌++◌, length, take, drop}

-- the first `at` places hold the front of a text; the rest of the output is as it was; `todo` is still to be put
pub record Put (text out₀ out : List ℕ) (at : ℕ) (todo : List ℕ) : Type 0 where
  pub room : length text ≤ length out₀
  pub upto : at ≤ length text
  pub left : drop at text ≡ todo
  pub front : out ≡ take at text ++ drop at out₀
  pub same : length out ≡ length out₀

-- cs stands behind the first n places, which are as they were; what lies further on is free
pub record Laid (cs : List ℕ) (n : ℕ) (out out' : List ℕ) : Type 0 where
  pub same : length out' ≡ length out
  pub front : take (n + length cs) out' ≡ take n out ++ cs
