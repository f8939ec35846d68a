-- An output that is written by blocks: behind what stands there may be bytes that are still written over.
use Rattle.std.specs.Prelude.{ℕ, ◌+◌, ◌-◌, ◌≤◌, ◌≡◌, List, length, drop}
use Rattle.answer.specs.Inner.{Put}
use Rattle.utf7.specs.Writing.{writing}
use Rattle.utf7.specs.declared.Style.{Style}

-- the first `at` places hold the front of a text, and `todo` is still to be put; from the place `until` on the output is as it was
pub record Reach (text out₀ out : List ℕ) (at : ℕ) (todo : List ℕ) (until : ℕ) : Type 0 where
  pub base : List ℕ
  pub put : Put text base out at todo
  pub kept : drop until base ≡ drop until out₀
  pub whole : length base ≡ length out₀

-- the first i cells are written; each of the others takes a byte at least
pub record Begun (style : Style) (us out₀ out : List ℕ) (i at : ℕ) : Type 0 where
  pub inside : i ≤ length us
  pub reach : Reach (writing style us) out₀ out at (writing style (drop i us)) (at + (length us - i))
