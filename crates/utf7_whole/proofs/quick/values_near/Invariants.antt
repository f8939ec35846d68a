use Rattle.std.proofs.Common.{◌≡◌, ◌<◌, ◌≤◌, ◌+◌, ℕ, length, get_or}
use Rattle.alphabet.specs.Letters.{value_of}
use Rattle.utf7_whole.proofs.quick.values_near.Given as goal

abbrev pub invariant-loop-k : goal.invariant-loop-k
invariant-loop-k l =
    (length l.x ≡ 32) × ((j : ℕ) → j < l.k → get_or l.x j 0 ≡ value_of l.last (get_or l.text (l.at + j) 0))
    × ((j : ℕ) → l.k ≤ j → j < 32 → get_or l.x j 0 ≡ 64)
