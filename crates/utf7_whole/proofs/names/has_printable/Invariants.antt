use Rattle.std.proofs.Common.{◌≡◌, ◌<◌, ◌≤◌, ℕ, false, get_or}
use Rattle.utf7.specs.Sets.{printable}
use Rattle.utf7_whole.proofs.names.has_printable.Given as goal

abbrev pub invariant-loop-k : goal.invariant-loop-k
invariant-loop-k l =
    l.some ≡ false → (i : ℕ) → l.from ≤ i → i < l.k → printable (get_or l.units i 0) ≡ false
