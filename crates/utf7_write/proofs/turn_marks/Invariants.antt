use Rattle.std.proofs.Common.{◌≡◌, ◌≤◌, ℕ, get_or}
use Rattle.utf7_write.specs.Ahead.{Turned}
use Rattle.utf7_write.proofs.turn_marks.Given as goal

abbrev pub invariant-loop-k : goal.invariant-loop-k
invariant-loop-k l =
    Turned l.style l.initial.marks l.marks l.k × ((m : ℕ) → l.k ≤ m → get_or l.marks m 0 ≡ get_or l.initial.marks m 0)
