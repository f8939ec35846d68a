-- Which states of UTF-7 are between cells, for the cells outside runs: all but the one after a '+'. A byte that is no
-- letter ends a run and is read as outside it. And which cells are a run's: those that one of its letters completes.
use Rattle.std.specs.Prelude.{ℕ, Bool, true, false}
use Rattle.alphabet.specs.Letters.{set_b, slash}
use Rattle.utf7.specs.Rule.{Shift, outside, opening, run}

abbrev pub between : Shift → Bool
between outside = true
between opening = false
between (run pending) = true

abbrev pub in_run : Shift → ℕ → Bool
in_run outside b = false
in_run opening b = false
in_run (run pending) b = set_b slash b
