-- Which states of a name are between cells, for the cells outside runs: all but the one after a '&'. And which cells
-- are a run's: all that are completed in one.
use Rattle.std.specs.Prelude.{ℕ, Bool, true, false}
use Rattle.mailbox.specs.Rule.{Shift, outside, opening, run}

abbrev pub between : Shift → Bool
between (outside after) = true
between (opening after) = false
between (run pending) = true

abbrev pub in_run : Shift → ℕ → Bool
in_run (outside after) b = false
in_run (opening after) b = false
in_run (run pending) b = true
