-- Demand 3 at the desk, and what is known of a desk that a line left, from any page that runs of desk lead to: one that
-- was opened, or one that was kept.
use Rattle.std.specs.Prelude.{ℕ, ◌≡◌, true, ◌||◌, List}
use Rattle.ledger.specs.Page.{State}
use Rattle.ledger.specs.Words.{in_words}
use Rattle.ledger.specs.Ledger.{Ledger, unchanged_by}
use Rattle.ledger.specs.Running.{heard}
use Rattle.ledger.specs.Demand.{Promised}
use Rattle.desk_lines.specs.Desk.{Desk, begun, Came, after_lines, calls_in, Turn, Turns}

-- demand 3 of a page that a desk leaves: some lines led to it from the page that the run began with, and the ledger
-- that heard their calls agrees with it
pub record Keeps (letter : List ℕ) (from : State) (l : Ledger) (to : State) : Type 0 where
  pub lines : List Came
  pub arrive : after_lines letter from lines ≡ to
  pub promised : Promised letter to (heard l from (calls_in letter lines))

-- a desk that a line left: the ledger that heard the calls before says that the page is saved, or the last command
-- before was a `quit` too
pub record Left (letter : List ℕ) (from : State) (l : Ledger) (to : Desk) : Type 0 where
  pub turns : ℕ
  pub before : Desk
  pub led : Turns letter (begun from) turns before
  pub turn : Turn letter before to
  pub keeps : Keeps letter from l before.state
  pub asked : (before.warned || unchanged_by in_words (heard l from (calls_in letter keeps.lines))) ≡ true
