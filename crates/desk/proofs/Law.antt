-- The page that the desk leaves keeps demand 3, from a letter or from a page that was kept. Assumes nothing.
use mathlib.Core.Path.{◌≡◌}
use mathlib.Core.Bool.{true}
use mathlib.Core.List.{List}
use Prim.Native.Nat.{ℕ}
use Rattle.codec.specs.declared.Kind.{Kind}
use Rattle.ledger.specs.Page.{State}
use Rattle.ledger.specs.Calls.{open_of}
use Rattle.ledger.specs.Ledger.{Ledger, opened}
use Rattle.ledger.specs.Running.{taken}
use Rattle.page_file.specs.Calls.{read_of}
use Rattle.desk_lines.specs.Desk.{Desk}
use Rattle.desk_lines.specs.Runs.{Put, Reached, opens, resumes}
use Rattle.desk_lines.specs.Demand.{Keeps}
use Rattle.desk_lines.proofs.Law.{runs_on, turns-keep}
use Rattle.desk.specs.Hands.{Served, Resumed}
use Rattle.desk.specs.declared.lines.Hand.{Hand}

pub served-keeps :
    (kind : Kind) (letter text history : List ℕ) {to : Desk} {hand : Hand} → Served kind letter text history to hand →
    taken (open_of kind letter text history) ≡ true →
    Keeps letter (open_of kind letter text history).state (opened kind letter) to.state
served-keeps kind letter text history served ok = turns-keep (opens text history ok) (served.worked ok).led

-- a file that a run of desk put, from whatever page: the ledger goes on as it was then, and so does the first letter
pub resumed-keeps :
    (kind : Kind) (letter : List ℕ) {s : State} {l : Ledger} → Reached kind letter s l →
    (file : List ℕ) → Put s letter file → (arrived text history : List ℕ) {to : Desk} {hand : Hand} →
    Resumed file arrived text history to hand → taken (read_of arrived text history file) ≡ true →
    Keeps letter (read_of arrived text history file).state l to.state
resumed-keeps kind letter {s} {l} r file put arrived text history resumed ok =
    turns-keep (resumes r put arrived text history ok)
    (rw ((runs_on kind letter s l r).letter-back file put arrived text history ok) at (resumed.worked ok).led)
