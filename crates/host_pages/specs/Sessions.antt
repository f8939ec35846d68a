-- Document 02, order 6, through C: a host's list of calls, keepings, and readings of what was kept, after an accepted
-- open.
use Rattle.std.specs.Prelude.{ℕ, ◌≡◌, Bool, true, cond, List, [], ◌∷◌, ◌++◌, take, get_or, eqb}
use Rattle.answer.specs.Output as output
use Rattle.answer.specs.Output.{deliver}
use Rattle.codec.specs.declared.Kind.{Kind}
use Rattle.ledger.specs.Calls.{open_of}
use Rattle.ledger.specs.Ledger.{Ledger, opened}
use Rattle.page_file.specs.Calls.{read_of}
use Rattle.sessions.specs.Books.{Action, call, keep, restore, Books, opening, told}
use Rattle.sessions.specs.Sessions.{Session}
use Rattle.sessions.specs.Demand.{file_for, GoesOn}
use Rattle.host_pages.specs.Pages.{HostOutcome, hosted, kept_on}
use Rattle.host_pages.specs.Runs.{HostState, host_state, left_by, host_taken, host_outcome, HostPromised}

-- the page that a host has in hand with its buffers, the arrived bytes in hand, and the files that it kept, in order
pub record HostSession : Type 0 where
  pub state : HostState
  pub arrived : List ℕ
  pub files : List (List ℕ)

abbrev pub host_session : Session → HostSession
host_session r = record { state = host_state r.state; arrived = r.arrived; files = r.files }

abbrev pub host_begins : HostState → List ℕ → HostSession
host_begins h arrived = record { state = h; arrived = arrived; files = [] }

-- whether the host was told 0, and what it then has in hand
pub record HostDone : Type 0 where
  pub accepted : Bool
  pub session : HostSession

abbrev pub host_called : HostSession → HostOutcome → HostDone
host_called r o =
    record {
      accepted = host_taken o;
      session = record { state = left_by o; arrived = r.arrived; files = r.files };
    }

abbrev pub host_kept : HostSession → output.Outcome → HostDone
host_kept r o =
    let ok : Bool = eqb o.verdict.number 0 in
    let files : List (List ℕ) = r.files ++ take o.verdict.place o.out ∷ [] in
    record {
      accepted = ok;
      session = record { state = r.state; arrived = r.arrived; files = cond ok files r.files };
    }

-- an accepted reading gives page and arrived bytes in hand; a host that is refused one goes on with those that it had
abbrev pub host_restored : HostSession → HostOutcome → HostDone
host_restored r o =
    record {
      accepted = host_taken o;
      session =
          cond (host_taken o)
          (record { state = left_by o; arrived = take o.verdict.place o.output; files = r.files }) r;
    }

-- the actions, as the promises of the functions for hosts say them
abbrev pub host_act : HostSession → Action → HostDone
host_act r (call c) = host_called r (host_outcome r.state c)
host_act r (keep out) = host_kept r (kept_on r.state.page r.state.text r.state.history r.arrived out)
host_act r (restore n arrived text history) =
    host_restored r (hosted (read_of arrived text history (get_or r.files n [])))

abbrev pub host_acted : HostSession → List Action → HostSession
host_acted r [] = r
host_acted r (a ∷ actions) = host_acted (host_act r a).session actions

-- the books hear each action and whether the host was told 0
abbrev pub host_told : Books → HostSession → List Action → Books
host_told b r [] = b
host_told b r (a ∷ actions) = host_told (told b a (host_act r a).accepted) (host_act r a).session actions

-- what a host has in hand is a session that goes on, by the books that heard its actions
pub record HostGoesOn (bytes : List ℕ) (r : HostSession) (l : Ledger) : Type 0 where
  pub session : Session
  pub in-hand : r ≡ host_session session
  pub goes_on : GoesOn bytes session l
  -- demand 3 with the mark and the question, as it is of calls alone
  pub promised : HostPromised bytes r.state l
  -- keeping refuses a host only for room
  pub keeps :
      (out : List ℕ) →
      kept_on r.state.page r.state.text r.state.history bytes out
      ≡ deliver (file_for session.state bytes) out

-- "Demands 2 and 3 go on across an accepted keeping and an accepted reading of its file"
abbrev pub HostSessions : Type 0
HostSessions =
    (kind : Kind) (bytes text history : List ℕ) → host_taken (hosted (open_of kind bytes text history)) ≡ true →
    (actions : List Action) →
    let start : HostSession = host_begins (left_by (hosted (open_of kind bytes text history))) bytes in
    HostGoesOn bytes (host_acted start actions) (host_told (opening (opened kind bytes)) start actions).ledger
