-- "Demands 2 and 3 go on across an accepted keeping and an accepted reading of its file, where keeping is lent the very
-- bytes the page was opened on; the ledger goes on as it was at that keeping."
use Rattle.std.specs.Prelude.{ℕ, ◌≤◌, ◌≡◌, true, List, map, length}
use Rattle.answer.specs.Answer.{limit}
use Rattle.answer.specs.Output.{deliver}
use Rattle.codec.specs.declared.Kind.{Kind}
use Rattle.editor.specs.Ledger.{Ledger, Call, opened}
use Rattle.editor.specs.Layout.{taken}
use Rattle.ledger.specs.Page.{State}
use Rattle.ledger.specs.Calls.{open_of}
use Rattle.ledger.specs.Running as calls
use Rattle.ledger.specs.Demand.{Promised}
use Rattle.page_file.specs.File.{file_of}
use Rattle.page_file.specs.Calls.{content_of, keep_of, given, read_of}
use Rattle.sessions.specs.Books.{Action, call, opening}
use Rattle.sessions.specs.Sessions.{Session, begins, after, heard}

-- buffers within the limit, no shorter than the arrived bytes and the page's own
pub record RoomFor (s : State) (bytes arrived text history : List ℕ) : Type 0 where
  pub for-arrived : (length bytes ≤ length arrived) × (length arrived ≤ limit)
  pub for-text : (length s.text ≤ length text) × (length text ≤ limit)
  pub for-history : (length s.history ≤ length history) × (length history ≤ limit)

-- the file of a page and the bytes that it was opened on
abbrev pub file_for : State → List ℕ → List ℕ
file_for s bytes = file_of (content_of s bytes)

-- what holds of a session on a page opened on these bytes, and of the books' ledger
pub record GoesOn (bytes : List ℕ) (r : Session) (l : Ledger) : Type 0 where
  -- demand 3, as it is of calls alone
  pub promised : Promised bytes r.state l
  -- demand 2: the arrived bytes in hand are those opened on, so they read as they did
  pub same_bytes : r.arrived ≡ bytes
  -- keeping refuses only for room
  pub keeps : (out : List ℕ) → keep_of r.state bytes out ≡ deliver (file_for r.state bytes) out
  -- and what it keeps is read wherever there is room, and gives page, text, history and bytes back
  pub restores :
      (arrived text history : List ℕ) → RoomFor r.state bytes arrived text history →
      read_of arrived text history (file_for r.state bytes)
      ≡ given arrived text history (content_of r.state bytes)

-- for every kind, arrived bytes, buffers and list of calls, keepings, and readings of what was kept in any buffers
abbrev pub Demand3 : Type 0
Demand3 =
    (kind : Kind) (bytes text history : List ℕ) → taken (open_of kind bytes text history) ≡ true →
    (actions : List Action) →
    let start : Session = begins (open_of kind bytes text history).state bytes in
    GoesOn bytes (after start actions) (heard (opening (opened kind bytes)) start actions).ledger

-- a list of calls alone is the old claim's
abbrev pub CallsAlone : Type 0
CallsAlone =
    (s : State) (bytes : List ℕ) (l : Ledger) (list : List Call) →
    (after (begins s bytes) (map call list) ≡ begins (calls.after s list) bytes)
    × (heard (opening l) (begins s bytes) (map call list) ≡ opening (calls.heard l s list))
