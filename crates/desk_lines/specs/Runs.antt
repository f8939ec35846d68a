-- Document 02, order 6, at the desk: "People want undo after a night's sleep." A page that `keep FILE` kept and
-- `desk page FILE` goes on with is as if desk had never ended: undo until it refuses brings back what the letter read
-- as, and save then gives the letter's own bytes. So it is after any number of runs of desk.
use Rattle.std.specs.Prelude.{ℕ, ◌≤◌, ◌≡◌, true, List, length, take}
use Rattle.answer.specs.Answer.{limit}
use Rattle.answer.specs.Output.{deliver}
use Rattle.codec.specs.declared.Kind.{Kind}
use Rattle.ledger.specs.Page.{State}
use Rattle.ledger.specs.Calls.{open_of}
use Rattle.ledger.specs.Ledger.{Ledger, opened}
use Rattle.ledger.specs.Running.{taken, heard}
use Rattle.ledger.specs.Demand.{Promised}
use Rattle.page_file.specs.Calls.{keep_of, read_of}
use Rattle.sessions.specs.Demand.{RoomFor, file_for}
use Rattle.desk_lines.specs.Desk.{history_room, Came, after_lines, calls_in}

-- the bytes that a `keep FILE` puts: those of an accepted keeping, lent the letter and some output
pub record Put (s : State) (letter file : List ℕ) : Type 0 where
  pub out : List ℕ
  pub accepted : (keep_of s letter out).verdict.number ≡ 0
  pub bytes : file ≡ take (keep_of s letter out).verdict.place (keep_of s letter out).out

-- a page that runs of desk lead to, and its ledger: the first run opens the letter, lines are obeyed, and each later
-- run reads a file that was put: "the ledger goes on as it was at that keeping"
pub data Reached (kind : Kind) (letter : List ℕ) : State → Ledger → Type 0 where
  opens :
      (text history : List ℕ) → taken (open_of kind letter text history) ≡ true →
      Reached kind letter (open_of kind letter text history).state (opened kind letter)
  works :
      {s : State} {l : Ledger} → Reached kind letter s l → (lines : List Came) →
      Reached kind letter (after_lines letter s lines) (heard l s (calls_in letter lines))
  resumes :
      {s : State} {l : Ledger} {file : List ℕ} → Reached kind letter s l → Put s letter file →
      (arrived text history : List ℕ) → taken (read_of arrived text history file) ≡ true →
      Reached kind letter (read_of arrived text history file).state l

-- what holds of such a page
pub record RunsOn (letter : List ℕ) (s : State) (l : Ledger) : Type 0 where
  -- demand 3, by the letter that the first run opened
  pub promised : Promised letter s l
  -- a `keep` refuses only for room
  pub keeps : (out : List ℕ) → keep_of s letter out ≡ deliver (file_for s letter) out
  -- what it put is read wherever there is room, as there is in buffers as long as a page takes
  pub reads :
      (file : List ℕ) → Put s letter file → (arrived text history : List ℕ) →
      RoomFor s letter arrived text history → taken (read_of arrived text history file) ≡ true
  pub room :
      (arrived text history : List ℕ) → length arrived ≡ limit → length text ≡ limit → length history ≡ limit →
      RoomFor s letter arrived text history
  -- a shorter history does too, where the page's own is no longer: as the desk's is for a page that it worked on
  pub desk-room :
      (arrived text history : List ℕ) → length arrived ≡ limit → length text ≡ limit →
      length s.history ≤ history_room → length history ≡ history_room →
      RoomFor s letter arrived text history
  -- it gives the letter back, which is then lent to the lines that follow
  pub letter-back :
      (file : List ℕ) → Put s letter file → (arrived text history : List ℕ) →
      taken (read_of arrived text history file) ≡ true →
      take (read_of arrived text history file).verdict.place (read_of arrived text history file).output ≡ letter

abbrev pub Demand3 : Type 0
Demand3 = (kind : Kind) (letter : List ℕ) (s : State) (l : Ledger) → Reached kind letter s l → RunsOn letter s l
