-- What the desk's loop keeps: the bytes in hand lie in the buffer, which is no longer than a line may be.
-- What it does from an open on, and when it ends.
use Rattle.std.specs.Prelude.{ℕ, ◌+◌, ◌-◌, ◌≤◌, ◌≡◌, Bool, true, false, ◌&&◌, ◌||◌, List, length, take, drop, eqb, Option, Some, None}
use Rattle.answer.specs.Answer.{in_numbers}
use Rattle.codec.specs.declared.Kind.{Kind}
use Rattle.ledger.specs.Page.{state_of, Outcome, leaves, keeps}
use Rattle.ledger.specs.declared.Page.{Page}
use Rattle.ledger.specs.declared.Edited.{Edited}
use Rattle.ledger.specs.Calls.{open_of}
use Rattle.ledger.specs.Running.{taken}
use Rattle.page_file.specs.Calls.{read_of}
use Rattle.desk_lines.specs.Desk.{line_room, file_room, Desk, begun, after_line, Turns}
use Rattle.desk.specs.declared.lines.Hand.{Hand}
use Rattle.desk.specs.declared.orders.Done.{Done}
use Rattle.desk.specs.declared.Source.{Source}
use Rattle.desk.specs.declared.Source.TheVariants.{Letter, Kept}

abbrev pub Holds : Hand → List ℕ → Type 0
Holds h buf = (h.from ≤ h.to) × (h.to ≤ length buf) × (length buf ≤ line_room)

-- the line that ends with the LF at a place
abbrev pub line_in : List ℕ → ℕ → ℕ → List ℕ
line_in buf from end = take (end + 1 - from) (drop from buf)

-- the desk with what is in hand, or with what a command has done
abbrev pub desk_in : Hand → List ℕ → List ℕ → Desk
desk_in h text history = record { state = state_of h.page text history; warned = h.warned; left = h.left }

abbrev pub desk_at : Done → List ℕ → List ℕ → Desk
desk_at r text history = record { state = state_of r.page text history; warned = r.warned; left = r.left }

-- a page at which no line has left the desk
abbrev pub sitting : Page → Bool → List ℕ → List ℕ → Desk
sitting page warned text history = record { state = state_of page text history; warned = warned; left = false }

-- a line is obeyed, unless it is the rest of one that was too long
pub data Took (letter line : List ℕ) (d e : Desk) : Bool → Type 0 where
  passed : e ≡ begun d.state → Took letter line d e true
  obeyed : (put : Bool) → e ≡ after_line letter d (record { line = line; put = put }) → Took letter line d e false

-- a line left the desk, or the input has ended and nothing of it is in hand
abbrev pub closed : Hand → Bool
closed h = h.left || (h.ended && eqb h.from h.to)

-- the desk makes its turns until it is closed: nothing else ends it before 2 ^ 64 - 1 of them
pub record Worked (letter : List ℕ) (from to : Desk) (hand : Hand) : Type 0 where
  pub turns : ℕ
  pub led : Turns letter from turns to
  pub until : (closed hand || eqb turns 18446744073709551615) ≡ true

-- it works on the page of an accepted call, with its letter, and does nothing to that of a refused one
pub record Sits (o : Outcome) (letter : List ℕ) (to : Desk) (hand : Hand) : Type 0 where
  pub refused : taken o ≡ false → to ≡ begun o.state
  pub worked : taken o ≡ true → Worked letter (begun o.state) to hand

-- the call is the open of a letter
abbrev pub Served : Kind → (letter text history : List ℕ) → Desk → Hand → Type 0
Served kind letter text history = Sits (open_of kind letter text history) letter

-- or the reading of a page file, and the letter is the one that is given back; where a run of desk put the file,
-- demand 3 goes on from there (resumed-keeps, proofs/Law.antt)
abbrev pub Resumed : (file letter text history : List ℕ) → Desk → Hand → Type 0
Resumed file letter text history =
    Sits (read_of letter text history file)
    (take (read_of letter text history file).verdict.place (read_of letter text history file).output)

-- a page that was read from some file, no longer than its room, and where the letter that was given back ends
pub record ReadFrom (given : Edited) (n : ℕ) (letter text history letter' text' history' : List ℕ) : Type 0 where
  pub file : List ℕ
  pub short : length file ≤ file_room
  pub reads : keeps given text' history' letter' ≡ read_of letter text history file
  pub ends : taken (keeps given text' history' letter') ≡ true → n ≡ (in_numbers given.answer).place

-- what FILE gave: the page of an open, or of a reading, and a letter in its buffer
abbrev pub Gave : Source → Option (Edited × ℕ) → (letter text history letter' text' history' : List ℕ) → Type 0
Gave (Letter kind) (Some (given, n)) letter text history letter' text' history' =
    (n ≤ length letter') × (leaves given text' history' ≡ open_of kind (take n letter') text history)
Gave Kept (Some (given, n)) letter text history letter' text' history' =
    (n ≤ length letter') × ReadFrom given n letter text history letter' text' history'
Gave what None letter text history letter' text' history' = Unit

-- the desk sat through the commands at the page of a letter that was read, or of a page file
pub record OpenedBy (kind : Kind) (letter text history : List ℕ) (to : Desk) (hand : Hand) : Type 0 where
  pub size : ℕ
  pub served : Served kind (take size letter) text history to hand

pub record KeptBy (letter text history : List ℕ) (to : Desk) (hand : Hand) : Type 0 where
  pub file : List ℕ
  pub short : length file ≤ file_room
  pub resumed : Resumed file letter text history to hand

abbrev pub OpenedAt : Option Hand → Kind → (text history letter' text' history' : List ℕ) → Type 0
OpenedAt (Some hand) kind text history letter' text' history' =
    OpenedBy kind letter' text history (desk_in hand text' history') hand
OpenedAt None kind text history letter' text' history' = Unit

abbrev pub KeptAt : Option Hand → (letter text history text' history' : List ℕ) → Type 0
KeptAt (Some hand) letter text history text' history' = KeptBy letter text history (desk_in hand text' history') hand
KeptAt None letter text history text' history' = Unit
