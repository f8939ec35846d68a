-- Document 02, order 6: what is promised of page files, and of keeping and reading them, for every input.
use Rattle.std.specs.Prelude.{ℕ, ◌≤◌, ◌<◌, ◌^◌, ◌≡◌, ◌↔◌, true, false, ◌||◌, List, [], length, take, eqb}
use Rattle.answer.specs.Answer.{numbered, limit, too_long}
use Rattle.answer.specs.Lists.{Each}
use Rattle.answer.specs.Output as output
use Rattle.answer.specs.Output.{deliver}
use Rattle.reading.specs.Reading.{accepted}
use Rattle.codec.specs.declared.Kind.TheVariants.{Utf7Header}
use Rattle.codec.specs.Kinds.{reading_in, reads_as}
use Rattle.editor.specs.Layout.{taken}
use Rattle.editor.specs.Demand.{Unchanged}
use Rattle.ledger.specs.Words.{Entry, pad}
use Rattle.ledger.specs.Page.{State, state_of}
use Rattle.ledger.specs.Calls.{over, no_page}
use Rattle.parsing.specs.Parsing.{whole, broken, FirstFault, Right}
use Rattle.page_file.specs.File.{Content, form_for, InForm, file_of, IsFile}
use Rattle.page_file.specs.Reading.{parse}
use Rattle.page_file.specs.Calls.{belongs, keep_of, unread, read_of}

-- of the syntax alone
pub record Files : Type 0 where
  -- what is in form is found again in its file
  pub reads-back : (c : Content) → InForm (form_for c) c → parse (file_of c) ≡ whole c
  -- any bytes are the file of what is found in them; or they are no page file, and 18 stands "at the first byte no page
  -- file can have there, or the length if it ends early"
  pub right : (file : List ℕ) → Right IsFile file (parse file)
  -- and there is only one such place
  pub one_place :
      (file : List ℕ) (place other : ℕ) → parse file ≡ broken place → FirstFault IsFile file other → other ≡ place
  -- "One page with its arrived bytes has one file."
  pub one-file : (c : Content) (file other : List ℕ) → parse file ≡ whole c → parse other ≡ whole c → file ≡ other

-- a file that is read, kept again with the arrived bytes that it gave, is the same bytes
abbrev pub SameAgain : Type 0
SameAgain =
    (arrived text history file out : List ℕ) → taken (read_of arrived text history file) ≡ true →
    keep_of (read_of arrived text history file).state
    (take (read_of arrived text history file).verdict.place (read_of arrived text history file).output) out
    ≡ deliver file out

-- elements as a byte, a cell and a word hold them
pub record Typed (s : State) (arrived : List ℕ) : Type 0 where
  pub bytes : Each (λ b. b < 2 ^ 8) arrived
  pub cells : Each (λ v. v < 2 ^ 32) s.text
  pub words : Each (λ v. v < 2 ^ 32) s.history

-- what is kept of any page, sound as it must be, is read in buffers of the same lengths, and that very page, text and
-- history are back
abbrev pub ReadsAgain : Type 0
ReadsAgain =
    (s : State) (bytes out : List ℕ) → Typed s bytes → eqb (keep_of s bytes out).verdict.number 0 ≡ true →
    (arrived text history : List ℕ) → length bytes ≤ length arrived → length arrived ≤ limit →
    length text ≡ length s.text → length history ≡ length s.history →
    read_of arrived text history (take (keep_of s bytes out).verdict.place (keep_of s bytes out).out)
    ≡ record { verdict = numbered 0 (length bytes); state = s; output = pad (length arrived) bytes }

-- "the arrived bytes [..] read as *opening* cells [and], with nothing standing, as the text"
abbrev pub Belongs : Content → List Entry → Type 0
Belongs c standing =
    ((reading_in c.page.kind c.arrived).ending ≡ accepted)
    × (length (reading_in c.page.kind c.arrived).cells ≡ c.page.opening)
    × (standing ≡ [] → reads_as c.page.kind c.arrived c.text ≡ true)

pub record Calls : Type 0 where
  -- "16 comes first"
  pub keep-long :
      (s : State) (arrived out : List ℕ) → (over arrived || (over s.text || over s.history)) ≡ true →
      keep_of s arrived out ≡ output.refusing too_long out
  pub read-long :
      (arrived text history file : List ℕ) → (over arrived || (over text || over history)) ≡ true →
      read_of arrived text history file ≡ unread arrived text history too_long
  -- what 15 is not given for
  pub fifteen : (c : Content) (standing : List Entry) → (belongs c standing ≡ true) ↔ Belongs c standing
  -- "A refusal changes no page and no buffer"; "Refused, the page is utf7h, zeros, none."
  pub keep-refused :
      (s : State) (arrived out : List ℕ) → eqb (keep_of s arrived out).verdict.number 0 ≡ false →
      (keep_of s arrived out).out ≡ out
  pub read-refused :
      (arrived text history file : List ℕ) → taken (read_of arrived text history file) ≡ false →
      Unchanged (state_of (no_page Utf7Header) text history) arrived (read_of arrived text history file)
  pub same-again : SameAgain
  pub reads-again : ReadsAgain
