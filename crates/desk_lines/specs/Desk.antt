-- What a desk's lines do to its page: each is a call of document 01's page, or leaves it as it is. And when a line
-- leaves the desk: document 02, order 5, "Apprentices close the program without knowing."
use Rattle.std.specs.Prelude.{ℕ, suc, ◌≡◌, Bool, true, false, cond, ◌&&◌, ◌||◌, List, [], ◌∷◌, length, get_or, drop, replicate, eqb}
use Rattle.std.specs.Prelude.{Option, None, Some}
use Rattle.answer.specs.Output.{Outcome}
use Rattle.reading.specs.Reading.{Ending, accepted, fault, reading, read_into}
use Rattle.ledger.specs.Page.{State}
use Rattle.ledger.specs.Calls.{unchanged_of}
use Rattle.ledger.specs.Ledger.{Call, replace, undo, redo, save, squeeze}
use Rattle.ledger.specs.Running.{outcome_of}
use Rattle.commands.specs.Lines.{said_in}
use Rattle.commands.specs.Numbers.{numbers}
use Rattle.commands.specs.declared.Verb.{Verb}
use Rattle.commands.specs.declared.Verb.TheVariants.{Nothing, Show, Replace, Undo, Redo, Save, Quit}
use Rattle.commands.specs.declared.Verb.TheVariants.{Squeeze, Keep, Unknown}

-- `replace PLACE COUNT CELL..`, where all of it can be read
abbrev pub replacing : Ending → List ℕ → Option Call
replacing accepted [] = None
replacing accepted (place ∷ []) = None
replacing accepted (place ∷ count ∷ cells) = Some (replace place count cells)
replacing (fault k at) cells = None

-- how many bytes a line may have, with its LF
abbrev pub line_room : ℕ
line_room = 65536

-- how many words the desk's history has, and how many bytes a save may have and a page file: what a stack of 8 MiB
-- holds beside the longest letter and its text (docs/DESK.md)
abbrev pub history_room : ℕ
history_room = 262144

abbrev pub file_room : ℕ
file_room = 1572864

-- the work buffer that a squeeze is lent: as long as the desk's history
unfoldable pub work_room : List ℕ
work_room = replicate history_room 0

-- `squeeze K`, where its one number can be read
abbrev pub squeezing : Outcome → Option Call
squeezing read = cond (eqb read.verdict.number 0) (Some (squeeze (get_or read.out 0 0) work_room)) None

-- the output that a save is lent
unfoldable pub room : List ℕ
room = replicate file_room 0

-- `save FILE`, by what became of the file: one that was put is a save, and any other is as if it had not been
abbrev pub saving : List ℕ → List ℕ → Bool → Option Call
saving letter out put = cond put (Some (save letter out)) None

-- what a command asks for, given what a `save` does: `undo` and `redo` stand alone; `show`, `keep` and `quit`
-- change nothing
abbrev pub asked : Option Call → Verb → List ℕ → Option Call
asked saved Replace words = replacing (reading (numbers 2) words).ending (reading (numbers 2) words).cells
asked saved Undo words = cond (eqb (length words) 0) (Some undo) None
asked saved Redo words = cond (eqb (length words) 0) (Some redo) None
asked saved Squeeze words = squeezing (read_into (numbers 1) words (0 ∷ []))
asked saved Save words = saved
asked saved Nothing words = None
asked saved Show words = None
asked saved Keep words = None
asked saved Quit words = None
asked saved Unknown words = None

-- `quit` leaves the desk where nothing follows it, and the desk may be left
abbrev pub leaving : Bool → Verb → List ℕ → Bool
leaving free Quit words = eqb (length words) 0 && free
leaving free Nothing words = false
leaving free Show words = false
leaving free Replace words = false
leaving free Undo words = false
leaving free Redo words = false
leaving free Save words = false
leaving free Squeeze words = false
leaving free Keep words = false
leaving free Unknown words = false

-- whether the last command was a `quit`: a line with no word is no command
abbrev pub warned_by : Bool → Verb → List ℕ → Bool
warned_by warned Nothing words = warned
warned_by warned Quit words = eqb (length words) 0
warned_by warned Show words = false
warned_by warned Replace words = false
warned_by warned Undo words = false
warned_by warned Redo words = false
warned_by warned Save words = false
warned_by warned Squeeze words = false
warned_by warned Keep words = false
warned_by warned Unknown words = false

abbrev pub after_call : Option Call → State → State
after_call None s = s
after_call (Some call) s = (outcome_of s call).state

-- a desk between two lines: its page with the buffers; the last command was a `quit`; it was left
pub record Desk : Type 0 where
  pub state : State
  pub warned : Bool
  pub left : Bool

-- a desk that no `quit` has reached yet
abbrev pub begun : State → Desk
begun s = record { state = s; warned = false; left = false }

-- a desk may be left where the page is saved, or the last command was a `quit` too
abbrev pub free : Desk → Bool
free d = d.warned || (unchanged_of d.state).unchanged

-- the desk after a command, by what a `save` does
abbrev pub after_command : Option Call → Desk → Verb → List ℕ → Desk
after_command saved d verb words =
    record {
      state = after_call (asked saved verb words) d.state;
      warned = warned_by d.warned verb words;
      left = leaving (free d) verb words;
    }

-- a line that came, and what became of its file: put, or not, as where it names none
pub record Came : Type 0 where
  pub line : List ℕ
  pub put : Bool

abbrev pub saving_in : List ℕ → Came → Option Call
saving_in letter c = saving letter room c.put

-- the call that a line asks for, if it asks for one
unfoldable pub call_in : List ℕ → Came → Option Call
call_in letter c = asked (saving_in letter c) (said_in c.line).verb (drop (said_in c.line).rest c.line)

-- the desk after a line
unfoldable pub after_line : List ℕ → Desk → Came → Desk
after_line letter d c =
    after_command (saving_in letter c) d (said_in c.line).verb (drop (said_in c.line).rest c.line)

-- the page and its buffers after some lines
abbrev pub after_lines : List ℕ → State → List Came → State
after_lines letter s [] = s
after_lines letter s (c ∷ rest) = after_lines letter (after_call (call_in letter c) s) rest

-- the calls that they ask for
abbrev pub with_call : Option Call → List Call → List Call
with_call None calls = calls
with_call (Some call) calls = call ∷ calls

abbrev pub calls_in : List ℕ → List Came → List Call
calls_in letter [] = []
calls_in letter (c ∷ rest) = with_call (call_in letter c) (calls_in letter rest)

-- a turn of the desk: a line that came is obeyed; one that is too long is passed over; or more of one is got
pub data Turn (letter : List ℕ) (d e : Desk) : Type 0 where
  obeys : (c : Came) → e ≡ after_line letter d c → Turn letter d e
  passes : e ≡ begun d.state → Turn letter d e
  waits : e ≡ record { state = d.state; warned = d.warned; left = false } → Turn letter d e

-- turns lead from one desk to another: after a line that leaves it there is none
pub data Turns (letter : List ℕ) (from : Desk) : ℕ → Desk → Type 0 where
  none_yet : Turns letter from 0 from
  then : {n : ℕ} {d e : Desk} → Turns letter from n d → d.left ≡ false → Turn letter d e → Turns letter from (suc n) e
