-- Document 02, order 6: keeping a page and reading its file, with every refusal and everything that they leave.
use Rattle.std.specs.Prelude.{ℕ, Bool, true, false, cond, ◌&&◌, ◌||◌, List, [], ◌∷◌, length, take, ltb, eqb}
use Rattle.std.specs.Prelude.{Option, None, Some}
use Rattle.answer.specs.Answer.{Verdict, numbered, too_long}
use Rattle.answer.specs.Output as output
use Rattle.answer.specs.Output.{deliver}
use Rattle.reading.specs.Reading.{Reading, Ending, accepted, fault}
use Rattle.codec.specs.declared.Kind.TheVariants.{Utf7Header}
use Rattle.codec.specs.Kinds.{reading_in, reads_as}
use Rattle.ledger.specs.Words.{Entry, Parted, pad}
use Rattle.ledger.specs.Page.{State, state_of, text_in, records, Outcome}
use Rattle.ledger.specs.Calls.{refusing, over, no_page}
use Rattle.parsing.specs.Parsing.{Whole, whole, broken}
use Rattle.page_file.specs.File.{Content, file_of}
use Rattle.page_file.specs.Reading.{parse}

-- "nothing past the ends is kept"
abbrev pub content_of : State → List ℕ → Content
content_of s arrived =
    record { page = s.page; arrived = arrived; text = text_in s; history = take s.page.used s.history }

-- a reading of so many cells, with no fault
abbrev pub count_is : ℕ → Ending → List ℕ → Bool
count_is n accepted cells = eqb (length cells) n
count_is n (fault k place) cells = false

abbrev pub counted : ℕ → Reading → Bool
counted n r = count_is n r.ending r.cells

-- "with nothing standing, as the text"
abbrev pub text_is : Content → List Entry → Bool
text_is c [] = reads_as c.page.kind c.arrived c.text
text_is c (e ∷ back) = true

-- "15 where the arrived bytes do not read as *opening* cells or, with nothing standing, as the text": where they do,
-- with these records standing
unfoldable pub belongs : Content → List Entry → Bool
belongs c standing = counted c.page.opening (reading_in c.page.kind c.arrived) && text_is c standing

-- keeping changes neither page nor buffers: it answers, and fills an output with the file
unfoldable pub keep_parted : Content → List ℕ → Option Parted → output.Outcome
keep_parted c out None = output.refusing (numbered 14 0) out
keep_parted c out (Some v) =
    cond (belongs c v.standing) (deliver (file_of c) out) (output.refusing (numbered 15 0) out)

-- "Keeping refuses with 16, 14, this same 15, then 9."
unfoldable pub keep_of : State → List ℕ → List ℕ → output.Outcome
keep_of s arrived out =
    cond (over arrived || (over s.text || over s.history)) (output.refusing too_long out)
    (keep_parted (content_of s arrived) out (records s))

-- reading a file into three buffers: for the arrived bytes, which is the output, the text and the history
module _ (arrived text history : List ℕ) where
  -- "Refused, the page is utf7h, zeros, none."
  abbrev pub unread : Verdict → Outcome
  unread verdict = refusing (state_of (no_page Utf7Header) text history) arrived verdict

  -- "filled with zeros to the lent lengths"
  abbrev pub state_from : Content → State
  state_from c = state_of c.page (pad (length text) c.text) (pad (length history) c.history)

  -- "Reading gives page, buffers and arrived bytes back [..]; its place is the count of arrived bytes."
  abbrev pub given : Content → Outcome
  given c =
      record {
        verdict = numbered 0 (length c.arrived);
        state = state_from c;
        output = pad (length arrived) c.arrived;
      }

  -- "14, then 15"
  unfoldable pub read_parted : Content → Option Parted → Outcome
  read_parted c None = unread (numbered 14 0)
  read_parted c (Some v) = cond (belongs c v.standing) (given c) (unread (numbered 15 0))

  -- "9 for the first of arrived, text, history that lacks room"
  unfoldable pub read_fitting : Content → Outcome
  read_fitting c =
      cond (ltb (length arrived) (length c.arrived)) (unread (numbered 9 (length c.arrived)))
      (cond (ltb (length text) (length c.text)) (unread (numbered 9 (length c.text)))
      (cond (ltb (length history) (length c.history)) (unread (numbered 9 (length c.history)))
      (read_parted c (records (state_from c)))))

  -- "18 (bad page file)"
  unfoldable pub read_parsed : Whole Content → Outcome
  read_parsed (broken place) = unread (numbered 18 place)
  read_parsed (whole c) = read_fitting c

  -- "16 (all three buffers; the file may be longer), 18 [..], 9 [..], 14, then 15"
  unfoldable pub read_of : List ℕ → Outcome
  read_of file = cond (over arrived || (over text || over history)) (unread too_long) (read_parsed (parse file))
