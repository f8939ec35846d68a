-- Cases of page files, and of keeping and reading them: document 01's worked page, the places of 18, and the order of
-- the refusals; one table and what it states.
use Rattle.std.specs.Prelude.{ℕ, ◌≡◌, List, [], ◌∷◌, ◌++◌, length, replicate, None, Some}
use Prim.Native.String.{String}
use Rattle.answer.specs.Answer.{numbered}
use Rattle.answer.specs.Bytes.{bytes}
use Rattle.answer.specs.Cases.{leaving}
use Rattle.answer.specs.Lists.{Each}
use Rattle.codec.specs.declared.Kind.TheVariants.{Utf7Header, Utf7Body, Jp2}
use Rattle.editor.specs.Marks.{Mark}
use Rattle.ledger.specs.declared.Page.{Page}
use Rattle.ledger.specs.Page.{State, state_of}
use Rattle.parsing.specs.Parsing.{whole, broken, wholly}
use Rattle.page_file.specs.File.{Content, form1, file_of}
use Rattle.page_file.specs.Reading.{lines_of, parse}
use Rattle.page_file.specs.Calls.{keep_of, read_of}

pub data Case : Type 0 where
  -- the file of what is kept, which reads as that
  spells : List String → Content → Case
  -- 18, and its place; and where the reader of form 1 alone, which was order 6's, has it
  breaks : List String → ℕ → Case
  old-breaks : List String → ℕ → Case
  -- keeping a page, with its arrived bytes and an output; the number, the place and the output then
  keeps : State → List ℕ → List ℕ → ℕ → ℕ → List ℕ → Case
  -- any bytes of this length lent as arrived: 16, whatever the page
  keeps-long : ℕ → State → List ℕ → Case
  -- reading a file into buffers for arrived bytes, text and history of these lengths, all 9: the count, and what they
  -- hold; or a refusal
  gives : List String → ℕ → ℕ → ℕ → Page → List ℕ → List ℕ → List ℕ → Case
  refuses : List String → ℕ → ℕ → ℕ → ℕ → ℕ → Case

-- the bytes of a file in several parts
abbrev pub in_parts : List String → List ℕ
in_parts [] = []
in_parts (part ∷ rest) = bytes part ++ in_parts rest

abbrev pub nines : ℕ → List ℕ
nines n = replicate n 9

abbrev pub Holds : Case → Type 0
Holds (spells file c) = (file_of c ≡ in_parts file) × (parse (in_parts file) ≡ whole c)
Holds (breaks file place) = parse (in_parts file) ≡ broken place
Holds (old-breaks file place) = wholly (lines_of form1 (in_parts file) 0) ≡ broken place
Holds (keeps s arrived out number place left) = keep_of s arrived out ≡ leaving number place left
Holds (keeps-long n s out) =
    (arrived : List ℕ) → length arrived ≡ n → keep_of s arrived out ≡ leaving 16 1048576 out
Holds (gives file a t h page arrived text history) =
    read_of (nines a) (nines t) (nines h) (in_parts file)
    ≡ record { verdict = numbered 0 9; state = state_of page text history; output = arrived }
Holds (refuses file a t h number place) =
    read_of (nines a) (nines t) (nines h) (in_parts file)
    ≡ record {
      verdict = numbered number place;
      state =
          state_of (record { kind = Utf7Header; opening = 0; length = 0; used = 0; done = 0; saved = None }) (nines t)
          (nines h);
      output = nines a;
    }

-- a body page, P2's bytes and their cells, the cells with 003D at 1, and the record of that
abbrev pub body : ℕ → ℕ → ℕ → ℕ → Mark → Page
body opening length used done saved =
    record { kind = Utf7Body; opening = opening; length = length; used = used; done = done; saved = saved }

abbrev pub letter : List ℕ
letter = bytes "A+ImIDkQ."

abbrev pub cells : List ℕ
cells = 0x41 ∷ 0x2262 ∷ 0x391 ∷ 0x2E ∷ []

abbrev pub edited : List ℕ
edited = 0x41 ∷ 0x3D ∷ 0x391 ∷ 0x2E ∷ []

abbrev pub step : List ℕ
step = 1 ∷ 1 ∷ 1 ∷ 0x2262 ∷ 0x3D ∷ []

-- its lines
abbrev pub start : String
start = "form=1␊kind=utf7b␊"

abbrev pub arrived_line : String
arrived_line = "arrived=412B496D49446B512E␊"

abbrev pub cells_line : String
cells_line = "text=0000004100002262000003910000002E␊"

abbrev pub edited_line : String
edited_line = "text=000000410000003D000003910000002E␊"

abbrev pub step_line : String
step_line = "history=000000010000000100000001000022620000003D␊"

-- document 01's worked page, opened and edited
abbrev pub worked : List String
worked =
    start ∷ "opening=00004␊length=00004␊used=00005␊done=00005␊saved=00000␊" ∷ arrived_line ∷ edited_line ∷ step_line ∷ []

-- undone, and never saved since
abbrev pub undone : List String
undone =
    start ∷ "opening=00004␊length=00004␊used=00005␊done=00000␊saved=none␊" ∷ arrived_line ∷ cells_line ∷ step_line ∷ []

-- an empty page, and its numbers
abbrev pub blank : List String
blank =
    "form=1␊kind=jp2␊"
    ∷ "opening=00000␊length=00000␊used=00000␊done=00000␊saved=none␊arrived=␊text=␊history=␊"
    ∷ []

-- the lines before `saved` with these cells to come, and those before `arrived`
abbrev pub numbers : String
numbers = "form=1␊kind=jp2␊opening=00000␊length=00001␊used=00000␊done=00000␊"

abbrev pub lists : String
lists = "form=1␊kind=jp2␊opening=00000␊length=00001␊used=00000␊done=00000␊saved=none␊"

-- the lines of form 2 before `saved`, of small numbers
abbrev pub small2 : String
small2 = "form=2␊kind=jp2␊opening=0000000␊length=0000000␊used=0000000␊done=0000000␊"

abbrev pub files : List Case
files =
    spells worked (record { page = body 4 4 5 5 (Some 0); arrived = letter; text = edited; history = step })
    ∷ spells undone (record { page = body 4 4 5 0 None; arrived = letter; text = cells; history = step })
    ∷ spells blank
    (record {
      page = record { kind = Jp2; opening = 0; length = 0; used = 0; done = 0; saved = None };
      arrived = [];
      text = [];
      history = [];
    })
    -- in form, whatever soundness says: done past used, a mark past both
    ∷ spells
    ("form=1␊kind=utf7h␊opening=65536␊length=00000␊used=00000␊done=00007␊saved=65536␊arrived=FF␊text=␊history=␊" ∷ [])
    (record {
      page = record { kind = Utf7Header; opening = 65536; length = 0; used = 0; done = 7; saved = Some 65536 };
      arrived = 0xFF ∷ [];
      text = [];
      history = [];
    })
    -- the length if it ends early
    ∷ breaks [] 0
    ∷ breaks ("form=1" ∷ []) 6
    ∷ breaks (numbers ∷ "saved=" ∷ []) 71
    -- the lines in their order, nothing between and nothing behind
    ∷ breaks ("Form=1␊" ∷ []) 0
    ∷ breaks ("form =1␊" ∷ []) 4
    ∷ breaks ("form=3␊" ∷ []) 5
    ∷ breaks ("form=2␊" ∷ []) 7
    ∷ breaks ("form=1␍␊" ∷ []) 6
    ∷ breaks ("form=1␊form=1␊" ∷ []) 7
    ∷ breaks ("form=1␊opening=00000␊" ∷ []) 7
    ∷ breaks ("form=1␊kind=utf7x␊" ∷ []) 16
    ∷ breaks ("form=1␊kind=jp3␊" ∷ []) 14
    ∷ breaks (blank ++ "␊" ∷ []) 100
    -- numbers, digit by digit
    ∷ breaks (start ∷ "opening=65537␊" ∷ []) 30
    ∷ breaks (start ∷ "opening=70000␊" ∷ []) 26
    ∷ breaks (start ∷ "opening=4␊" ∷ []) 27
    ∷ breaks (start ∷ "opening=000004␊" ∷ []) 31
    ∷ breaks (start ∷ "opening= 0004␊" ∷ []) 26
    ∷ breaks (start ∷ "opening=0000A␊" ∷ []) 30
    ∷ breaks (numbers ∷ "saved=65537␊" ∷ []) 75
    ∷ breaks (numbers ∷ "saved=nine␊" ∷ []) 72
    -- lists: odd hex at the LF, small hex, a space
    ∷ breaks (lists ∷ "arrived=4␊" ∷ []) 85
    ∷ breaks (lists ∷ "arrived=4f␊" ∷ []) 85
    ∷ breaks (lists ∷ "arrived=41 42␊" ∷ []) 86
    -- an LF that comes too early, a digit too many
    ∷ breaks (lists ∷ "arrived=␊text=␊" ∷ []) 90
    ∷ breaks (lists ∷ "arrived=␊text=0000004100" ∷ []) 98
    ∷ breaks (lists ∷ "arrived=␊text=00000041␊history=0" ∷ []) 107
    -- order 10: seven digits, at most 1,048,576
    ∷ breaks ("form=2␊kind=jp2␊opening=1048577␊" ∷ []) 30
    ∷ breaks ("form=2␊kind=jp2␊opening=00000␊" ∷ []) 29
    ∷ breaks ("form=1␊kind=jp2␊opening=0000000␊" ∷ []) 29
    -- "18 also, at the LF ending arrived, for form 2 where form 1 was due"
    ∷ breaks (small2 ∷ "saved=0065536␊arrived=41␊text=␊history=␊" ∷ []) 97
    ∷ breaks (small2 ∷ "saved=none␊arrived=␊text=␊history=␊" ∷ []) 92
    -- some number is greater, whatever soundness says
    ∷ spells (small2 ∷ "saved=0065537␊arrived=41␊text=␊history=␊" ∷ [])
    (record {
      page = record { kind = Jp2; opening = 0; length = 0; used = 0; done = 0; saved = Some 65537 };
      arrived = 0x41 ∷ [];
      text = [];
      history = [];
    })
    ∷ spells
    ("form=2␊kind=jp2␊opening=1048576␊length=0000000␊used=0000000␊done=0000000␊saved=none␊"
    ∷ "arrived=␊text=␊history=␊"
    ∷ [])
    (record {
      page = record { kind = Jp2; opening = 1048576; length = 0; used = 0; done = 0; saved = None };
      arrived = [];
      text = [];
      history = [];
    })
    -- "An old program refuses form 2 with 18 and shows nothing."
    ∷ old-breaks (small2 ∷ "saved=0065537␊arrived=41␊text=␊history=␊" ∷ []) 5
    ∷ []

-- the worked page in longer buffers; with text past its length, so not sound; another edit, of a page of three cells
abbrev pub on_page : State
on_page = state_of (body 4 4 5 5 (Some 0)) (edited ++ 0 ∷ []) (step ++ 0 ∷ 0 ∷ [])

abbrev pub on_damaged : State
on_damaged = state_of (body 3 4 0 0 (Some 0)) (edited ++ 7 ∷ []) []

abbrev pub on_three : State
on_three = state_of (body 3 4 4 4 (Some 0)) edited (1 ∷ 0 ∷ 1 ∷ 0x3D ∷ [])

-- "Keeping refuses with 16, 14, this same 15, then 9."
abbrev pub keepings : List Case
keepings =
    keeps on_page letter (nines 194) 0 193 (in_parts worked ++ 9 ∷ [])
    ∷ keeps on_page letter (nines 192) 9 193 (nines 192)
    ∷ keeps-long 1048577 on_damaged []
    ∷ keeps on_damaged letter [] 14 0 []
    -- a step stands: the count only
    ∷ keeps on_three letter [] 15 0 []
    -- nothing stands: the text
    ∷ keeps (state_of (body 4 4 0 0 (Some 0)) edited []) letter [] 15 0 []
    ∷ keeps (state_of (body 4 4 5 0 None) cells step) letter [] 9 192 []
    ∷ []

-- "16 [..], 18 [..], 9 for the first of arrived, text, history that lacks room, 14, then 15"
abbrev pub readings : List Case
readings =
    gives worked 10 6 7 (body 4 4 5 5 (Some 0)) (letter ++ 0 ∷ []) (edited ++ 0 ∷ 0 ∷ []) (step ++ 0 ∷ 0 ∷ [])
    ∷ gives undone 9 4 5 (body 4 4 5 0 None) letter cells step
    -- 18 before 9
    ∷ refuses (worked ++ "␊" ∷ []) 0 0 0 18 193
    ∷ refuses worked 0 0 0 9 9
    ∷ refuses worked 9 3 4 9 4
    ∷ refuses worked 9 4 4 9 5
    -- 9 before 14: done is no end of a record
    ∷ refuses
    (start ∷ "opening=00004␊length=00004␊used=00005␊done=00004␊saved=00000␊" ∷ arrived_line ∷ edited_line ∷ step_line ∷ [])
    9 4 4 9 5
    -- 14 before 15: and three is not the count
    ∷ refuses
    (start ∷ "opening=00003␊length=00004␊used=00005␊done=00004␊saved=00000␊" ∷ arrived_line ∷ edited_line ∷ step_line ∷ [])
    9 4 5 14 0
    -- 14 for a mark within a record
    ∷ refuses
    (start ∷ "opening=00004␊length=00004␊used=00005␊done=00005␊saved=00003␊" ∷ arrived_line ∷ edited_line ∷ step_line ∷ [])
    9 4 5 14 0
    -- of form 2, too
    ∷ refuses (small2 ∷ "saved=0065537␊arrived=41␊text=␊history=␊" ∷ []) 9 4 5 14 0
    -- the text has room and the opening length has not
    ∷ refuses
    (start
    ∷ "opening=00004␊length=00003␊used=00004␊done=00004␊saved=00000␊"
    ∷ arrived_line
    ∷ "text=00000041000003910000002E␊history=00000001000000010000000000002262␊"
    ∷ [])
    9 3 4 14 0
    -- 15 where a step stands: the count
    ∷ refuses
    (start
    ∷ "opening=00003␊length=00004␊used=00004␊done=00004␊saved=00000␊"
    ∷ arrived_line
    ∷ edited_line
    ∷ "history=0000000100000000000000010000003D␊"
    ∷ [])
    9 4 4 15 0
    -- 15 with nothing standing: the text
    ∷ refuses
    (start
    ∷ "opening=00004␊length=00004␊used=00000␊done=00000␊saved=00000␊"
    ∷ arrived_line
    ∷ edited_line
    ∷ "history=␊"
    ∷ [])
    9 4 0 15 0
    ∷ []

abbrev pub AllHold : Type 0
AllHold = Each Holds (files ++ (keepings ++ readings))
