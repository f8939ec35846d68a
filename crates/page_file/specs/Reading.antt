-- Document 02, orders 6 and 10: reading the lines of a page file.
use Rattle.std.specs.Prelude.{ℕ, cond, List, leb, None, Some}
use Prim.Native.String.{String}
use Rattle.answer.specs.Bytes.{bytes}
use Rattle.codec.specs.declared.Kind.{Kind}
use Rattle.codec.specs.declared.Kind.TheVariants.{Utf7Header, Utf7Body, Jp2}
use Rattle.editor.specs.Marks.{Mark}
use Rattle.ledger.specs.declared.Page.{Page}
use Rattle.parsing.specs.Parsing.{Parser, done, ◌>>=◌, ◌>>◌, either, literal, Whole, wholly}
use Rattle.parsing.specs.Digits.{number, list, LF}
use Rattle.page_file.specs.File.{Content, Form, form1, form2, greatest}

-- a key and '='
abbrev pub keyed : String → Parser Unit
keyed key = do
  literal (bytes key)
  literal (bytes "=")

-- a line of which the value is parsed
abbrev pub line_of : {A : Type 0} → String → Parser A → Parser A
line_of key value = do
  keyed key
  v ← value
  literal LF
  done v

-- a line of hex digits: at least and at most so many groups of k
abbrev pub list_of : String → (k least most : ℕ) → Parser (List ℕ)
list_of key k least most = do
  keyed key
  list k least most

-- a name that stands for a value
abbrev pub named : {A : Type 0} → String → A → Parser A
named name a = do
  literal (bytes name)
  done a

abbrev pub kind_name : Parser Kind
kind_name = either (named "utf7h" Utf7Header) (either (named "utf7b" Utf7Body) (named "jp2" Jp2))

abbrev pub page_by : Kind → (opening length used done : ℕ) → Mark → Page
page_by kind opening length used done saved =
    record { kind = kind; opening = opening; length = length; used = used; done = done; saved = saved }

module _ (form : Form) where
  abbrev pub decimal : Parser ℕ
  decimal = number 10 form.width form.bound

  abbrev pub mark : Parser Mark
  mark = either (named "none" None) (do
    n ← decimal
    done (Some n))

  -- the fewest arrived bytes: "18 also, at the LF ending arrived, for form 2 where form 1 was due"
  abbrev pub least : Page → ℕ
  least page = cond (leb form.floor (greatest page)) 0 form.floor

  -- what the lines behind the first keep
  abbrev pub content_lines : Parser Content
  content_lines = do
    kind ← line_of "kind" kind_name
    opening ← line_of "opening" decimal
    length ← line_of "length" decimal
    used ← line_of "used" decimal
    past ← line_of "done" decimal
    saved ← line_of "saved" mark
    arrived ← list_of "arrived" 2 (least (page_by kind opening length used past saved)) form.bound
    text ← list_of "text" 8 length length
    history ← list_of "history" 8 used used
    done (record {
      page = page_by kind opening length used past saved;
      arrived = arrived;
      text = text;
      history = history;
    })

  -- what the ten lines keep
  abbrev pub lines_of : Parser Content
  lines_of = do
    line_of "form" (literal (bytes form.name))
    content_lines

-- what a file of either form keeps, or the place of 18
unfoldable pub parse : List ℕ → Whole Content
parse file = wholly (either (lines_of form1) (lines_of form2) file 0)
