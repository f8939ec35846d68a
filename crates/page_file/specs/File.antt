-- Document 02, order 6: "a page file of key=value lines, each ended by LF, in this order: form, kind, opening, length,
-- used, done, saved, arrived, text, history." Order 10: "Page files get form 2 with seven digits".
use Rattle.std.specs.Prelude.{ℕ, ◌≤◌, ◌<◌, ◌^◌, max, ◌≡◌, cond, List, [], ◌∷◌, ◌++◌, length, ltb, None, Some}
use Prim.Native.String.{String}
use Rattle.answer.specs.Lists.{Each}
use Rattle.answer.specs.Bytes.{bytes}
use Rattle.codec.specs.declared.Kind.{Kind}
use Rattle.codec.specs.declared.Kind.TheVariants.{Utf7Header, Utf7Body, Jp2}
use Rattle.editor.specs.Marks.{Mark}
use Rattle.ledger.specs.declared.Page.{Page}
use Rattle.parsing.specs.Parsing.{Language}
use Rattle.parsing.specs.Digits.{digits, groups, LF}

-- what a file keeps: the page, its arrived bytes, and text and history to their ends
pub record Content : Type 0 where
  pub page : Page
  pub arrived : List ℕ
  pub text : List ℕ
  pub history : List ℕ

-- a form of the file: how it is named, how many digits a number has, the most that a number may be and a list may hold,
-- and what some number, or the arrived length, must reach
pub record Form : Type 0 where
  pub name : String
  pub width : ℕ
  pub bound : ℕ
  pub floor : ℕ

-- "Form is 1." "five decimal digits"; "All others stay form 1, bound 65,536"
abbrev pub form1 : Form
form1 = record { name = "1"; width = 5; bound = 65536; floor = 0 }

-- "form 2 with seven digits, written only when some number, or the arrived length, exceeds 65,536"
abbrev pub form2 : Form
form2 = record { name = "2"; width = 7; bound = 1048576; floor = 65537 }

-- the greatest of a page's five numbers, and of the arrived length
abbrev pub mark_number : Mark → ℕ
mark_number None = 0
mark_number (Some n) = n

abbrev pub greatest : Page → ℕ
greatest page =
    max page.opening (max page.length (max page.used (max page.done (mark_number page.saved))))

abbrev pub greatest_in : Content → ℕ
greatest_in c = max (greatest c.page) (length c.arrived)

-- the form that is due
abbrev pub form_for : Content → Form
form_for c = cond (ltb 65536 (greatest_in c)) form2 form1

-- "Kind is utf7h, utf7b or jp2."
abbrev pub name_of : Kind → List ℕ
name_of Utf7Header = bytes "utf7h"
name_of Utf7Body = bytes "utf7b"
name_of Jp2 = bytes "jp2"

abbrev pub line : String → List ℕ → List ℕ
line key value = bytes key ++ (bytes "=" ++ (value ++ LF))

abbrev pub joined : List (List ℕ) → List ℕ
joined [] = []
joined (l ∷ ls) = l ++ joined ls

module _ (form : Form) where
  abbrev pub decimal : ℕ → List ℕ
  decimal n = digits 10 form.width n

  -- "saved the same or `none`"
  abbrev pub mark_of : Mark → List ℕ
  mark_of None = bytes "none"
  mark_of (Some n) = decimal n

  abbrev pub mark_within : Mark → Type 0
  mark_within None = Unit
  mark_within (Some n) = n ≤ form.bound

  -- "Arrived bytes are pairs of capital hex digits, cells and words groups of eight, without spaces"
  unfoldable pub file_in : Content → List ℕ
  file_in c =
      joined
      (line "form" (bytes form.name)
      ∷ line "kind" (name_of c.page.kind)
      ∷ line "opening" (decimal c.page.opening)
      ∷ line "length" (decimal c.page.length)
      ∷ line "used" (decimal c.page.used)
      ∷ line "done" (decimal c.page.done)
      ∷ line "saved" (mark_of c.page.saved)
      ∷ line "arrived" (groups 2 c.arrived)
      ∷ line "text" (groups 8 c.text)
      ∷ line "history" (groups 8 c.history)
      ∷ [])

  -- "a number or list over [the bound] or a list of the wrong length being out of form"; a byte is two hex digits, a
  -- cell or word eight
  pub record InForm (c : Content) : Type 0 where
    pub opening : c.page.opening ≤ form.bound
    pub size : c.page.length ≤ form.bound
    pub used : c.page.used ≤ form.bound
    pub done : c.page.done ≤ form.bound
    pub saved : mark_within c.page.saved
    pub few : length c.arrived ≤ form.bound
    pub text : length c.text ≡ c.page.length
    pub history : length c.history ≡ c.page.used
    pub bytes : Each (λ b. b < 2 ^ 8) c.arrived
    pub cells : Each (λ v. v < 2 ^ 32) c.text
    pub words : Each (λ v. v < 2 ^ 32) c.history

-- the file of what is kept
abbrev pub file_of : Content → List ℕ
file_of c = file_in (form_for c) c

-- the page files, and what they keep: "one page still has one file"
abbrev pub IsFile : Language Content
IsFile c file = InForm (form_for c) c × (file ≡ file_of c)
