-- What the code finds on its way, over the definitions of the crate page_file.
use Rattle.std.specs.Prelude.{ℕ, ◌+◌, ◌*◌, ◌≤◌, ◌≡◌, Bool, true, cond, List, length, take, drop, eqb}
use Rattle.codec.specs.declared.Kind.{Kind}
use Rattle.codec.specs.declared.Kind.TheVariants.{Utf7Header, Utf7Body, Jp2}
use Rattle.ledger.specs.declared.Page.{Page}
use Rattle.ledger.specs.Words.{zeros}
use Rattle.parsing.specs.Parsing.{Parsed, found, failed, Parser, done, ◌>>=◌, ◌>>◌, literal, Whole, whole, broken}
use Rattle.parsing.specs.Digits.{list, LF}
use Rattle.scan.specs.declared.Found.{Found}
use Rattle.scan.specs.Found.{found_as}
use Rattle.scan.specs.Inner.{hexes_at}
use Rattle.page_file.specs.File.{Content}
use Rattle.page_file.specs.Reading.{list_of, least}
use Rattle.page_file.specs.Inner.{form_if}
use Rattle.page_read.specs.declared.lines.Head.{Head}
use Rattle.page_read.specs.declared.lines.Listed.{Listed}
use Rattle.page_read.specs.declared.lines.FoundMark.{FoundMark}
use Rattle.page_read.specs.declared.lines.Plan.{Plan}
use Rattle.editor.specs.Marks.{Mark}

-- kinds by number
abbrev pub kind_of : ℕ → Kind
kind_of v = cond (eqb v 0) Utf7Header (cond (eqb v 1) Utf7Body Jp2)

abbrev pub kind_in : List ℕ → Found → Parsed Kind
kind_in s r = found_as (kind_of r.value) s r

abbrev pub mark_in : List ℕ → FoundMark → Parsed Mark
mark_in s r = cond r.ok (found r.mark (drop r.at s) r.at) (failed r.at)

-- a key with its '=', a value, and LF
abbrev pub key_line : {A : Type 0} → List ℕ → Parser A → Parser A
key_line key value = do
  literal key
  v ← value
  literal LF
  done v

-- a key with its '=', and a line of hex digits
abbrev pub key_list : List ℕ → (k least most : ℕ) → Parser (List ℕ)
key_list key k least most = do
  literal key
  list k least most

abbrev pub listed_in : ℕ → List ℕ → Listed → Parsed (List ℕ)
listed_in k s r = cond r.ok (found (hexes_at s r.from k r.count) (drop r.at s) r.at) (failed r.at)

-- a list's numbers are bytes of the file
abbrev pub Lies : ℕ → List ℕ → Listed → Type 0
Lies k s r = r.ok ≡ true → (r.at ≡ r.from + r.count * k + 1) × (r.at ≤ length s)

-- the last three lines of a page's file, of form 2 or not
abbrev pub list_lines : Bool → Page → Parser Content
list_lines two page = do
  arrived ← list_of "arrived" 2 (least (form_if two) page) (form_if two).bound
  text ← list_of "text" 8 page.length page.length
  history ← list_of "history" 8 page.used page.used
  done (record { page = page; arrived = arrived; text = text; history = history })

-- the file, where its first lines were found
abbrev pub head_then : List ℕ → Head → Parsed Content
head_then s h = cond h.ok (list_lines h.two h.page (drop h.at s) h.at) (failed h.at)

-- the content of a file by where its lists lie
abbrev pub content_in : List ℕ → Plan → Content
content_in s p =
    record {
      page = p.page;
      arrived = hexes_at s p.arrived 2 p.count;
      text = hexes_at s p.text 8 p.page.length;
      history = hexes_at s p.history 8 p.page.used;
    }

abbrev pub plan_in : List ℕ → Plan → Whole Content
plan_in s p = cond p.ok (whole (content_in s p)) (broken p.at)

-- where the lists of a file lie
pub record Lists (s : List ℕ) (p : Plan) : Type 0 where
  pub arrived : p.arrived + p.count * 2 ≤ length s
  pub text : p.text + p.page.length * 8 ≤ length s
  pub history : p.history + p.page.used * 8 ≤ length s

abbrev pub Planned : List ℕ → Plan → Type 0
Planned s p = p.ok ≡ true → Lists s p

-- buffers of a page whose history begins with these words, with zeros past the ends
pub record Frames (page : Page) (room : ℕ) (words t h : List ℕ) : Type 0 where
  pub same : length t ≡ room
  pub size : page.length ≤ length t
  pub used : page.used ≤ length h
  pub begins : take page.used h ≡ words
  pub blank-text : zeros (drop page.length t) ≡ true
  pub blank-history : zeros (drop page.used h) ≡ true
