-- What the code computes on its way. proofs/Keeping.antt: it is what the crate page_file says.
use Rattle.std.specs.Prelude.{ℕ, max, Bool, cond, List, ◌++◌, length, ltb}
use Rattle.ledger.specs.declared.Page.{Page}
use Rattle.page_file.specs.File.{Content, line, name_of, mark_of, greatest}
use Rattle.page_file.specs.File as file
use Rattle.page_file.specs.Inner.{form_if}
use Rattle.answer.specs.Bytes.{bytes}
use Rattle.parsing.specs.Digits.{groups}

-- whether form 2 is due
abbrev pub is_long : Page → List ℕ → Bool
is_long page arrived = ltb 65536 (max (greatest page) (length arrived))

abbrev pub decimal : Bool → ℕ → List ℕ
decimal two n = file.decimal (form_if two) n

-- the first lines of a file
abbrev pub form_line : Bool → List ℕ
form_line two = cond two (bytes "form=2␊") (bytes "form=1␊")

abbrev pub page_lines : Bool → Page → List ℕ
page_lines two page =
    line "kind" (name_of page.kind)
    ++ (line "opening" (decimal two page.opening)
    ++ (line "length" (decimal two page.length)
    ++ (line "used" (decimal two page.used)
    ++ (line "done" (decimal two page.done)
    ++ line "saved" (mark_of (form_if two) page.saved)))))

abbrev pub head_of : Bool → Page → List ℕ
head_of two page = form_line two ++ page_lines two page

-- the lists behind them
abbrev pub lists_of : List ℕ → List ℕ → List ℕ → List ℕ
lists_of arrived cells words =
    line "arrived" (groups 2 arrived) ++ (line "text" (groups 8 cells) ++ line "history" (groups 8 words))

abbrev pub content_by : Page → List ℕ → List ℕ → List ℕ → Content
content_by page cells words arrived = record { page = page; arrived = arrived; text = cells; history = words }
