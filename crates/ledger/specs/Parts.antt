-- Soundness in two parts, the records before done and those after it, and a mark that may cut either: what the code
-- computes. proofs/Parts.antt: it is the documents'.
use Rattle.std.specs.Prelude.{ℕ, ◌-◌, Bool, true, cond, ◌&&◌, List, map, reverse, length, take, drop, leb, ltb, eqb}
use Rattle.std.specs.Prelude.{None, Some}
use Rattle.std.specs.Prelude.{Option}
use Rattle.editor.specs.Marks.{Mark}
use Rattle.editor.specs.Records.{step_of, ends_at}
use Rattle.ledger.specs.Words.{Entry, Parted, in_words, records_in, reached, lengths_fit}
use Rattle.ledger.specs.Page.{State, framed}

-- both tile their words: the first fit from the opening length and reach the page's, the second fit from there
unfoldable pub joined : State → Option (List Entry) → Option (List Entry) → Option Parted
joined s None fs = None
joined s (Some es) None = None
joined s (Some es) (Some fs) =
    cond
    (lengths_fit (length s.text) s.page.opening es
    && eqb (reached s.page.opening es) s.page.length
    && lengths_fit (length s.text) s.page.length fs)
    (Some (record { standing = reverse es; undone = fs }))
    None

-- the mark is of the words used
abbrev pub mark_within : ℕ → Mark → Bool
mark_within used None = true
mark_within used (Some n) = leb n used

-- the word at which a mark cuts those from one to another: its own if it is among them, else the first, which cuts none
abbrev pub cut_in : Mark → ℕ → ℕ → ℕ
cut_in None from to = from
cut_in (Some n) from to = cond (ltb n from) from (cond (ltb to n) from n)

-- records of which so many words are an end
abbrev pub ends : List Entry → ℕ → Bool
ends es n = ends_at in_words (map step_of es) n

abbrev pub ending_at : ℕ → Option (List Entry) → Option (List Entry)
ending_at n None = None
ending_at n (Some es) = cond (ends es n) (Some es) None

-- the tests before the records are looked at
abbrev pub bounded : State → Bool
bounded s = framed s && leb s.page.done s.page.used && mark_within s.page.used s.page.saved

abbrev pub standing_in : State → Option (List Entry)
standing_in s =
    ending_at (cut_in s.page.saved 0 s.page.done) (records_in s.page.done (take s.page.done s.history))

abbrev pub undone_in : State → Option (List Entry)
undone_in s =
    ending_at (cut_in s.page.saved s.page.done s.page.used - s.page.done)
    (records_in (s.page.used - s.page.done) (take (s.page.used - s.page.done) (drop s.page.done s.history)))

unfoldable pub records_twice : State → Option Parted
records_twice s = cond (bounded s) (joined s (standing_in s) (undone_in s)) None
