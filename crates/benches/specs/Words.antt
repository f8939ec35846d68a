-- Document 02, order 13: two benches, and the words that their records are in one history.
use Rattle.std.specs.Prelude.{ℕ, zero, suc, ◌+◌, Bool, true, false, cond, List, [], ◌∷◌, ◌++◌, length, take, drop, leb}
use Rattle.std.specs.Prelude.{Option, None, Some}
use Rattle.editor.specs.Ledger.{Step}
use Rattle.editor.specs.Records.{Entry}
use Rattle.ledger.specs.Words as page

-- "bench 0 or 1"
pub data Side : Type 0 where
  first second : Side

abbrev pub number_of : Side → ℕ
number_of first = 0
number_of second = 1

abbrev pub side_of : ℕ → Option Side
side_of zero = Some first
side_of (suc zero) = Some second
side_of (suc (suc n)) = None

abbrev pub same : Side → Side → Bool
same first first = true
same first second = false
same second first = false
same second second = true

-- what there is of each bench
pub record Both (A : Type 0) : Type 0 where
  pub bench0 : A
  pub bench1 : A

abbrev pub at : {A : Type 0} → Both A → Side → A
at p first = p.bench0
at p second = p.bench1

abbrev pub put : {A : Type 0} → Both A → Side → A → Both A
put p first a = record { bench0 = a; bench1 = p.bench1 }
put p second a = record { bench0 = p.bench0; bench1 = a }

pub record Record : Type 0 where
  pub bench : Side
  pub entry : Entry

-- "A record gains a first word, bench 0 or 1"
abbrev pub words_of : Record → List ℕ
words_of r = number_of r.bench ∷ page.words_of r.entry

-- "and needs four words besides its cells"
abbrev pub size_of : Entry → ℕ
size_of e = 4 + length e.removed + length e.added

-- how many words records are
abbrev pub sizes : List Entry → ℕ
sizes [] = 0
sizes (e ∷ es) = size_of e + sizes es

-- the words of records, one after another
abbrev pub words : List Record → List ℕ
words [] = []
words (r ∷ rs) = words_of r ++ words rs

-- "every first word 0 or 1"
abbrev pub onto : Option Side → Entry → Option (List Record) → Option (List Record)
onto None e rs = None
onto (Some s) e None = None
onto (Some s) e (Some rs) = Some (record { bench = s; entry = e } ∷ rs)

-- the records that tile a list of words, or none; the number bounds how many there are
unfoldable pub records_in : ℕ → List ℕ → Option (List Record)
records_in zero [] = Some []
records_in zero (b ∷ ws) = None
records_in (suc n) [] = Some []
records_in (suc n) (b ∷ []) = None
records_in (suc n) (b ∷ p ∷ []) = None
records_in (suc n) (b ∷ p ∷ r ∷ []) = None
records_in (suc n) (b ∷ p ∷ r ∷ a ∷ ws) =
    cond (leb (r + a) (length ws))
    (onto (side_of b) (record { place = p; removed = take r ws; added = take a (drop r ws) })
    (records_in n (drop (r + a) ws)))
    None

-- a bench's own records, in order
unfoldable pub own : Side → List Record → List Entry
own s [] = []
own s (r ∷ rs) = cond (same s r.bench) (r.entry ∷ own s rs) (own s rs)

-- "dropping a bench's undone steps closes the gap at once": of its own records the first so many stay
unfoldable pub kept : Side → ℕ → List Record → List Record
kept s n [] = []
kept s zero (r ∷ rs) = cond (same s r.bench) (kept s zero rs) (r ∷ kept s zero rs)
kept s (suc n) (r ∷ rs) = cond (same s r.bench) (r ∷ kept s n rs) (r ∷ kept s (suc n) rs)

-- "order 5's rules with standing steps in place of words done": a step counts for one
abbrev pub in_steps : Step → ℕ
in_steps s = 1
