-- What the loops over whole texts find in a text, a shift, a pair, stretches of ASCII and of pairs, and what they leave.
use Rattle.std.specs.Prelude.{ℕ, ◌+◌, ◌-◌, ◌*◌, ◌%◌, ◌<◌, ◌≤◌, ◌≡◌, Bool, true, cond, ◌&&◌, not, List, ◌++◌, ◌⊎◌, length, get_or, take, drop, eqb, leb, ltb}
use Rattle.answer.specs.Inner.{Laid}
use Rattle.reading.specs.Reading.{read_from, reading}
use Rattle.reading.specs.Inner.{Left}
use Rattle.reading.specs.Matching.{gave, reads_as}
use Rattle.jp2.specs.Rule.{State, state, plain, graphic, jp2}
use Rattle.jp2.specs.Writable.{ascii}
use Rattle.jp2_whole.specs.declared.quick.Reached.{Reached}

-- behind ESC: N and a byte of the set in G2
pub record Shift (text : List ℕ) (at g2 : ℕ) : Type 0 where
  pub within : at + 2 < length text
  pub letter : get_or text (at + 1) 0 ≡ 78
  pub code : (not (eqb g2 0) && (leb 32 (get_or text (at + 2) 0) && ltb (get_or text (at + 2) 0) 128)) ≡ true

-- two bytes of a pair
pub record Pair (text : List ℕ) (at : ℕ) : Type 0 where
  pub within : at + 1 < length text
  pub codes : (graphic (get_or text at 0) && graphic (get_or text (at + 1) 0)) ≡ true

-- the bytes from a place to another are of a set
pub record Spanned (set : ℕ → Bool) (text : List ℕ) (from to : ℕ) : Type 0 where
  pub ordered : from ≤ to
  pub within : to ≤ length text
  pub each : (i : ℕ) → from ≤ i → i < to → set (get_or text i 0) ≡ true

-- a printing byte
abbrev pub printing : ℕ → Bool
printing b = leb 32 b && ltb b 128

-- 144 marks: 0 for a printing byte
pub record Marked (text : List ℕ) (from : ℕ) (xs : List ℕ) : Type 0 where
  pub so : (k : ℕ) → k < 144 → get_or xs k 0 ≡ cond (printing (get_or text (from + k) 0)) 0 255

-- sixteen cells: those of ASCII for bytes below 128
pub record Printed (text : List ℕ) (at : ℕ) (xs : List ℕ) : Type 0 where
  pub size : length xs ≡ 16
  pub so : (k : ℕ) → k < 16 → get_or xs k 0 ≡ get_or text (at + k) 0 % 128 + 393216

-- codes of ASCII
abbrev pub Plains : List ℕ → ℕ → ℕ → Type 0
Plains = Spanned ascii

-- bytes of whole pairs
pub record Pairs (text : List ℕ) (from to : ℕ) : Type 0 where
  pub codes : Spanned graphic text from to
  pub count : ℕ
  pub size : to ≡ from + count * 2

-- nothing, or codes of ASCII up to a place at most, where that is in G0 and nothing in G2
abbrev pub Stretch : List ℕ → ℕ → ℕ → ℕ → ℕ → ℕ → Type 0
Stretch text from to g0 g2 end = (end ≡ from) ⊎ ((g0 ≡ 6) × ((g2 ≡ 0) × (Plains text from end × (end ≤ to))))

-- from a place, in a state, reading gives some cells and goes on from a later place in a state
pub record Goes (text : List ℕ) (at : ℕ) (st : State) (to : ℕ) (cs : List ℕ) (st' : State) : Type 0 where
  pub within : to ≤ length text
  pub few : at + length cs ≤ to
  pub same :
      read_from jp2 (drop at text) at st
      ≡ record { cells = cs ++ (read_from jp2 (drop to text) to st').cells; ending = (read_from jp2 (drop to text) to st').ending }

-- there is a byte before a place, and as many places for cells as there are bytes
pub record Room (text : List ℕ) (at n to : ℕ) (out : List ℕ) : Type 0 where
  pub byte : at < to
  pub within : to ≤ length text
  pub places : n + (to - at) ≤ length out

-- the cells from a place to another are laid into an output from n on; what lies behind them is free
pub record Laying (text : List ℕ) (at g0 g2 n : ℕ) (out : List ℕ) (to g0' g2' n' : ℕ) (out' : List ℕ) : Type 0 where
  pub cells : List ℕ
  pub goes : Goes text at (state g0 g2 plain) to cells (state g0' g2' plain)
  pub laid : Laid cells n out out'
  pub count : n' ≡ n + length cells
  pub fits : n' ≤ length out'

-- the first n places of a buffer hold the cells so far
pub record Filled (text : List ℕ) (at : ℕ) (st : State) (n : ℕ) (buf : List ℕ) : Type 0 where
  pub left : Left jp2 text at st n
  pub front : take n buf ≡ take n (reading jp2 text).cells

-- where a reader stands after n cells: what is left of the reading is that of what is left of the text
abbrev pub Stands : List ℕ → Reached → Type 0
Stands text r = Left jp2 text r.at (state r.g0 r.g2 plain) r.n

-- the cells that lie between are put
abbrev pub Puts : List ℕ → Reached → List ℕ → Reached → List ℕ → Type 0
Puts text from out r out' = Laying text from.at from.g0 from.g2 from.n out r.at r.g0 r.g2 r.n out'

-- the first elements of a buffer stand in a list from a place on
abbrev pub Same : List ℕ → List ℕ → ℕ → ℕ → Type 0
Same buf cells from count = (k : ℕ) → k < count → get_or cells (from + k) 0 ≡ get_or buf k 0

-- n cells were the same: whether the text reads as the cells is whether its rest does as theirs
pub record Matches (text cells : List ℕ) (at g0 g2 n : ℕ) : Type 0 where
  pub within : at ≤ length text
  pub few : n ≤ at
  pub inside : n ≤ length cells
  pub so : gave (read_from jp2 (drop at text) at (state g0 g2 plain)) (drop n cells) ≡ reads_as jp2 text cells
