-- What the parts of the plain reader find, as their contracts say it: no promise to a caller rests on these.
use Rattle.std.specs.Prelude.{ℕ, ◌+◌, ◌<◌, ◌≤◌, ◌≡◌, Bool, true, cond, ◌&&◌, ◌||◌, List, [], ◌++◌, length, get_or, drop, ltb, eqb}
use Rattle.answer.specs.Answer.{number_of}
use Rattle.reading.specs.Reading.{fault, Reading, push, read_from}
use Rattle.jp2.specs.Rule.{plain, state, jp2}
use Rattle.jp2.specs.Writable.{pair_set}
use Rattle.jp2_plain.specs.declared.Item.{Item}
use Rattle.jp2_plain.specs.declared.Item.TheVariants.{ToSingles, ToPairs, ToG2, Cell, Fault}

-- the sets of single bytes
abbrev pub single : ℕ → Bool
single set = eqb set 6 || eqb set 14

-- the byte at a place, or 255 behind the text
abbrev pub byte_at : List ℕ → ℕ → ℕ
byte_at text at = get_or text at 255

-- bytes that stand at a place
pub record Stands (text : List ℕ) (at : ℕ) (s : List ℕ) : Type 0 where
  pub within : at + length s ≤ length text
  pub so : drop at text ≡ s ++ drop (at + length s) text

-- 7 where the text ends at a place, 1 for a byte of 128 or more, else another fault
abbrev pub fault_at : List ℕ → ℕ → ℕ → ℕ
fault_at text at other = cond (ltb at (length text)) (cond (ltb (byte_at text at) 128) other 1) 7

-- G2 behind a single byte, by the byte that follows
abbrev pub g2_after : ℕ → ℕ → ℕ → ℕ
g2_after g2 b next = cond (eqb b 13 && eqb next 10) 0 g2

-- the reading of what stands from a place on, between cells, with these sets in G0 and G2
abbrev pub read_at : List ℕ → ℕ → ℕ → ℕ → Reading
read_at text at g0 g2 = read_from jp2 (drop at text) at (state g0 g2 plain)

-- "the remaining text shorter each time"
pub record Shorter (text : List ℕ) (at next : ℕ) : Type 0 where
  pub past : at < next
  pub within : next ≤ length text

-- an item at a place: where reading goes on from there, and how
abbrev pub Finds : List ℕ → ℕ → ℕ → ℕ → Item → Type 0
Finds text at g0 g2 (ToSingles set next) =
    Shorter text at next × (single set ≡ true) × (read_at text at g0 g2 ≡ read_at text next set g2)
Finds text at g0 g2 (ToPairs set next) =
    Shorter text at next × (pair_set set ≡ true) × (read_at text at g0 g2 ≡ read_at text next set g2)
Finds text at g0 g2 (ToG2 set next) = Shorter text at next × (read_at text at g0 g2 ≡ read_at text next g0 set)
Finds text at g0 g2 (Cell value next left) =
    Shorter text at next × (read_at text at g0 g2 ≡ push value (read_at text next g0 left))
Finds text at g0 g2 (Fault why place) =
    read_at text at g0 g2 ≡ record { cells = []; ending = fault (number_of why) place }
