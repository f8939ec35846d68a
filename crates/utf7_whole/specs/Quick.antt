-- What the loops over whole texts find in a text: bytes of one set side by side, and runs.
use Rattle.std.specs.Prelude.{ℕ, zero, suc, ◌+◌, ◌-◌, ◌*◌, ◌/◌, ◌%◌, ◌<◌, ◌≤◌, ◌≡◌, Bool, true, false, cond, List, [], ◌∷◌, ◌++◌, map, length, get_or, take, drop, eqb}
use Rattle.std.proofs.Math.Seq.{slice}
use Rattle.answer.specs.Inner.{Laid}
use Rattle.bits.specs.Bits.{bits_of, full, left_over}
use Rattle.alphabet.specs.Letters.{value_of, set_b}
use Rattle.reading.specs.Reading.{Rule, read_from, reading}
use Rattle.reading.specs.Inner.{Left}
use Rattle.reading.specs.Matching.{gave, reads_as}
use Rattle.utf7.specs.Sets.{direct}
use Rattle.utf7.specs.Rule.{Shift, outside, may_end, utf7}

-- a text with zeros behind it, or none
pub record Padded (s room : List ℕ) : Type 0 where
  pub same : (i : ℕ) → get_or room i 0 ≡ get_or s i 0

-- the first n places of a buffer hold the cells so far
pub record FilledBy {S : Type 0} (rule : Rule S) (s : List ℕ) (at : ℕ) (st : S) (n : ℕ) (buf : List ℕ) : Type 0 where
  pub left : Left rule s at st n
  pub front : take n buf ≡ take n (reading rule s).cells

abbrev pub Filled : List ℕ → ℕ → Shift → ℕ → List ℕ → Type 0
Filled s at st n buf = FilledBy utf7 s at st n buf

-- a buffer that holds the cells up to a place holds those up to a later one then
pub record Fills (room : List ℕ) (from start : ℕ) (out : List ℕ) (at n : ℕ) (out' : List ℕ) : Type 0 where
  pub same : length out' ≡ length out
  pub on : from ≤ at
  pub fills : (s : List ℕ) → Padded s room → Filled s from outside start out → Filled s at outside n out'

-- the bytes from one place to another are all of a set
pub record Span (set : ℕ → Bool) (s : List ℕ) (from to : ℕ) : Type 0 where
  pub ordered : from ≤ to
  pub within : to ≤ length s
  pub each : (i : ℕ) → from ≤ i → i < to → set (get_or s i 0) ≡ true

-- how far a test holds in a block of 32: at every place before m that was looked at, of the first k, and not at m
pub record Ahead (test : ℕ → Bool) (k m : ℕ) : Type 0 where
  pub upto : m ≤ 32
  pub each : (j : ℕ) → j < k → j < m → test j ≡ true
  pub over : m < 32 → test m ≡ false

-- letters of an alphabet, which is given by its last, up to a place that has none, or the text's end
pub record Letters (last : ℕ) (s : List ℕ) (from to : ℕ) : Type 0 where
  pub letters : Span (set_b last) s from to
  pub over : set_b last (get_or s to 0) ≡ false

-- the bits of letters, and the units in them
abbrev pub bits_in : ℕ → List ℕ → ℕ → ℕ → List Bool
bits_in last s from to = bits_of 6 (map (value_of last) (slice from to s))

abbrev pub units_between : ℕ → List ℕ → ℕ → ℕ → List ℕ
units_between last s from to = full 16 (bits_in last s from to)

-- letters that another byte ends, or the text's end, and that may end
pub record Run (last : ℕ) (s : List ℕ) (from to : ℕ) : Type 0 where
  pub some : from < to
  pub letters : Span (set_b last) s from to
  pub over : set_b last (get_or s to 0) ≡ false
  pub ends : may_end (left_over 16 (bits_in last s from to)) ≡ true

-- the place behind a run: "- is then absorbed"
abbrev pub past : List ℕ → ℕ → ℕ
past s to = cond (eqb (get_or s to 0) 45) (to + 1) to

-- 32 numbers: the values of the bytes from a place on
pub record Values (last : ℕ) (s : List ℕ) (at : ℕ) (xs : List ℕ) : Type 0 where
  pub so : (k : ℕ) → k < 32 → get_or xs k 0 ≡ value_of last (get_or s (at + k) 0)

-- 144 marks: 0 for a byte that stands for itself
pub record Marked (s : List ℕ) (from : ℕ) (xs : List ℕ) : Type 0 where
  pub so : (k : ℕ) → k < 144 → get_or xs k 0 ≡ cond (direct (get_or s (from + k) 0)) 0 255

-- three letters that may end a run, and '-': one unit
pub record One (last : ℕ) (s : List ℕ) (from unit : ℕ) : Type 0 where
  pub first : set_b last (get_or s from 0) ≡ true
  pub second : set_b last (get_or s (from + 1) 0) ≡ true
  pub third : set_b last (get_or s (from + 2) 0) ≡ true
  pub ends : value_of last (get_or s (from + 2) 0) % 4 ≡ 0
  pub over : get_or s (from + 3) 0 ≡ 45
  pub so :
      unit
      ≡ (value_of last (get_or s from 0) * 64 + value_of last (get_or s (from + 1) 0)) * 16 + value_of last (get_or s (from + 2) 0) / 4

-- the units that eight values hold, and those of so many eights
abbrev pub first_of : (ℕ → ℕ) → ℕ
first_of x = (x 0 * 64 + x 1) * 16 + x 2 / 4

abbrev pub second_of : (ℕ → ℕ) → ℕ
second_of x = ((x 2 % 4 * 64 + x 3) * 64 + x 4) * 4 + x 5 / 16

abbrev pub third_of : (ℕ → ℕ) → ℕ
third_of x = (x 5 % 16 * 64 + x 6) * 64 + x 7

abbrev pub three_of : (ℕ → ℕ) → List ℕ
three_of x = first_of x ∷ second_of x ∷ third_of x ∷ []

abbrev pub units_of : ℕ → (ℕ → ℕ) → List ℕ
units_of zero x = []
units_of (suc m) x = three_of x ++ units_of m (λ k. x (8 + k))

-- a value that is a letter's, or something else that is low
abbrev pub lows : List ℕ → ℕ → ℕ
lows xs k = get_or xs k 0 % 64

-- so many letters may end, the last of which has the value v: by how many stand behind the last eight, and by it
abbrev pub closes : ℕ → ℕ → Bool
closes letters v =
    cond (eqb (letters % 8) 0) true
    (cond (eqb (letters % 8) 3) (eqb (v % 4) 0) (cond (eqb (letters % 8) 6) (eqb (v % 16) 0) false))

-- and c of 32 values, which follow eights
abbrev pub stops : List ℕ → ℕ → Bool
stops xs c = closes c (get_or xs (c - 1) 0)

-- a run was read, unless the place is still that of its first letter: it may end there, and its units are laid
pub record Went (last : ℕ) (s : List ℕ) (from start : ℕ) (out out' : List ℕ) (at n : ℕ) : Type 0 where
  pub kept : Laid [] start out out'
  pub run : (at ≡ from → ⊥) → Run last s from at
  pub laid : (at ≡ from → ⊥) → Laid (units_between last s from at) start out out'
  pub count : (at ≡ from → ⊥) → n ≡ start + length (units_between last s from at)

-- letters from a place on end a run there, unless the end is still its start, and their units are laid
pub record Last (last : ℕ) (s : List ℕ) (from at n : ℕ) (out out' : List ℕ) (end m : ℕ) : Type 0 where
  pub kept : Laid [] n out out'
  pub letters : (end ≡ from → ⊥) → Letters last s at end
  pub closed : (end ≡ from → ⊥) → closes (end - at) (value_of last (get_or s (end - 1) 0)) ≡ true
  pub laid : (end ≡ from → ⊥) → Laid (units_between last s at end) n out out'
  pub count : (end ≡ from → ⊥) → m ≡ n + (end - at) * 6 / 16

-- the first n cells of a text are those of a list: whether it reads as the list is whether its rest does as the list's
pub record Agrees (s cells : List ℕ) (at n : ℕ) : Type 0 where
  pub within : at ≤ length s
  pub few : n ≤ at
  pub inside : n ≤ length cells
  pub so : gave (read_from utf7 (drop at s) at outside) (drop n cells) ≡ reads_as utf7 s cells
