-- Document 01, "UTF-7": reading, with document 02, order 3. A run's bits are a list; those that do not yet make a unit are pending.
use Rattle.std.specs.Prelude.{ℕ, Bool, cond, ◌&&◌, List, ◌++◌, length, take, drop, ltb, eqb}
use Rattle.bits.specs.Bits.{bits, number, all_zero}
use Rattle.alphabet.specs.Letters.{value_of, set_b, slash}
use Rattle.reading.specs.Reading.{Does, give, go, bad, Ending, accepted, fault, Rule}
use Rattle.utf7.specs.Sets.{direct}

-- outside a run, directly after its '+', or in it with the pending bits
pub data Shift : Type 0 where
  outside : Shift
  opening : Shift
  run : List Bool → Shift

-- "Outside a run, bytes of D, O, space, tab, CR and LF are themselves."
unfoldable pub outside_does : ℕ → Does Shift
outside_does b = cond (eqb b 43) (go opening) (cond (direct b) (give b outside) (bad 3))

-- "each full 16 bits are a unit"
unfoldable pub unit_does : List Bool → Does Shift
unit_does pending = cond (ltb (length pending) 16) (go (run pending)) (give (number (take 16 pending)) (run (drop 16 pending)))

-- "Bits left over when a run ends must all be zero"; document 02, order 3: "six or more left-over bits are a fault even when all are zero"
unfoldable pub may_end : List Bool → Bool
may_end pending = all_zero pending && ltb (length pending) 6

-- the byte that ends a run which may end or not: "- is then absorbed; another byte is read as outside a run"
unfoldable pub end_does : Bool → ℕ → Does Shift
end_does may b = cond may (cond (eqb b 45) (go outside) (outside_does b)) (bad 4)

-- "A run's letters give six bits each, high bit first"; "+- is 002B. + and a byte of B opens a run."
unfoldable pub low_does : Shift → ℕ → Does Shift
low_does outside b = outside_does b
low_does opening b = cond (set_b slash b) (unit_does (bits 6 (value_of slash b))) (cond (eqb b 45) (give 43 outside) (bad 2))
low_does (run pending) b = cond (set_b slash b) (unit_does (pending ++ bits 6 (value_of slash b))) (end_does (may_end pending) b)

-- "at one byte 1, then 2 or 4, then 3"
unfoldable pub byte_does : Shift → ℕ → Does Shift
byte_does shift b = cond (ltb b 128) (low_does shift b) (bad 1)

-- "The end of the text ends a run too."
unfoldable pub ends_in : ℕ → Shift → Ending
ends_in size outside = accepted
ends_in size opening = fault 2 size
ends_in size (run pending) = cond (may_end pending) accepted (fault 4 size)

abbrev pub utf7 : Rule Shift
utf7 = record { start = outside; byte = byte_does; end = ends_in }
