-- The numbers of a replace, PLACE COUNT CELL.., decimal, decimal and cells in hex, and the one of a squeeze, K,
-- decimal, read by a rule as any text is. Each is at most 4,294,967,295, as a cell is; a word ends at a blank, so that a line's
-- LF ends the last one.
use Rattle.std.specs.Prelude.{ℕ, suc, ◌+◌, ◌-◌, ◌*◌, ◌^◌, cond, ◌&&◌, ltb, leb, eqb}
use Rattle.reading.specs.Reading.{Does, give, go, bad, Ending, accepted, fault, Rule}
use Rattle.answer.specs.Answer.{number_of}
use Rattle.commands.specs.Lines.{blank}
use Rattle.commands.specs.declared.numbers.State.{State}
use Rattle.commands.specs.declared.numbers.State.TheVariants.{Gap, Word}
use Rattle.commands.specs.declared.numbers.Move.{Move}
use Rattle.commands.specs.declared.numbers.Move.TheVariants.{Give, Go, Bad}

-- a digit's value: 0 to 9, A to F or a to f; 16 where the byte is none
unfoldable pub digit_value : ℕ → ℕ
digit_value b =
    cond (leb 48 b && leb b 57) (b - 48) (cond (leb 65 b && leb b 70) (b - 55) (cond (leb 97 b && leb b 102) (b - 87) 16))

-- the first two numbers are decimal, the others hex; `seen` counts the numbers before this one, up to two
abbrev pub base : ℕ → ℕ
base seen = cond (ltb seen 2) 10 16

abbrev pub following : ℕ → ℕ
following seen = cond (ltb seen 2) (seen + 1) 2

-- a digit more; 3 for a byte that is none and for a number that is too large
unfoldable pub raised : ℕ → ℕ → ℕ → Does State
raised seen v d =
    cond (ltb d (base seen)) (cond (ltb (v * base seen + d) (2 ^ 32)) (go (Word seen (v * base seen + d))) (bad 3)) (bad 3)

unfoldable pub byte_does : State → ℕ → Does State
byte_does (Gap seen) b = cond (blank b) (go (Gap seen)) (raised seen 0 (digit_value b))
byte_does (Word seen v) b = cond (blank b) (give v (Gap (following seen))) (raised seen v (digit_value b))

-- 7 where the text ends in a number, or with more or fewer of them than are asked for: 1, or 2 for two or more
unfoldable pub ends_in : ℕ → ℕ → State → Ending
ends_in asked size (Gap seen) = cond (eqb seen asked) accepted (fault 7 size)
ends_in asked size (Word seen v) = fault 7 size

abbrev pub numbers : ℕ → Rule State
numbers asked = record { start = Gap 0; byte = byte_does; end = ends_in asked }

-- the code's move as what a byte does
abbrev pub does_of : Move → Does State
does_of (Give v st) = give v st
does_of (Go st) = go st
does_of (Bad why) = bad (number_of why)
