-- Document 02, order 14: units in "RFC 2047 words, `=?utf-7?Q?` to `?=`, at most 75 characters each, joined by CRLF
-- and a space".
use Rattle.std.specs.Prelude.{ℕ, zero, suc, ◌-◌, Bool, cond, not, ◌&&◌, List, [], ◌∷◌, ◌++◌, map, length, get_or, take, drop, leb, eqb}
use Prim.Native.String.{String}
use Rattle.answer.specs.Bytes.{bytes}
use Rattle.answer.specs.Output.{Outcome, written}
use Rattle.alphabet.specs.Letters.{within}
use Rattle.utf7.specs.Sets.{member}
use Rattle.utf7.specs.Writing.{writing, first_over}
use Rattle.utf7.specs.declared.Style.TheVariants.{Header}
use Rattle.parsing.specs.Digits.{digits}

-- a byte by its character
abbrev pub char : String → ℕ
char c = get_or (bytes c) 0 0

-- "other bytes 33 to 126 as themselves": other than `=`, `?` and `_`
unfoldable pub itself : ℕ → Bool
itself b = within 33 126 b && not (member (bytes "=?_") b)

-- "`_` for space and `=` with two capital hex digits for other controls, `=`, `?` and `_`"
unfoldable pub spelled : ℕ → List ℕ
spelled b = cond (eqb b (char " ")) (bytes "_") (cond (itself b) (b ∷ []) (bytes "=" ++ digits 16 2 b))

unfoldable pub q_text : List ℕ → List ℕ
q_text [] = []
q_text (b ∷ bs) = spelled b ++ q_text bs

abbrev pub word_start : List ℕ
word_start = bytes "=?utf-7?Q?"

abbrev pub word_end : List ℕ
word_end = bytes "?="

-- "CRLF and a space"
abbrev pub joint : List ℕ
joint = bytes "␍␊ "

-- "its UTF-7 is complete in itself", of the "header style writer"
unfoldable pub word_of : List ℕ → List ℕ
word_of units = word_start ++ (q_text (writing Header units) ++ word_end)

-- "at most 75 characters each"
unfoldable pub fits : List ℕ → Bool
fits units = leb (length (word_of units)) 75

abbrev pub is_high : ℕ → Bool
is_high u = within 0xD800 0xDBFF u

abbrev pub is_low : ℕ → Bool
is_low u = within 0xDC00 0xDFFF u

-- whether the first n units end between "a high surrogate directly before a low one"
abbrev pub parts : List ℕ → ℕ → Bool
parts units n = is_high (get_or units (n - 1) 0) && is_low (get_or units n 0)

-- whether a word may take the first n units
abbrev pub may_take : List ℕ → ℕ → Bool
may_take units n = fits (take n units) && not (parts units n)

-- the greatest number up to n that passes a test, or 0
unfoldable pub greatest : (ℕ → Bool) → ℕ → ℕ
greatest test zero = 0
greatest test (suc n) = cond (test (suc n)) (suc n) (greatest test n)

-- "Each word takes as many units as fit, but a high surrogate directly before a low one shares its word"
unfoldable pub share_of : List ℕ → ℕ
share_of units = greatest (may_take units) (length units)

-- the units of each word; there are no more words than units
unfoldable pub shares : ℕ → List ℕ → List (List ℕ)
shares zero units = []
shares (suc n) [] = []
shares (suc n) (u ∷ us) = take (share_of (u ∷ us)) (u ∷ us) ∷ shares n (drop (share_of (u ∷ us)) (u ∷ us))

unfoldable pub joined : List (List ℕ) → List ℕ
joined [] = []
joined (w ∷ []) = w
joined (w ∷ v ∷ ws) = w ++ (joint ++ joined (v ∷ ws))

-- "No units give an empty line."
unfoldable pub line_of : List ℕ → List ℕ
line_of units = joined (map word_of (shares (length units) units))

-- "writing gives 16, 10, 9"
unfoldable pub write_into : List ℕ → List ℕ → Outcome
write_into units out = written units (first_over units) (line_of units) out
