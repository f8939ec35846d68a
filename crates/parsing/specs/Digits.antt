-- Numbers by digits, and lists of them.
use Rattle.std.specs.Prelude.{ℕ, zero, suc, ◌+◌, ◌-◌, ◌*◌, ◌/◌, ◌%◌, ◌^◌, Bool, cond, ◌&&◌, List, [], ◌∷◌, ◌++◌, get_or, ltb, leb, eqb}
use Rattle.answer.specs.Bytes.{bytes}
use Rattle.parsing.specs.Parsing.{found, failed, Parser, done, ◌>>=◌, ◌>>◌, either, literal}

-- "decimal digits", "capital hex digits", in the order of their values
abbrev pub figures : List ℕ
figures = bytes "0123456789ABCDEF"

-- the digit of a value
abbrev pub digit : ℕ → ℕ
digit d = get_or figures d 0

-- where a byte first stands in a list; the length where it does not
abbrev pub place_in : List ℕ → ℕ → ℕ
place_in [] b = 0
place_in (x ∷ xs) b = cond (eqb b x) 0 (suc (place_in xs b))

-- a byte's value as a digit; 16 where it is none
unfoldable pub value_of : ℕ → ℕ
value_of b = place_in figures b

-- the k lowest digits of a number, the highest first
unfoldable pub digits : (base k : ℕ) → ℕ → List ℕ
digits base zero x = []
digits base (suc k) x = digit (x / base ^ k % base) ∷ digits base k x

-- numbers, each by k hex digits, "without spaces"
unfoldable pub groups : ℕ → List ℕ → List ℕ
groups k [] = []
groups k (x ∷ xs) = digits 16 k x ++ groups k xs

-- a digit that passes a test
unfoldable pub digit_where : (ℕ → Bool) → Parser ℕ
digit_where ok [] at = failed at
digit_where ok (b ∷ bs) at = cond (ltb (value_of b) 16 && ok (value_of b)) (found (value_of b) bs (at + 1)) (failed at)

-- k more digits of a number at most the bound, behind those that make v: a digit cannot stand where, with zeros behind
-- it, it exceeds the bound
unfoldable pub number_from : (base bound k : ℕ) → ℕ → Parser ℕ
number_from base bound zero v = done v
number_from base bound (suc k) v = do
  d ← digit_where (λ d. ltb d base && leb ((v * base + d) * base ^ k) bound)
  number_from base bound k (v * base + d)

abbrev pub number : (base k bound : ℕ) → Parser ℕ
number base k bound = number_from base bound k 0

abbrev pub LF : List ℕ
LF = bytes "␊"

-- one number of k hex digits, and those behind it
abbrev pub with_more : ℕ → Parser (List ℕ) → Parser (List ℕ)
with_more k more = do
  x ← number 16 k (16 ^ k - 1)
  xs ← more
  done (x ∷ xs)

abbrev pub line_end : Parser (List ℕ)
line_end = do
  literal LF
  done []

-- to the end of the line, at least and at most so many numbers of k hex digits; `more` waits until it is needed
unfoldable pub list : (k least most : ℕ) → Parser (List ℕ)
list k least zero = line_end
list k zero (suc most) =
    let more : Parser (List ℕ) = list k zero most in
    either line_end (with_more k more)
list k (suc least) (suc most) =
    let more : Parser (List ℕ) = list k least most in
    with_more k more
