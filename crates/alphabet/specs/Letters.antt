-- "Set B: letters, digits, +, /, with their RFC 2045 values 0 to 63"; in mailbox names "`,` replaces `/`": an alphabet is given by its last letter.
use Rattle.std.specs.Prelude.{ℕ, ◌+◌, ◌-◌, ◌<◌, ◌≡◌, Bool, cond, ◌&&◌, List, [], ◌∷◌, ◌++◌, get_or, leb, ltb, eqb}
use Rattle.answer.specs.Bytes.{bytes}

-- from one code to another, both included
abbrev pub within : ℕ → ℕ → ℕ → Bool
within a z b = leb a b && leb b z

-- the last letters: UTF-7's '/' and the mailbox names' ','
abbrev pub slash : ℕ
slash = 47

abbrev pub comma : ℕ
comma = 44

-- The rule, from value 0 on: capitals 'A' to 'Z' (65 to 90), small letters 'a' to 'z' (97 to 122), digits '0' to '9' (48 to 57), the two signs: '+' (43) and
-- the last letter. 64 for a byte that is no letter.
unfoldable pub value_of : ℕ → ℕ → ℕ
value_of last b =
    cond (within 65 90 b) (b - 65)
    (cond (within 97 122 b) (b - 97 + 26) (cond (within 48 57 b) (b - 48 + 52) (cond (eqb b 43) 62 (cond (eqb b last) 63 64))))

-- a byte is a letter if it has a value
unfoldable pub set_b : ℕ → ℕ → Bool
set_b last b = ltb (value_of last b) 64

-- the rule turned round: the letter of a value; any number from 63 on has the last
unfoldable pub letter_of : ℕ → ℕ → ℕ
letter_of last x =
    cond (ltb x 26) (x + 65) (cond (ltb x 52) (x - 26 + 97) (cond (ltb x 62) (x - 52 + 48) (cond (eqb x 62) 43 last)))

-- the letters one by one, as RFC 2045's table has them, in the order of their values
abbrev pub alphabet : ℕ → List ℕ
alphabet last = bytes "ABCDEFGHIJKLMNOPQRSTUVWXYZabcdefghijklmnopqrstuvwxyz0123456789+" ++ last ∷ []

-- document 02, order 4, of an alphabet: "a value turned into its letter and back is the same value, and [..] no other byte has one"
pub record ByRule (last : ℕ) : Type 0 where
  -- the rule gives the letters of the table
  pub listed : (x : ℕ) → x < 64 → letter_of last x ≡ get_or (alphabet last) x 0
  -- to the letter and back
  pub letter-and-back : (x : ℕ) → x < 64 → value_of last (letter_of last x) ≡ x
  -- with the law above: a byte has the value x exactly if it is the letter of x
  pub only-letters : (b x : ℕ) → x < 64 → value_of last b ≡ x → b ≡ letter_of last x
  -- a byte that is none of the 64 has no value
  pub no-letter : (b : ℕ) → ((x : ℕ) → x < 64 → get_or (alphabet last) x 0 ≡ b → ⊥) → value_of last b ≡ 64
