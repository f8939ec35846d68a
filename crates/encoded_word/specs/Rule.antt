-- Document 02, order 14: "Reading takes any line of such non-empty words, however units are shared among them, `=`
-- pairs for any byte at all too, each word read by itself".
use Rattle.std.specs.Prelude.{ℕ, ◌+◌, ◌-◌, ◌*◌, cond, List, [], ◌∷◌, ltb, leb, eqb}
use Rattle.answer.specs.Bytes.{bytes}
use Rattle.reading.specs.Reading.{Does, give, go, bad, Ending, accepted, fault, Rule}
use Rattle.utf7.specs.Rule.{Shift, utf7}
use Rattle.parsing.specs.Digits.{value_of}
use Rattle.encoded_word.specs.Writing.{char, itself}

-- where in a line a byte stands; in a word with the state of the reader of its text
pub data Part (S : Type 0) : Type 0 where
  -- before the first word, where the line may end
  start : Part S
  -- before a word's text: the bytes due of CR, LF, space and `=?utf-7?Q?`
  head : List ℕ → Part S
  -- in its Q text, after so many characters
  text : ℕ → S → Part S
  -- in an `=` pair, behind its `=` and behind its first digit: the characters with it, and the digit's value
  equals : ℕ → S → Part S
  half : ℕ → ℕ → S → Part S
  -- behind the `?` of a word's end, and behind the word
  tail : Part S
  behind : Part S
  -- behind a fault of the words' text: its number, and how many bytes before this place it stands
  faulty : ℕ → ℕ → Part S

-- 75 characters less those of `=?utf-7?Q?` and `?=`
abbrev pub most : ℕ
most = 63

module _ {S : Type 0} where
  -- a byte of the text, spelled by the n characters up to this one, and what the reader's own number then does
  abbrev pub fed : ℕ → (ℕ → Does (Part S)) → Does S → Does (Part S)
  fed n own (give v st) = give v (text n st)
  fed n own (go st) = go (text n st)
  fed n own (bad k) = own k

  -- "for an `=` pair its `=`": the last of its three bytes is the one in hand
  abbrev pub at_equals : ℕ → Does (Part S)
  at_equals k = go (faulty k 3)

  -- the end of a word's text: "for a word's end its `?`"
  abbrev pub ended : Ending → Does (Part S)
  ended accepted = go tail
  ended (fault k place) = bad k

  -- "21 (bad word, at the first byte no such line can have there [..])"
  abbrev pub due_does : ℕ → ℕ → Part S → Does (Part S)
  due_does x b next = cond (eqb b x) (go next) (bad 21)

-- "a layer above the UTF-7 reader": over any reader of the words' text
module _ {S : Type 0} (inner : Rule S) where
  -- "non-empty words"; "21 first at one byte"
  unfoldable pub text_does : ℕ → S → ℕ → Does (Part S)
  text_does n st b =
      cond (eqb b (char "?")) (cond (eqb n 0) (bad 21) (ended (inner.end 0 st)))
      (cond (eqb b (char "=")) (cond (leb (n + 3) most) (go (equals (n + 3) st)) (bad 21))
      (cond (leb (n + 1) most)
      (cond (eqb b (char "_")) (fed (n + 1) bad (inner.byte st (char " ")))
      (cond (itself b) (fed (n + 1) bad (inner.byte st b)) (bad 21)))
      (bad 21)))

  unfoldable pub part_does : Part S → ℕ → Does (Part S)
  part_does start b = due_does (char "=") b (head (bytes "?utf-7?Q?"))
  part_does (head []) b = bad 21
  part_does (head (x ∷ [])) b = due_does x b (text 0 inner.start)
  part_does (head (x ∷ y ∷ xs)) b = due_does x b (head (y ∷ xs))
  part_does (text n st) b = text_does n st b
  part_does (equals n st) b = cond (ltb (value_of b) 16) (go (half n (value_of b) st)) (bad 21)
  part_does (half n d st) b = cond (ltb (value_of b) 16) (fed n at_equals (inner.byte st (16 * d + value_of b))) (bad 21)
  part_does tail b = due_does (char "=") b behind
  part_does behind b = due_does (char "␍") b (head (bytes "␊ =?utf-7?Q?"))
  part_does (faulty k back) b = go (faulty k (back + 1))

-- "or the length"; "No units give an empty line."
unfoldable pub ends_in : {S : Type 0} → ℕ → Part S → Ending
ends_in size start = accepted
ends_in size (head xs) = fault 21 size
ends_in size (text n st) = fault 21 size
ends_in size (equals n st) = fault 21 size
ends_in size (half n d st) = fault 21 size
ends_in size tail = fault 21 size
ends_in size behind = accepted
ends_in size (faulty k back) = fault k (size - back)

abbrev pub line_rule : {S : Type 0} → Rule S → Rule (Part S)
line_rule inner = record { start = start; byte = part_does inner; end = ends_in }

abbrev pub subject : Rule (Part Shift)
subject = line_rule utf7

-- a reader that takes any text: with it a line is judged by its words alone, and "such a line" is one that it accepts
abbrev pub any_text : Rule Unit
any_text = record { start = tt; byte = λ st b. give b tt; end = λ size st. accepted }
