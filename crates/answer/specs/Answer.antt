-- Document 01, "Numbers given back": the table's numbers and places, and the limit.
use Rattle.std.specs.Prelude.{ℕ, Ok, Err}
use Rattle.std.specs.declared.result.Result.{Result}
use Rattle.answer.specs.declared.Refusal.{Refusal}
use Rattle.answer.specs.declared.Refusal.TheVariants.{HighByte, LoneSign, StrayByte, LeftOverBits, UnknownEscape, EmptyG2, CutShort, NotAscii, NoRoom, Unwritable, BeyondLength, HistoryFull, NothingLeft, Unsound, NotTheText, OverLimit, NeedlessShift, BadPageFile, NoGain, NoSuchBench, BadWord}
use Rattle.answer.specs.declared.Refused.{Refused}

-- "16, over 65,536" (document 02, order 10: "Raise 65,536 to 1,048,576"): the most elements that may be lent
unfoldable pub limit : ℕ
limit = 1048576

-- a number given back, and the place or count that goes with it
pub record Verdict : Type 0 where
  pub number : ℕ
  pub place : ℕ

abbrev pub numbered : ℕ → ℕ → Verdict
numbered number place = record { number = number; place = place }

-- the table's numbers of the refusals
abbrev pub number_of : Refusal → ℕ
number_of HighByte = 1
number_of LoneSign = 2
number_of StrayByte = 3
number_of LeftOverBits = 4
number_of UnknownEscape = 5
number_of EmptyG2 = 6
number_of CutShort = 7
number_of NotAscii = 8
number_of NoRoom = 9
number_of Unwritable = 10
number_of BeyondLength = 11
number_of HistoryFull = 12
number_of NothingLeft = 13
number_of Unsound = 14
number_of NotTheText = 15
number_of OverLimit = 16
-- document 02, order 1: needless shift
number_of NeedlessShift = 17
-- document 02, order 6: bad page file
number_of BadPageFile = 18
-- document 02, order 8: no gain
number_of NoGain = 19
-- document 02, order 13: no such bench
number_of NoSuchBench = 20
-- document 02, order 14: bad word
number_of BadWord = 21

-- accepted with the count of elements, or refused
abbrev pub Answer : Type 0
Answer = Result ℕ Refused

abbrev pub refused_at : Refusal → ℕ → Answer
refused_at why place = Err (record { 0 = why; 1 = place })

-- the number and the place of every answer: "0, accepted, the count of elements", and the refusals
abbrev pub in_numbers : Answer → Verdict
in_numbers (Ok count) = numbered 0 count
in_numbers (Err refused) = numbered (number_of refused.0) refused.1

-- "16, over 65,536": its place is the limit
abbrev pub too_long : Verdict
too_long = numbered 16 limit
