-- The numbers tell the answers apart, and the limit is small. Assumes nothing.
use Prim.Native.Nat.{ℕ, ◌<◌, ◌^◌}
use mathlib.Core.Path.{◌≡◌, refl, sym, ap, ◌∙◌}
use mathlib.Core.Bool.{cond}
use native.Mathlib.Omega.{arith}
use lib.Dec.{eqb, lit<}
use borrow.Author.Tests.{ne_eqb}
use Rattle.answer.specs.Answer.{limit, Verdict, number_of, in_numbers}
use Rattle.answer.specs.declared.Refusal.{Refusal}
use Rattle.answer.specs.declared.Refusal.TheVariants.{HighByte, LoneSign, StrayByte, LeftOverBits, UnknownEscape, EmptyG2, CutShort, NotAscii, NoRoom, Unwritable, BeyondLength, HistoryFull, NothingLeft, Unsound, NotTheText, OverLimit, NeedlessShift, BadPageFile, NoGain, NoSuchBench, BadWord}
use Rattle.answer.specs.Answer.{Answer, refused_at}
use Rattle.std.specs.declared.result.Result.TheVariants.{Ok, Err}

-- the refusal of a number of the table
named : ℕ → Refusal
named k =
    cond (eqb k 1) HighByte
    (cond (eqb k 2) LoneSign
    (cond (eqb k 3) StrayByte
    (cond (eqb k 4) LeftOverBits
    (cond (eqb k 5) UnknownEscape
    (cond (eqb k 6) EmptyG2
    (cond (eqb k 7) CutShort
    (cond (eqb k 8) NotAscii
    (cond (eqb k 9) NoRoom
    (cond (eqb k 10) Unwritable
    (cond (eqb k 11) BeyondLength
    (cond (eqb k 12) HistoryFull
    (cond (eqb k 13) NothingLeft (cond (eqb k 14) Unsound (cond (eqb k 15) NotTheText (cond (eqb k 16) OverLimit (cond (eqb k 17) NeedlessShift (cond (eqb k 18) BadPageFile (cond (eqb k 19) NoGain (cond (eqb k 20) NoSuchBench BadWord)))))))))))))))))))

named-number : (why : Refusal) → named (number_of why) ≡ why
unfolding named
named-number HighByte = refl
named-number LoneSign = refl
named-number StrayByte = refl
named-number LeftOverBits = refl
named-number UnknownEscape = refl
named-number EmptyG2 = refl
named-number CutShort = refl
named-number NotAscii = refl
named-number NoRoom = refl
named-number Unwritable = refl
named-number BeyondLength = refl
named-number HistoryFull = refl
named-number NothingLeft = refl
named-number Unsound = refl
named-number NotTheText = refl
named-number OverLimit = refl
named-number NeedlessShift = refl
named-number BadPageFile = refl
named-number NoGain = refl
named-number NoSuchBench = refl
named-number BadWord = refl

-- no refusal has the number 0
pub number-pos : (why : Refusal) → 0 < number_of why
number-pos HighByte = lit< tt
number-pos LoneSign = lit< tt
number-pos StrayByte = lit< tt
number-pos LeftOverBits = lit< tt
number-pos UnknownEscape = lit< tt
number-pos EmptyG2 = lit< tt
number-pos CutShort = lit< tt
number-pos NotAscii = lit< tt
number-pos NoRoom = lit< tt
number-pos Unwritable = lit< tt
number-pos BeyondLength = lit< tt
number-pos HistoryFull = lit< tt
number-pos NothingLeft = lit< tt
number-pos Unsound = lit< tt
number-pos NotTheText = lit< tt
number-pos OverLimit = lit< tt
number-pos NeedlessShift = lit< tt
number-pos BadPageFile = lit< tt
number-pos NoGain = lit< tt
number-pos NoSuchBench = lit< tt
number-pos BadWord = lit< tt

-- the answer of a number and a place
pub answered : Verdict → Answer
answered v = cond (eqb v.number 0) (Ok v.place) (refused_at (named v.number) v.place)

pub answered-back : (a : Answer) → answered (in_numbers a) ≡ a
unfolding answered
answered-back (Ok count) = refl
answered-back (Err deny) = simp (ne_eqb (number_of deny.0) 0 (λ e. omega (arith, number-pos deny.0)), named-number deny.0)

-- two answers with one number and place are one answer
pub numbers-once : (a b : Answer) → in_numbers a ≡ in_numbers b → a ≡ b
numbers-once a b e = sym (answered-back a) ∙ ap answered e ∙ answered-back b

-- sums of a few multiples of the limit fit every machine word
pub limit-small : limit < 2 ^ 32
unfolding limit
limit-small = lit< tt
