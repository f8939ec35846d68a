-- 21's place in a subject line. Assumes nothing.
use Prim.Native.Nat.{ℕ, ◌<◌}
use mathlib.Core.Path.{◌≡◌}
use mathlib.Core.Bool.{Bool, cond}
use mathlib.Core.List.{List, ◌++◌}
use lib.ListN.{length}
use lib.Dec.{ltb, eqb, lit<}
use Rattle.answer.proofs.Below.{cond-case}
use Rattle.bits.specs.Bits.{bits}
use Rattle.alphabet.specs.Letters.{value_of, set_b, slash}
use Rattle.reading.specs.Reading.{Does, Ending, accepted, fault, reading}
use Rattle.utf7.specs.Sets.{direct}
use Rattle.utf7.specs.Rule.{Shift, outside, opening, run, outside_does, unit_does, may_end, end_does, low_does, byte_does}
use Rattle.utf7.specs.Rule.{utf7}
use Rattle.utf7.specs.Rule.{ends_in as utf7-ends_in}
use Rattle.parsing.specs.Parsing.{FirstFault}
use Rattle.encoded_word.specs.Rule.{line_rule, subject, any_text}
use Rattle.encoded_word.proofs.Places.{Below21, EndBelow21, first-21}

abbrev Low : Does Shift → Type 0
Low = Below21 utf7

outside_low : (b : ℕ) → Low (outside_does b)
unfolding outside_does
outside_low b = cond-case Low (eqb b 43) (λ _. tt) (λ _. cond-case Low (direct b) (λ _. tt) (λ _. lit< tt))

unit-low : (pending : List Bool) → Low (unit_does pending)
unfolding unit_does
unit-low pending = cond-case Low (ltb (length pending) 16) (λ _. tt) (λ _. tt)

end_low : (may : Bool) (b : ℕ) → Low (end_does may b)
unfolding end_does
end_low may b = cond-case Low may (λ _. cond-case Low (eqb b 45) (λ _. tt) (λ _. outside_low b)) (λ _. lit< tt)

low-low : (st : Shift) (b : ℕ) → Low (low_does st b)
unfolding low_does
low-low outside b = outside_low b
low-low opening b =
    cond-case Low (set_b slash b) (λ _. unit-low (bits 6 (value_of slash b)))
    (λ _. cond-case Low (eqb b 45) (λ _. tt) (λ _. lit< tt))
low-low (run pending) b =
    cond-case Low (set_b slash b) (λ _. unit-low (pending ++ bits 6 (value_of slash b))) (λ _. end_low (may_end pending) b)

byte_low : (st : Shift) (b : ℕ) → Low (byte_does st b)
unfolding byte_does
byte_low st b = cond-case Low (ltb b 128) (λ _. low-low st b) (λ _. lit< tt)

ends_low : (st : Shift) → EndBelow21 utf7 (utf7-ends_in 0 st)
unfolding utf7-ends_in
ends_low outside = tt
ends_low opening = lit< tt
ends_low (run pending) = cond-case (EndBelow21 utf7) (may_end pending) (λ _. tt) (λ _. lit< tt)

-- "21 (bad word, at the first byte no such line can have there, or the length)"
pub place-21 :
    (line : List ℕ) (place : ℕ) → (reading subject line).ending ≡ fault 21 place →
    FirstFault (λ (_ : Unit {0}) l. (reading (line_rule any_text) l).ending ≡ accepted) line place
place-21 = first-21 utf7 byte_low ends_low
