-- The rule of UTF-7 keeps its pending bits fewer than sixteen, and gives units. Assumes nothing.
use Prim.Native.Nat.{ℕ, ◌<◌}
use mathlib.Core.Path.{◌≡◌}
use mathlib.Core.Bool.{Bool}
use mathlib.Core.List.{List, ◌++◌}
use native.Mathlib.Omega.{arith}
use lib.ListN.{length, take, length-append, length-drop}
use lib.Seq.{length-take-le}
use lib.Dec.{ltb, eqb, lit<}
use borrow.Author.Tests.{ltb-true, ltb-false}
use Rattle.answer.specs.Lists.{Each}
use Rattle.answer.proofs.Below.{cond-case}
use Rattle.bits.specs.Bits.{bits}
use Rattle.bits.proofs.Bits.{length-bits, number_lt}
use Rattle.alphabet.specs.Letters.{value_of, set_b, slash}
use Rattle.reading.specs.Reading.{Does, reading}
use Rattle.reading.proofs.Laws.{Kept, SoundDoes, SoundEnd, good-reading}
use Rattle.utf7.specs.Sets.{direct}
use Rattle.utf7.specs.Rule.{Shift, outside, opening, run, utf7, outside_does, unit_does, may_end, end_does, low_does, byte_does, ends_in}
use Rattle.utf7.specs.Writing.{IsUnit}
use Rattle.utf7.proofs.Sets.{direct-byte}

-- the pending bits make no unit
abbrev pub SoundShift : Shift → Type 0
SoundShift outside = Unit
SoundShift opening = Unit
SoundShift (run pending) = length pending < 16

abbrev Sound : Does Shift → Type 0
Sound = SoundDoes SoundShift IsUnit

outside_kept : (b : ℕ) → Sound (outside_does b)
unfolding outside_does
outside_kept b =
    cond-case Sound (eqb b 43) (λ _. tt)
    (λ _. cond-case Sound (direct b) (λ t. (omega (arith, direct-byte b t), tt)) (λ _. lit< tt))

unit_kept : (pending : List Bool) → length pending < 32 → Sound (unit_does pending)
unfolding unit_does
unit_kept pending h =
    cond-case Sound (ltb (length pending) 16) (λ t. ltb-true (length pending) 16 t)
    (λ t.
    let l : length (take 16 pending) ≡ 16 = length-take-le 16 pending (ltb-false (length pending) 16 t) in
    (rw l at (number_lt (take 16 pending)), simp length-drop (omega arith)))

end_kept : (may : Bool) (b : ℕ) → Sound (end_does may b)
unfolding end_does
end_kept may b =
    cond-case Sound may (λ _. cond-case Sound (eqb b 45) (λ _. tt) (λ _. outside_kept b)) (λ _. lit< tt)

low-kept : (shift : Shift) (b : ℕ) → SoundShift shift → Sound (low_does shift b)
unfolding low_does
low-kept outside b h = outside_kept b
low-kept opening b h =
    cond-case Sound (set_b slash b) (λ _. unit_kept (bits 6 (value_of slash b)) (omega (arith, length-bits 6 (value_of slash b))))
    (λ _. cond-case Sound (eqb b 45) (λ _. (lit< tt, tt)) (λ _. lit< tt))
low-kept (run pending) b h =
    cond-case Sound (set_b slash b)
    (λ _. unit_kept (pending ++ bits 6 (value_of slash b)) (simp (length-append, length-bits) (omega arith)))
    (λ _. end_kept (may_end pending) b)

byte-kept : (shift : Shift) (b : ℕ) → SoundShift shift → Sound (byte_does shift b)
unfolding byte_does
byte-kept shift b h = cond-case Sound (ltb b 128) (λ _. low-kept shift b h) (λ _. lit< tt)

pub ends-sound : (size : ℕ) (shift : Shift) → SoundEnd (ends_in size shift)
unfolding ends_in
ends-sound size outside = tt
ends-sound size opening = lit< tt
ends-sound size (run pending) = cond-case SoundEnd (may_end pending) (λ _. tt) (λ _. lit< tt)

-- every state that a text leads to is sound, every cell is a unit, and no fault has the number 0
pub utf7-kept : Kept utf7 SoundShift IsUnit
utf7-kept = record { starts = tt; keeps = byte-kept; ends = λ size shift _. ends-sound size shift }

-- "UTF-7 cells are UTF-16 units": every cell that any text reads as
pub units-read : (s : List ℕ) → Each IsUnit (reading utf7 s).cells
units-read s = (good-reading utf7-kept s).0
