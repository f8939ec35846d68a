-- The rule of mailbox names keeps its pending bits fewer than sixteen, and gives units, none of them printable in a run. Assumes nothing.
use Prim.Native.Nat.{ℕ, ◌<◌}
use mathlib.Core.Path.{◌≡◌}
use mathlib.Core.Bool.{Bool, false}
use mathlib.Core.List.{List, ◌++◌}
use native.Mathlib.Omega.{arith}
use lib.ListN.{length, take, drop, length-append, length-drop}
use lib.Seq.{length-take-le}
use lib.Dec.{ltb, eqb, lit<}
use borrow.Author.Tests.{ltb-true, ltb-false, leb-true}
use Rattle.answer.specs.Lists.{Each}
use Rattle.answer.proofs.Below.{cond-case}
use Rattle.bits.specs.Bits.{bits, number, all_zero}
use Rattle.bits.proofs.Bits.{length-bits, number_lt}
use Rattle.alphabet.specs.Letters.{value_of, set_b, comma}
use Rattle.alphabet.proofs.Letters.{within_both}
use Rattle.reading.specs.Reading.{Does, give, go, bad, reading}
use Rattle.reading.proofs.Laws.{Kept, SoundDoes, SoundEnd, good-reading}
use Rattle.utf7.specs.Sets.{printable}
use Rattle.utf7.specs.Writing.{IsUnit}
use Rattle.mailbox.specs.Rule.{Shift, outside, opening, run, mailbox, outside_does, gives_unit, unit_does, close_does, low_does, byte_does, ends_in}

-- "17 (needless shift) for a printable unit in a run": no unit that a run gives is printable
abbrev pub Foreign : Does Shift → Type 0
Foreign (give unit shift) = printable unit ≡ false
Foreign (go shift) = Unit
Foreign (bad k) = Unit

gives-foreign : (unit : ℕ) (rest : List Bool) → Foreign (gives_unit unit rest)
unfolding gives_unit
gives-foreign unit rest = cond-case Foreign (printable unit) (λ _. tt) (λ t. t)

unit-foreign : (pending : List Bool) → Foreign (unit_does pending)
unfolding unit_does
unit-foreign pending = cond-case Foreign (ltb (length pending) 16) (λ _. tt) (λ _. gives-foreign _ _)

pub run-foreign : (pending : List Bool) (b : ℕ) → Foreign (byte_does (run pending) b)
unfolding byte_does low_does close_does
run-foreign pending b =
    cond-case Foreign (ltb b 128)
    (λ _. cond-case Foreign (set_b comma b) (λ _. unit-foreign (pending ++ bits 6 (value_of comma b)))
    (λ _. cond-case Foreign (eqb b 45)
    (λ _. cond-case Foreign (all_zero pending) (λ _. cond-case Foreign (ltb (length pending) 6) (λ _. tt) (λ _. tt)) (λ _. tt))
    (λ _. tt)))
    (λ _. tt)

-- the pending bits make no unit
abbrev pub SoundShift : Shift → Type 0
SoundShift (outside after) = Unit
SoundShift (opening after) = Unit
SoundShift (run pending) = length pending < 16

abbrev Sound : Does Shift → Type 0
Sound = SoundDoes SoundShift IsUnit

outside_kept : (after : Bool) (b : ℕ) → Sound (outside_does after b)
unfolding outside_does
outside_kept after b =
    cond-case Sound (eqb b 38) (λ _. tt)
    (λ _. cond-case Sound (printable b) (λ t. (omega (arith, leb-true b 126 (within_both 32 126 b t).1), tt)) (λ _. lit< tt))

gives-kept : (unit : ℕ) (rest : List Bool) → IsUnit unit → length rest < 16 → Sound (gives_unit unit rest)
unfolding gives_unit
gives-kept unit rest u h = cond-case Sound (printable unit) (λ _. lit< tt) (λ _. (u, h))

unit_kept : (pending : List Bool) → length pending < 32 → Sound (unit_does pending)
unfolding unit_does
unit_kept pending h =
    cond-case Sound (ltb (length pending) 16) (λ t. ltb-true (length pending) 16 t)
    (λ t.
    let l : length (take 16 pending) ≡ 16 = length-take-le 16 pending (ltb-false (length pending) 16 t) in
    gives-kept (number (take 16 pending)) (drop 16 pending) (rw l at (number_lt (take 16 pending))) (simp length-drop (omega arith)))

close-kept : (pending : List Bool) → Sound (close_does pending)
unfolding close_does
close-kept pending =
    cond-case Sound (all_zero pending) (λ _. cond-case Sound (ltb (length pending) 6) (λ _. tt) (λ _. lit< tt)) (λ _. lit< tt)

low-kept : (shift : Shift) (b : ℕ) → SoundShift shift → Sound (low_does shift b)
unfolding low_does
low-kept (outside after) b h = outside_kept after b
low-kept (opening after) b h =
    cond-case Sound (set_b comma b)
    (λ _. cond-case Sound after (λ _. lit< tt) (λ _. unit_kept (bits 6 (value_of comma b)) (omega (arith, length-bits 6 (value_of comma b)))))
    (λ _. cond-case Sound (eqb b 45) (λ _. (lit< tt, tt)) (λ _. lit< tt))
low-kept (run pending) b h =
    cond-case Sound (set_b comma b)
    (λ _. unit_kept (pending ++ bits 6 (value_of comma b)) (simp (length-append, length-bits) (omega arith)))
    (λ _. cond-case Sound (eqb b 45) (λ _. close-kept pending) (λ _. lit< tt))

byte-kept : (shift : Shift) (b : ℕ) → SoundShift shift → Sound (byte_does shift b)
unfolding byte_does
byte-kept shift b h = cond-case Sound (ltb b 128) (λ _. low-kept shift b h) (λ _. lit< tt)

pub ends-sound : (size : ℕ) (shift : Shift) → SoundEnd (ends_in size shift)
unfolding ends_in
ends-sound size (outside after) = tt
ends-sound size (opening after) = lit< tt
ends-sound size (run pending) = lit< tt

-- every state that a text leads to is sound, every cell is a unit, and no fault has the number 0
pub mailbox-kept : Kept mailbox SoundShift IsUnit
mailbox-kept = record { starts = tt; keeps = byte-kept; ends = λ size shift _. ends-sound size shift }

-- every cell that any text reads as is a unit
pub units-read : (s : List ℕ) → Each IsUnit (reading mailbox s).cells
units-read s = (good-reading mailbox-kept s).0
