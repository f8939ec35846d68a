-- The bytes of UTF-7's cells: in order, shared in runs only; and in a run, counted from its first letter. Assumes nothing.
use Prim.Native.Nat.{ℕ, ◌+◌, ◌<◌}
use mathlib.Core.Path.{◌≡◌, refl}
use mathlib.Core.Bool.{Bool, true, false}
use mathlib.Core.List.{List, [], ◌++◌}
use native.Mathlib.Omega.{arith}
use lib.ListN.{length, get_or}
use lib.Dec.{ltb, eqb, lit<}
use borrow.Author.Tests.{ltb-true, ltb-false}
use Rattle.answer.proofs.Below.{cond-case}
use Rattle.bits.proofs.Bits.{length-bits}
use Rattle.alphabet.specs.Letters.{value_of, set_b, slash}
use Rattle.reading.specs.Reading.{Does}
use Rattle.reading.specs.Spans.{Takes, no_mark, marked_in, InOrder}
use Rattle.reading.proofs.Spans.{LeadDoes, alone, Marks, in_order}
use Rattle.reading.proofs.Walk.{Walk}
use Rattle.utf7.specs.Sets.{direct}
use Rattle.utf7.specs.Rule.{Shift, outside, opening, run, utf7, outside_does, unit_does, may_end, end_does, low_does, byte_does}
use Rattle.utf7.specs.Spans.{span_in, run_span}
use Rattle.utf7.proofs.Kept.{SoundShift, utf7-kept}
use Rattle.utf7.proofs.Round.{Letters, byte-run, byte-opening}
use Rattle.utf7.proofs.Units.{letters_of, span_of, LetterDoes, Pending, letter-leads, run-unit}

unit-does : (bs : List Bool) → LetterDoes slash utf7 span_in run bs (unit_does bs)
unfolding unit_does
unit-does bs =
    cond-case (LetterDoes slash utf7 span_in run bs) (ltb (length bs) 16) (λ t. (ltb-true (length bs) 16 t, refl)) (λ t. (ltb-false (length bs) 16 t, refl))

pub utf7-pending : (pending : List Bool) → length pending < 16 → Pending slash utf7 span_in run (run pending) pending
unfolding span_in
utf7-pending pending few = record { few = few; letter = λ b h. rw (byte-run pending b h) (unit-does _); marks = λ b at h many. rw h }

pub utf7-opens : Pending slash utf7 span_in run opening []
utf7-opens =
    record {
      few = lit< tt;
      letter = λ b h. rw (byte-opening b h) (unit-does _);
      marks = λ b at h many. absurd (omega (arith, length-bits 6 (value_of slash b)));
    }

-- so many bytes before the next one hold pending bits, or are the '+'; the '+' is fresh
abbrev lead : Shift → ℕ
lead outside = 0
lead opening = 1
lead (run pending) = letters_of (length pending)

abbrev fresh : Shift → ℕ
fresh outside = 0
fresh opening = 1
fresh (run pending) = 0

abbrev Leads : Shift → ℕ → Does Shift → Type 0
Leads = LeadDoes 2 lead fresh span_in

-- a byte that is itself, outside a run or at its end
own-leads : (shift : Shift) (b : ℕ) → Takes (span_in shift b) 1 → Leads shift b (outside_does b)
unfolding outside_does
own-leads shift b h =
    cond-case (Leads shift b) (eqb b 43) (λ _. (omega arith, omega arith))
    (λ _. cond-case (Leads shift b) (direct b)
    (λ _. alone 2 lead fresh span_in shift outside b 1 h (omega arith) (omega arith) (omega arith) refl refl)
    (λ _. tt))

end-leads : (pending : List Bool) (b : ℕ) (may : Bool) → set_b slash b ≡ false → Leads (run pending) b (end_does may b)
unfolding end_does span_in
end-leads pending b may h =
    cond-case (Leads (run pending) b) may
    (λ _. cond-case (Leads (run pending) b) (eqb b 45) (λ _. (omega arith, omega arith)) (λ _. own-leads (run pending) b (λ at. rw h)))
    (λ _. tt)

low-leads : (shift : Shift) (b : ℕ) → SoundShift shift → set_b slash b ≡ false → Leads shift b (low_does shift b)
unfolding low_does span_in
low-leads outside b s h = own-leads outside b (λ at. refl)
low-leads opening b s h =
    rw h
    (cond-case (Leads opening b) (eqb b 45)
    (λ _. alone 2 lead fresh span_in opening outside b 2 (λ at. refl) (omega arith) (omega arith) (omega arith) refl refl)
    (λ _. tt))
low-leads (run pending) b s h = rw h (end-leads pending b (may_end pending) h)

other-leads : (shift : Shift) (b : ℕ) → SoundShift shift → set_b slash b ≡ false → Leads shift b (byte_does shift b)
unfolding byte_does
other-leads shift b s h = cond-case (Leads shift b) (ltb b 128) (λ _. low-leads shift b s h) (λ _. tt)

byte-leads : (shift : Shift) (b : ℕ) (t : Bool) → set_b slash b ≡ t → SoundShift shift → Leads shift b (byte_does shift b)
unfolding byte_does low_does span_in
byte-leads outside b t h s = cond-case (Leads outside b) (ltb b 128) (λ _. own-leads outside b (λ at. refl)) (λ _. tt)
byte-leads opening b true h s = letter-leads slash utf7 span_in run lead fresh (λ p. refl) (λ p. refl) opening [] b utf7-opens h (omega arith)
byte-leads (run pending) b true h s =
    letter-leads slash utf7 span_in run lead fresh (λ p. refl) (λ p. refl) (run pending) pending b (utf7-pending pending s) h (omega arith)
byte-leads opening b false h s = other-leads opening b s h
byte-leads (run pending) b false h s = other-leads (run pending) b s h

utf7-marks : Marks utf7 span_in SoundShift 2
utf7-marks = record { lead = lead; fresh = fresh; starts = (refl, refl); leads = λ shift b. byte-leads shift b _ refl }

-- begin < end <= the text's length; a later cell neither begins nor ends before an earlier one; and cells share bytes only where both are of runs, for one
-- outside runs has one byte or two, and a run's (`run-spans`) three or four
pub spans-ordered : (text : List ℕ) → InOrder 2 (length text) (marked_in utf7 span_in text)
spans-ordered text = in_order utf7-kept utf7-marks text

-- bit i of a run lies in its letter i / 6: of a run whose first letter stands behind `before`, unit k has the letters from 16k / 6 to (16k + 15) / 6
pub run-spans :
    {before letters cells units : List ℕ} {end : Shift} → Walk utf7 outside before cells opening → Walk utf7 opening letters units end → Letters slash letters →
    (rest : List ℕ) (k : ℕ) → k < length units →
    span_of (get_or (marked_in utf7 span_in (before ++ (letters ++ rest))) (length cells + k) no_mark) ≡ run_span (length before) k
run-spans w v h rest k m = run-unit slash utf7 span_in run utf7-pending utf7-opens w v h rest k m
