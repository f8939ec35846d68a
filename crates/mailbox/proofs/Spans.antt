-- The bytes of a name's cells: in order, shared in runs only; and in a run, counted from its first letter. Assumes nothing.
use Prim.Native.Nat.{ℕ, ◌+◌, ◌<◌, ◌≤◌}
use mathlib.Core.Path.{◌≡◌, refl}
use mathlib.Core.Bool.{Bool, true, false}
use mathlib.Core.List.{List, [], ◌++◌}
use native.Mathlib.Omega.{arith}
use lib.ListN.{length, get_or, take, drop}
use lib.Dec.{ltb, eqb, lit<}
use borrow.Author.Tests.{ltb-true, ltb-false}
use Rattle.answer.proofs.Below.{cond-case}
use Rattle.bits.specs.Bits.{bits, number, all_zero}
use Rattle.bits.proofs.Bits.{length-bits}
use Rattle.alphabet.specs.Letters.{value_of, set_b, comma}
use Rattle.reading.specs.Reading.{Does, bad}
use Rattle.reading.specs.Spans.{no_mark, marked_in, InOrder}
use Rattle.reading.proofs.Spans.{LeadDoes, alone, Marks, in_order}
use Rattle.reading.proofs.Walk.{Walk}
use Rattle.utf7.specs.Sets.{printable}
use Rattle.utf7.specs.Spans.{run_span}
use Rattle.utf7.proofs.Round.{Letters}
use Rattle.utf7.proofs.Units.{letters_of, span_of, LetterDoes, Pending, letter-leads, run-unit}
use Rattle.mailbox.specs.Rule.{Shift, outside, opening, run, mailbox, outside_does, gives_unit, unit_does, close_does, low_does, byte_does}
use Rattle.mailbox.specs.Spans.{span_in}
use Rattle.mailbox.proofs.Kept.{SoundShift, mailbox-kept}
use Rattle.mailbox.proofs.Round.{letter-runs, letter-opens}

abbrev ByLetter : List Bool → Does Shift → Type 0
ByLetter = LetterDoes comma mailbox span_in run

unit-does : (bs : List Bool) → ByLetter bs (unit_does bs)
unfolding unit_does gives_unit
unit-does bs =
    cond-case (ByLetter bs) (ltb (length bs) 16) (λ t. (ltb-true (length bs) 16 t, refl))
    (λ t. cond-case (ByLetter bs) (printable (number (take 16 bs))) (λ _. tt) (λ _. (ltb-false (length bs) 16 t, refl)))

pub name-pending : (pending : List Bool) → length pending < 16 → Pending comma mailbox span_in run (run pending) pending
unfolding span_in
name-pending pending few = record { few = few; letter = λ b h. rw (letter-runs pending b h) (unit-does _); marks = λ b at h many. refl }

-- after a '&', directly after a run too: there a letter is a fault
opens-does : (after : Bool) (b : ℕ) → set_b comma b ≡ true → ByLetter (bits 6 (value_of comma b)) (byte_does (opening after) b)
unfolding byte_does low_does
opens-does false b h = rw (letter-opens b h, letter-runs [] b h) (unit-does _)
opens-does true b h = rw h (cond-case (ByLetter (bits 6 (value_of comma b))) (ltb b 128) (λ _. tt) (λ _. tt))

pub name-opens : (after : Bool) → Pending comma mailbox span_in run (opening after) []
name-opens after =
    record {
      few = lit< tt;
      letter = opens-does after;
      marks = λ b at h many. absurd (omega (arith, length-bits 6 (value_of comma b)));
    }

-- so many bytes before the next one hold pending bits, or are the '&'; the '&' is fresh
abbrev lead : Shift → ℕ
lead (outside after) = 0
lead (opening after) = 1
lead (run pending) = letters_of (length pending)

abbrev fresh : Shift → ℕ
fresh (outside after) = 0
fresh (opening after) = 1
fresh (run pending) = 0

abbrev Leads : Shift → ℕ → Does Shift → Type 0
Leads = LeadDoes 2 lead fresh span_in

outside-leads : (after : Bool) (b : ℕ) → Leads (outside after) b (outside_does after b)
unfolding outside_does span_in
outside-leads after b =
    cond-case (Leads (outside after) b) (eqb b 38) (λ _. (omega arith, omega arith))
    (λ _. cond-case (Leads (outside after) b) (printable b)
    (λ _. alone 2 lead fresh span_in (outside after) (outside false) b 1 (λ at. refl) (omega arith) (omega arith) (omega arith) refl refl) (λ _. tt))

-- a byte that is no letter
low-leads : (shift : Shift) (b : ℕ) → set_b comma b ≡ false → Leads shift b (low_does shift b)
unfolding low_does close_does span_in
low-leads (outside after) b h = outside-leads after b
low-leads (opening after) b h =
    rw h
    (cond-case (Leads (opening after) b) (eqb b 45)
    (λ _. alone 2 lead fresh span_in (opening after) (outside false) b 2 (λ at. refl) (omega arith) (omega arith) (omega arith) refl refl) (λ _. tt))
low-leads (run pending) b h =
    rw h
    (cond-case (Leads (run pending) b) (eqb b 45)
    (λ _. cond-case (Leads (run pending) b) (all_zero pending)
    (λ _. cond-case (Leads (run pending) b) (ltb (length pending) 6) (λ _. (omega arith, omega arith)) (λ _. tt)) (λ _. tt))
    (λ _. tt))

other-leads : (shift : Shift) (b : ℕ) → set_b comma b ≡ false → Leads shift b (byte_does shift b)
unfolding byte_does
other-leads shift b h = cond-case (Leads shift b) (ltb b 128) (λ _. low-leads shift b h) (λ _. tt)

byte-leads : (shift : Shift) (b : ℕ) (t : Bool) → set_b comma b ≡ t → SoundShift shift → Leads shift b (byte_does shift b)
unfolding byte_does low_does
byte-leads (outside after) b t h s = cond-case (Leads (outside after) b) (ltb b 128) (λ _. outside-leads after b) (λ _. tt)
byte-leads (opening after) b true h s =
    letter-leads comma mailbox span_in run lead fresh (λ p. refl) (λ p. refl) (opening after) [] b (name-opens after) h (omega arith)
byte-leads (run pending) b true h s =
    letter-leads comma mailbox span_in run lead fresh (λ p. refl) (λ p. refl) (run pending) pending b (name-pending pending s) h (omega arith)
byte-leads (opening after) b false h s = other-leads (opening after) b h
byte-leads (run pending) b false h s = other-leads (run pending) b h

name-marks : Marks mailbox span_in SoundShift 2
name-marks = record { lead = lead; fresh = fresh; starts = (refl, refl); leads = λ shift b. byte-leads shift b _ refl }

-- begin < end <= the text's length; a later cell neither begins nor ends before an earlier one; and cells share bytes only where both are of runs, for one
-- outside runs has one byte or two, and a run's (`run-spans`) three or four
pub spans-ordered : (text : List ℕ) → InOrder 2 (length text) (marked_in mailbox span_in text)
spans-ordered text = in_order mailbox-kept name-marks text

-- bit i of a run lies in its letter i / 6: of a run whose first letter stands behind `before`, unit k has the letters from 16k / 6 to (16k + 15) / 6
pub run-spans :
    {before letters cells units : List ℕ} {end : Shift} {after : Bool} → Walk mailbox (outside false) before cells (opening after) →
    Walk mailbox (opening after) letters units end → Letters comma letters → (rest : List ℕ) (k : ℕ) → k < length units →
    span_of (get_or (marked_in mailbox span_in (before ++ (letters ++ rest))) (length cells + k) no_mark) ≡ run_span (length before) k
run-spans {after = after} w v h rest k m = run-unit comma mailbox span_in run name-pending (name-opens after) w v h rest k m
