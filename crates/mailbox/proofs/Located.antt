-- The bytes of a name's cells outside runs, read in the state before them, make those cells, and no shorter end of them
-- does. Assumes nothing.
use Prim.Native.Nat.{ℕ, ◌≤◌}
use mathlib.Core.Path.{◌≡◌, refl}
use mathlib.Core.Bool.{Bool, true, false}
use mathlib.Core.List.{List, [], ◌∷◌, ◌++◌}
use mathlib.Core.Logic.{inl, inr}
use native.Mathlib.Omega.{arith}
use lib.ListN.{length}
use lib.Dec.{ltb, eqb, lit<}
use borrow.Author.Tests.{eqb-true}
use Rattle.answer.proofs.Below.{cond-case}
use Rattle.answer.specs.Bytes.{bytes}
use Rattle.bits.specs.Bits.{bits, number, all_zero}
use Rattle.bits.proofs.Bits.{length-bits}
use Rattle.alphabet.specs.Letters.{value_of, set_b, comma}
use Rattle.reading.specs.Reading.{Does, give}
use Rattle.reading.specs.Spans.{marked_from, marked_in}
use Rattle.reading.specs.Cases.{cell}
use Rattle.reading.specs.Located.{without, LocatedIn}
use Rattle.reading.proofs.Located.{least-one, Anew, MakesDoes, Making, located}
use Rattle.utf7.specs.Sets.{printable}
use Rattle.utf7.proofs.Units.{Pending}
use Rattle.utf7.proofs.Located.{letter-makes, sign-least}
use Rattle.mailbox.specs.Rule.{Shift, outside, opening, run, mailbox, outside_does, gives_unit, unit_does, close_does, low_does, byte_does}
use Rattle.mailbox.specs.Spans.{span_in}
use Rattle.mailbox.specs.Located.{between, in_run}
use Rattle.mailbox.proofs.Kept.{SoundShift, mailbox-kept}
use Rattle.mailbox.proofs.Spans.{name-pending, name-opens}

dash : (after : Bool) → byte_does (outside after) 45 ≡ give 45 (outside false)
unfolding byte_does low_does outside_does
dash after = refl

-- the bytes of the cell in the making, and where it began
abbrev since : Shift → List ℕ
since (outside after) = []
since (opening after) = 38 ∷ []
since (run pending) = []

abbrev From : Shift → Shift → Type 0
From base (outside after) = base ≡ outside after
From base (opening after) = base ≡ outside after
From base (run pending) = Unit

abbrev MakesBy : Shift → Shift → ℕ → Does Shift → Type 0
MakesBy = MakesDoes mailbox between in_run span_in since From

anew : (after : Bool) → Anew mailbox between in_run span_in since From (outside after)
anew after = record { none = refl; rests = refl; begun = refl }

run-makes :
    (base st : Shift) (pending : List Bool) (b : ℕ) → Pending comma mailbox span_in run st pending →
    set_b comma b ≡ true → (16 ≤ length (pending ++ bits 6 (value_of comma b)) → in_run st b ≡ true) →
    MakesBy base st b (byte_does st b)
run-makes =
    letter-makes comma mailbox between in_run span_in run since From
    (λ p. record { none = refl; rests = refl; begun = tt })

outside-makes :
    (base : Shift) (after : Bool) (b : ℕ) → base ≡ outside after →
    MakesBy base (outside after) b (outside_does after b)
unfolding outside_does span_in
outside-makes base after b f =
    let P = MakesBy base (outside after) b in
    cond-case P (eqb b 38) (λ e. inl (record { more = rw (eqb-true b 38 e); inside = refl; begun = f }))
    (λ _. cond-case P (printable b) (λ _. (anew false, λ _. (λ at. refl, least-one mailbox base b b))) (λ _. tt))

-- a byte that is no letter
low-makes :
    (base shift : Shift) (b : ℕ) → From base shift → set_b comma b ≡ false → MakesBy base shift b (low_does shift b)
unfolding low_does close_does span_in
low-makes base (outside after) b f h = outside-makes base after b f
low-makes base (opening after) b f h =
    rw h
    (cond-case (MakesBy base (opening after) b) (eqb b 45)
    (λ e.
    let least = sign-least mailbox (outside after) (outside false) 38 (dash after) (lit< tt) in
    (anew false, λ _. (λ at. refl, rw (f, eqb-true b 45 e) least)))
    (λ _. tt))
low-makes base (run pending) b f h =
    let P = MakesBy base (run pending) b in
    rw h
    (cond-case P (eqb b 45)
    (λ _. cond-case P (all_zero pending)
    (λ _. cond-case P (ltb (length pending) 6) (λ _. inr (anew true)) (λ _. tt)) (λ _. tt))
    (λ _. tt))

other-makes :
    (base shift : Shift) (b : ℕ) → From base shift → set_b comma b ≡ false → MakesBy base shift b (byte_does shift b)
unfolding byte_does
other-makes base shift b f h = cond-case (MakesBy base shift b) (ltb b 128) (λ _. low-makes base shift b f h) (λ _. tt)

byte-makes :
    (base shift : Shift) (b : ℕ) (t : Bool) → set_b comma b ≡ t → SoundShift shift → From base shift →
    MakesBy base shift b (byte_does shift b)
unfolding byte_does low_does
byte-makes base (outside after) b t h s f =
    cond-case (MakesBy base (outside after) b) (ltb b 128) (λ _. outside-makes base after b f) (λ _. tt)
byte-makes base (opening after) b true h s f =
    run-makes base (opening after) [] b (name-opens after) h
    (λ many. absurd (omega (arith, length-bits 6 (value_of comma b))))
byte-makes base (run pending) b true h s f =
    run-makes base (run pending) pending b (name-pending pending s) h (λ _. refl)
byte-makes base (opening after) b false h s f = other-makes base (opening after) b f h
byte-makes base (run pending) b false h s f = other-makes base (run pending) b f h

name-making : Making mailbox between in_run span_in SoundShift
name-making =
    record { since = since; From = From; starts = anew false; makes = λ base st b. byte-makes base st b _ refl }

-- which those are, of one name
pub outside-runs :
    marked_in (without in_run mailbox) span_in (bytes "a&-&AKM-b") ≡ cell 0x61 0 1 ∷ cell 0x26 1 3 ∷ cell 0x62 8 9 ∷ []
unfolding marked_in marked_from byte_does low_does outside_does unit_does gives_unit close_does set_b value_of bits number
    all_zero span_in
outside-runs = refl

-- a single byte, and `&-`
pub cells-located : (text : List ℕ) → LocatedIn mailbox between in_run span_in text
cells-located text = located mailbox-kept name-making text
