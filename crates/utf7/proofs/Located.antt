-- The bytes of UTF-7's cells outside runs, read in the state before them, make those cells, and no shorter end of them
-- does. What is said of letters holds of every rule that has runs. Assumes nothing.
use Prim.Native.Nat.{ℕ, zero, suc, ◌<◌, ◌≤◌}
use mathlib.Core.Path.{◌≡◌, refl, sym, ◌∙◌}
use mathlib.Core.Bool.{Bool, true, false, true≢false}
use mathlib.Core.List.{List, [], ◌∷◌, ◌++◌}
use mathlib.Core.Logic.{inl, inr}
use native.Mathlib.Omega.{arith}
use lib.ListN.{length, drop}
use lib.Dec.{ltb, eqb, lit<}
use borrow.Author.Tests.{eqb-true}
use Rattle.answer.proofs.Below.{cond-case}
use Rattle.answer.specs.Bytes.{bytes}
use Rattle.bits.specs.Bits.{bits, number, all_zero}
use Rattle.bits.proofs.Bits.{length-bits}
use Rattle.alphabet.specs.Letters.{value_of, set_b, slash}
use Rattle.reading.specs.Reading.{Does, give, go, bad, Rule, read_from}
use Rattle.reading.specs.Spans.{Takes, Marking, marked_from, marked_in}
use Rattle.reading.specs.Cases.{cell}
use Rattle.reading.specs.Located.{Least, without, LocatedIn}
use Rattle.reading.proofs.Located.{least-short, least-one, Anew, MakesDoes, Making, located}
use Rattle.utf7.specs.Sets.{direct, set_d, alphanumeric}
use Rattle.utf7.specs.Rule.{Shift, outside, opening, run, utf7, outside_does, unit_does, may_end, end_does, low_does, byte_does}
use Rattle.utf7.specs.Spans.{span_in}
use Rattle.utf7.specs.Located.{between, in_run}
use Rattle.utf7.proofs.Kept.{SoundShift, utf7-kept}
use Rattle.utf7.proofs.Units.{LetterDoes, Pending}
use Rattle.utf7.proofs.Spans.{utf7-pending, utf7-opens}

-- a letter in a run, or after its sign, begins or goes on with a run
module _
    {S : Type 0} (last : ℕ) (rule : Rule S) (between : S → Bool) (in_run : S → ℕ → Bool) (marking : Marking S)
    (run : List Bool → S) (since : S → List ℕ) (From : S → S → Type 0)
    (runs : (p : List Bool) → Anew rule between in_run marking since From (run p))
    (base st : S) (pending : List Bool) (b : ℕ) where
  abbrev bs : List Bool
  bs = pending ++ bits 6 (value_of last b)

  makes-does :
      (16 ≤ length bs → in_run st b ≡ true) → (m : Does S) → LetterDoes last rule marking run bs m →
      MakesDoes rule between in_run marking since From base st b m
  makes-does within (give v st') d = (rw d.1 (runs (drop 16 bs)), λ i. absurd (true≢false (sym (within d.0) ∙ i)))
  makes-does within (go st') d = inr (rw d.1 (runs bs))
  makes-does within (bad k) d = tt

  pub letter-makes :
      Pending last rule marking run st pending → set_b last b ≡ true → (16 ≤ length bs → in_run st b ≡ true) →
      MakesDoes rule between in_run marking since From base st b (rule.byte st b)
  letter-makes w h within = makes-does within (rule.byte st b) (w.letter b h)

-- a sign and the '-' behind it: alone the '-' is itself
pub sign-least :
    {S : Type 0} (rule : Rule S) (st end : S) (sign : ℕ) → rule.byte st 45 ≡ give 45 end → sign < 45 →
    Least rule st (sign ∷ 45 ∷ []) sign
unfolding read_from
sign-least rule st end sign e l zero h q = absurd (omega arith)
sign-least rule st end sign e l (suc zero) h q =
    let z : 45 ≡ sign = cc in
    omega arith
sign-least rule st end sign e l (suc (suc k)) h q =
    least-short rule st (sign ∷ 45 ∷ []) sign (suc (suc k)) (omega arith) q

dash : byte_does outside 45 ≡ give 45 outside
unfolding byte_does low_does outside_does direct set_d alphanumeric
dash = refl

-- the bytes of the cell in the making, and where it began
abbrev since : Shift → List ℕ
since outside = []
since opening = 43 ∷ []
since (run pending) = []

abbrev From : Shift → Shift → Type 0
From base outside = base ≡ outside
From base opening = base ≡ outside
From base (run pending) = Unit

abbrev MakesBy : Shift → Shift → ℕ → Does Shift → Type 0
MakesBy = MakesDoes utf7 between in_run span_in since From

anew : Anew utf7 between in_run span_in since From outside
anew = record { none = refl; rests = refl; begun = refl }

run-makes :
    (base st : Shift) (pending : List Bool) (b : ℕ) → Pending slash utf7 span_in run st pending → set_b slash b ≡ true →
    (16 ≤ length (pending ++ bits 6 (value_of slash b)) → in_run st b ≡ true) → MakesBy base st b (byte_does st b)
run-makes =
    letter-makes slash utf7 between in_run span_in run since From (λ p. record { none = refl; rests = refl; begun = tt })

-- a byte that is itself, outside a run or at its end
own-makes :
    (base shift : Shift) (b : ℕ) → since shift ≡ [] → (eqb b 43 ≡ true → base ≡ outside) → Takes (span_in shift b) 1 →
    MakesBy base shift b (outside_does b)
unfolding outside_does
own-makes base shift b none f h =
    cond-case (MakesBy base shift b) (eqb b 43)
    (λ e. inl (record { more = rw (none, eqb-true b 43 e); inside = refl; begun = f e }))
    (λ _. cond-case (MakesBy base shift b) (direct b)
    (λ _. (anew, λ _. (rw none h, rw none (least-one utf7 base b b)))) (λ _. tt))

end-makes :
    (base : Shift) (pending : List Bool) (b : ℕ) (may : Bool) → set_b slash b ≡ false →
    MakesBy base (run pending) b (end_does may b)
unfolding end_does span_in set_b value_of
end-makes base pending b may h =
    let P = MakesBy base (run pending) b in
    let no : eqb b 43 ≡ true → base ≡ outside = λ e. absurd (true≢false (rw (eqb-true b 43 e) at h)) in
    cond-case P may
    (λ _. cond-case P (eqb b 45) (λ _. inr anew) (λ _. own-makes base (run pending) b refl no (λ at. rw h)))
    (λ _. tt)

-- a byte that is no letter, and any byte outside runs
low-makes :
    (base shift : Shift) (b : ℕ) → From base shift → set_b slash b ≡ false → MakesBy base shift b (low_does shift b)
unfolding low_does span_in
low-makes base outside b f h = own-makes base outside b refl (λ _. f) (λ at. refl)
low-makes base opening b f h =
    rw h
    (cond-case (MakesBy base opening b) (eqb b 45)
    (λ e. (anew, λ _. (λ at. refl, rw (f, eqb-true b 45 e) (sign-least utf7 outside outside 43 dash (lit< tt)))))
    (λ _. tt))
low-makes base (run pending) b f h = rw h (end-makes base pending b (may_end pending) h)

other-makes :
    (base shift : Shift) (b : ℕ) → From base shift → set_b slash b ≡ false → MakesBy base shift b (byte_does shift b)
unfolding byte_does
other-makes base shift b f h = cond-case (MakesBy base shift b) (ltb b 128) (λ _. low-makes base shift b f h) (λ _. tt)

outside-makes : (base : Shift) (b : ℕ) → base ≡ outside → MakesBy base outside b (byte_does outside b)
unfolding byte_does low_does span_in
outside-makes base b f =
    cond-case (MakesBy base outside b) (ltb b 128) (λ _. own-makes base outside b refl (λ _. f) (λ at. refl)) (λ _. tt)

byte-makes :
    (base shift : Shift) (b : ℕ) (t : Bool) → set_b slash b ≡ t → SoundShift shift → From base shift →
    MakesBy base shift b (byte_does shift b)
byte-makes base outside b t h s f = outside-makes base b f
byte-makes base opening b true h s f =
    run-makes base opening [] b utf7-opens h (λ many. absurd (omega (arith, length-bits 6 (value_of slash b))))
byte-makes base (run pending) b true h s f =
    run-makes base (run pending) pending b (utf7-pending pending s) h (λ _. h)
byte-makes base opening b false h s f = other-makes base opening b f h
byte-makes base (run pending) b false h s f = other-makes base (run pending) b f h

utf7-making : Making utf7 between in_run span_in SoundShift
utf7-making =
    record { since = since; From = From; starts = anew; makes = λ base st b. byte-makes base st b _ refl }

-- which those are, of one text: the byte that ends a run is among them
pub outside-runs :
    marked_in (without in_run utf7) span_in (bytes "a+-+AKM.+AKM-b")
    ≡ cell 0x61 0 1 ∷ cell 0x2B 1 3 ∷ cell 0x2E 7 8 ∷ cell 0x62 13 14 ∷ []
unfolding marked_in marked_from byte_does low_does outside_does unit_does may_end end_does direct set_d alphanumeric set_b value_of
    bits number all_zero span_in
outside-runs = refl

-- a single byte, and `+-`
pub cells-located : (text : List ℕ) → LocatedIn utf7 between in_run span_in text
cells-located text = located utf7-kept utf7-making text
