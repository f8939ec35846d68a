-- What a lister prints of a text that was read, what of a longer one, and that it always fits. Assumes nothing.
use Prim.Native.Nat.{ℕ, ◌+◌, ◌*◌, ◌<◌, ◌≤◌}
use mathlib.Core.Path.{◌≡◌, refl, sym, ap, ◌∙◌}
use mathlib.Core.Bool.{Bool, true, false, cond}
use mathlib.Core.List.{List, [], ◌∷◌}
use native.Mathlib.Omega.{arith}
use lib.ListN.{length, take, drop, length-take}
use lib.Seq.{take_at, take_all, length-take-le}
use lib.Dec.{ltb}
use borrow.Author.Tests.{ltb-true, ltb-false, lt-ltb, le-ltb}
use Rattle.std.specs.declared.result.Result.TheVariants.{Ok, Err}
use Rattle.answer.specs.declared.Refused.{Refused}
use Rattle.answer.specs.Answer.{limit, numbered, in_numbers, number_of, refused_at, Answer}
use Rattle.answer.specs.Output.{Outcome, leaves, filled, deliver}
use Rattle.answer.specs.declared.Refusal.{Refusal}
use Rattle.answer.proofs.Once.{number-pos}
use Rattle.answer.proofs.Below.{cond-case}
use Rattle.reading.specs.Reading.{Ending, accepted, fault, closing, verdict_of, on_ending, read_into}
use Rattle.reading.proofs.Laws.{SoundEnd}
use Rattle.reading.proofs.Filling.{few-cells}
use Rattle.codec.specs.declared.Format.{Format}
use Rattle.codec.specs.declared.Format.TheVariants.{Utf7, Jp2, Mailbox}
use Rattle.codec.specs.Kinds.{reading_of, read_in}
use Rattle.codec.proofs.ByKind.{fault-in}
use Rattle.listing.specs.Listing.{listing, list_into}
use Rattle.listing.proofs.Digits.{decimal-within}
use Rattle.listing.proofs.Lines.{answer-length, answer-few, refused-lines, accepted-size}
use Rattle.lister.specs.Printed.{most, printed, print_into}

few-in : (f : Format) (text : List ℕ) → length (reading_of f text).cells ≤ length text
unfolding reading_of
few-in Utf7 text = few-cells _ text
few-in Jp2 text = few-cells _ text
few-in Mailbox text = few-cells _ text

read_short :
    (f : Format) (text out : List ℕ) → length text ≤ 1048576 →
    read_in f text out ≡ on_ending (reading_of f text).ending (reading_of f text).cells out
unfolding read_in read_into reading_of limit
read_short Utf7 text out h = rw (le-ltb 1048576 (length text) h)
read_short Jp2 text out h = rw (le-ltb 1048576 (length text) h)
read_short Mailbox text out h = rw (le-ltb 1048576 (length text) h)

-- a refusal is listed alone
alone :
    (number place : ℕ) (cells cells' : List ℕ) → 0 < number →
    listing (numbered number place) cells ≡ listing (numbered number place) cells'
alone number place cells cells' h =
    let pos : number ≡ 0 → ⊥ = λ e. omega arith in
    refused-lines number place cells pos ∙ sym (refused-lines number place cells' pos)

-- what is listed of an answer of reading, with what it left in an output that has room enough
module _ (cells out o : List ℕ) (h : length cells ≤ length out) where
  roomy : deliver cells out ≡ record { verdict = numbered 0 (length cells); out = filled cells out }
  unfolding deliver
  roomy = rw (le-ltb (length out) (length cells) h)

  listed-count :
      (e : Ending) (n : ℕ) → SoundEnd e → leaves (Ok n) o ≡ on_ending e cells out →
      (n ≡ length cells) × (listing (numbered 0 n) (take n o) ≡ listing (closing e (length cells)) cells)
  listed-count accepted n s r =
      let place : n ≡ length cells = ap (λ (x : Outcome). x.verdict.place) (r ∙ roomy) in
      let all : o ≡ filled cells out = ap (λ (x : Outcome). x.out) (r ∙ roomy) in
      (place, rw (all, place, take_at cells (drop (length cells) out) (length cells) refl))
  listed-count (fault k at) n s r = absurd (omega (arith, ap (λ (x : Outcome). x.verdict.number) r))

  listed-place :
      (e : Ending) (why : Refusal) (place : ℕ) → leaves (refused_at why place) o ≡ on_ending e cells out →
      listing (numbered (number_of why) place) [] ≡ listing (closing e (length cells)) cells
  listed-place accepted why place r =
      absurd (omega (arith, number-pos why, ap (λ (x : Outcome). x.verdict.number) (r ∙ roomy)))
  listed-place (fault k at) why place r =
      alone (number_of why) place [] cells (number-pos why) ∙ ap (λ (x : Outcome). listing x.verdict cells) r

-- the lines of a reading are few
few-lines :
    (e : Ending) (cells : List ℕ) → SoundEnd e → length cells ≤ 16384 →
    length (listing (closing e (length cells)) cells) ≤ 147483
few-lines accepted cells s h =
    omega (
      arith,
      accepted-size 0 (length cells) cells refl,
      answer-length 0 (length cells),
      decimal-within 0 20 0 (omega arith),
      decimal-within 4 20 (length cells) (omega arith),
    )
few-lines (fault k at) cells s h =
    omega (arith, ap length (refused-lines k at cells (λ e. omega (arith, s))), answer-few k at)

module _ (f : Format) (text : List ℕ) where
  -- "at most 16,384 bytes (longer: status 16, place 16384)"
  pub short-read :
      length text ≤ 16384 → printed f text ≡ listing (verdict_of (reading_of f text)) (reading_of f text).cells
  unfolding printed most
  short-read h = rw (le-ltb 16384 (length text) h)

  pub long-refused : 16384 < length text → printed f text ≡ listing (numbered 16 16384) []
  unfolding printed most
  long-refused h = rw (lt-ltb 16384 (length text) h)

  -- all that is printed fits: the two lines of an accepted text, "cells=", 9 bytes a cell but for the first space, LF
  pub fits : length (printed f text) ≤ 147483
  unfolding printed most
  fits =
      cond-case (λ (lines : List ℕ). length lines ≤ 147483) (ltb 16384 (length text))
      (λ _. omega (arith, ap length (refused-lines 16 16384 [] (λ e. omega arith)), answer-few 16 16384))
      (λ h.
      few-lines (reading_of f text).ending (reading_of f text).cells (fault-in f text)
      (omega (arith, few-in f text, ltb-false 16384 (length text) h)))

  -- so one that lends such room is always answered with the count of what it then writes
  pub prints :
      (out : List ℕ) → 147483 ≤ length out →
      print_into f text out
      ≡ record { verdict = numbered 0 (length (printed f text)); out = filled (printed f text) out }
  unfolding print_into deliver
  prints out h = rw (le-ltb (length out) (length (printed f text)) (omega (arith, fits)))

  pub print-size :
      (r : Answer) (out o : List ℕ) → leaves r o ≡ print_into f text out → 147483 ≤ length out →
      (in_numbers r).place ≤ 147483
  print-size r out o e h = omega (arith, fits, ap (λ (x : Outcome). x.verdict.place) (e ∙ prints out h))

-- the first 16,385 bytes decide
front-decides :
    (f : Format) (text : List ℕ) (long : Bool) → ltb 16384 (length text) ≡ long →
    printed f (take 16385 text) ≡ printed f text
front-decides f text true h =
    let n : 16385 ≤ length text = ltb-true 16384 (length text) h in
    long-refused f (take 16385 text) (omega (arith, length-take-le 16385 text n)) ∙ sym (long-refused f text n)
front-decides f text false h = ap (printed f) (take_all 16385 text (omega (arith, ltb-false 16384 (length text) h)))

pub first-decide : (f : Format) (text : List ℕ) → printed f (take 16385 text) ≡ printed f text
first-decide f text = front-decides f text (ltb 16384 (length text)) refl

-- the listing of what reading answered, and left in a buffer, is what is printed
module _
    (f : Format) (text buf o : List ℕ) (found : Answer) (short : length text ≤ 16384) (large : 16384 ≤ length buf)
    (read : leaves found o ≡ read_in f text buf) where
  few : length (reading_of f text).cells ≤ 16384
  few = omega (arith, few-in f text)

  ended : leaves found o ≡ on_ending (reading_of f text).ending (reading_of f text).cells buf
  ended = read ∙ read_short f text buf (omega arith)

  listed :
      (out lines : List ℕ) → lines ≡ listing (verdict_of (reading_of f text)) (reading_of f text).cells →
      deliver lines out ≡ print_into f text out
  unfolding print_into
  listed out lines e = ap (λ (l : List ℕ). deliver l out) (e ∙ sym (short-read f text short))

  module _ (n : ℕ) (told : found ≡ Ok n) where
    counted :
        (n ≡ length (reading_of f text).cells)
        × (listing (numbered 0 n) (take n o) ≡ listing (verdict_of (reading_of f text)) (reading_of f text).cells)
    counted =
        listed-count (reading_of f text).cells buf o (omega (arith, few)) (reading_of f text).ending n (fault-in f text)
        (rw told at ended)

    pub count-few : (count : ℕ) → count ≡ (in_numbers found).place → count ≤ 16384
    count-few count k = omega (arith, few, counted.0, rw told at k)

    pub accepted-prints :
        (count : ℕ) → count ≡ (in_numbers found).place → length o ≡ 16384 → (out : List ℕ) →
        list_into (in_numbers found) (take count o) out ≡ print_into f text out
    unfolding list_into limit
    accepted-prints count k size out =
        let c : count ≡ n = rw told at k in
        rw (told, c, le-ltb 1048576 (length (take n o)) (simp length-take (omega arith))) (listed out _ counted.1)

  pub refused-prints :
      (deny : Refused) → found ≡ Err deny → (out : List ℕ) →
      list_into (in_numbers found) [] out ≡ print_into f text out
  unfolding list_into limit
  refused-prints deny told out =
      rw told
      (listed out _
      (listed-place (reading_of f text).cells buf o (omega (arith, few)) (reading_of f text).ending deny.0 deny.1
      (rw told at ended)))

pub long-prints :
    (f : Format) (text out : List ℕ) → 16384 < length text →
    list_into (numbered 16 16384) [] out ≡ print_into f text out
unfolding list_into limit print_into
long-prints f text out h = ap (λ (l : List ℕ). deliver l out) (sym (long-refused f text h))
