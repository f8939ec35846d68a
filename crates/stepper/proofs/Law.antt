-- Stepping from the start gives exactly the cells of the reading, in order, then for ever its answer; in any format. Assumes nothing.
use Prim.Native.Nat.{ℕ, zero, suc, ◌≤◌}
use mathlib.Core.Path.{◌≡◌, refl, ap, ◌∙◌}
use mathlib.Core.Bool.{Bool, true, false, cond}
use mathlib.Core.List.{List}
use lib.ListN.{length, get_or}
use lib.Dec.{ltb}
use denote.Ref.{Bor}
use borrow.Author.Tests.{le-ltb}
use Rattle.answer.specs.Answer.{Verdict, limit, too_long}
use Rattle.answer.specs.Output.{refusing, deliver}
use Rattle.reading.specs.Reading.{Ending, accepted, fault, Rule, verdict_of, closing, on_ending, reading, read_into}
use Rattle.reading.specs.Spans.{Marking, no_mark, marked_in}
use Rattle.reading.specs.declared.Marked.{Marked}
use Rattle.reading.specs.Stepping.{Next, cell, final, onward, on_spot, at_start, after_steps, cells_of, answer_of, nth_of}
use Rattle.reading.proofs.Cursors as cursors
use Rattle.reading.proofs.Cursors.{Cursors, step_for, cursor_after}
use Rattle.utf7_read.proofs.Nth.{utf7-cursors}
use Rattle.jp2_read.proofs.Nth.{jp2-cursors}
use Rattle.mailbox_read.proofs.Nth.{mailbox-cursors}
use Rattle.stepper.specs.Stepper.{gift, start_of, step_of, given_by, reader_after, reading_of, marked_of, nth_gift}
use Rattle.codec.specs.declared.Format.{Format}
use Rattle.codec.specs.declared.Format as format
use Rattle.stepper.specs.declared.Place.{Place}
use Rattle.stepper.specs.declared.Place.TheVariants.{Utf7, Jp2, Mailbox}
use Rattle.stepper.specs.declared.Reader.{Reader}

onward-place : {C : Type 0} (f : C → Place) (x : Next C) (c : C) → on_spot (onward f x) (f c) ≡ f (on_spot x c)
onward-place f (cell m next) c = refl
onward-place f (final answer) c = refl

gift-onward : {C : Type 0} (f : C → Place) (x : Next C) → gift (onward f x) ≡ gift x
gift-onward f (cell m next) = refl
gift-onward f (final answer) = refl

-- what is handed out, wherever the reader then stands
gift-by :
    {P Q : Type 0} (m : Marked) (answer : Verdict) (p : P) (q : Q) (t : Bool) →
    gift (cond t (cell m p) (final answer)) ≡ gift (cond t (cell m q) (final answer))
gift-by m answer p q true = refl
gift-by m answer p q false = refl

gift-nth :
    {P Q : Type 0} (cells : List Marked) (answer : Verdict) (n : ℕ) (p : P) (q : Q) →
    gift (nth_of cells answer n p) ≡ gift (nth_of cells answer n q)
gift-nth cells answer n p q = gift-by (get_or cells n no_mark) answer p q (ltb n (length cells))

-- a format whose places are some cursors: it starts at their start, and steps from a place are steps from its cursor
module _ {S C : Type 0} {rule : Rule S} {marking : Marking S} (cs : Cursors rule marking C) (place : C → Place) (f : Format) (starts : start_of f ≡ place (cs.cursor (at_start rule)))
    (steps : (text : List ℕ) (c : C) → step_of text (place c) ≡ onward place (step_for cs text c)) (text : Bor (List ℕ)) where
  abbrev standing : ℕ → Reader
  standing n = record { text = text; place = place (cursor_after cs text.now n) }

  reader-stands : (n : ℕ) → reader_after text f n ≡ standing n
  unfolding reader_after cursor_after after_steps
  reader-stands zero = rw starts
  reader-stands (suc n) =
      let c = cursor_after cs text.now n in
      rw (reader-stands n, steps text.now c) (ap (λ p. record { text = text; place = p }) (onward-place place (step_for cs text.now c) c))

  abbrev marked : List Marked
  marked = marked_in rule marking text.now

  nth-given : (n : ℕ) → given_by (reader_after text f n) ≡ nth_gift text.now (reading rule text.now) marked n
  nth-given n =
      let c = cursor_after cs text.now n in
      let cells = cells_of text.now marked in
      let answer = answer_of text.now (reading rule text.now) in
      rw (reader-stands n, steps text.now c, gift-onward place (step_for cs text.now c))
      (ap gift (cursors.nth-step cs text.now n) ∙ gift-nth {Q = Unit} cells answer n (cursor_after cs text.now (suc n)) tt)

-- the n-th step from `new` gives the n-th cell with its bytes, and after the cells the answer, for ever
pub nth-step : (text : Bor (List ℕ)) (f : Format) (n : ℕ) → given_by (reader_after text f n) ≡ nth_gift text.now (reading_of f text.now) (marked_of f text.now) n
nth-step text format.TheVariants.Utf7 = nth-given utf7-cursors Utf7 format.TheVariants.Utf7 refl (λ _ _. refl) text
nth-step text format.TheVariants.Jp2 = nth-given jp2-cursors Jp2 format.TheVariants.Jp2 refl (λ _ _. refl) text
nth-step text format.TheVariants.Mailbox = nth-given mailbox-cursors Mailbox format.TheVariants.Mailbox refl (λ _ _. refl) text

-- and the text stays what it was
pub text-stays : (text : Bor (List ℕ)) (f : Format) (n : ℕ) → (reader_after text f n).text ≡ text
unfolding reader_after
text-stays text f zero = refl
text-stays text f (suc n) = text-stays text f n

-- that answer is what reading the whole text into an output with room enough gives
module _ {S : Type 0} (rule : Rule S) (text out : List ℕ) where
  delivers : (e : Ending) (cells : List ℕ) → length cells ≤ length out → (on_ending e cells out).verdict ≡ closing e (length cells)
  unfolding deliver
  delivers accepted cells h = rw (le-ltb (length out) (length cells) h)
  delivers (fault k place) cells h = refl

  pub room-enough : length (reading rule text).cells ≤ length out → (read_into rule text out).verdict ≡ answer_of text (reading rule text)
  unfolding read_into
  room-enough h = over (ltb limit (length text))
    where
      over : (t : Bool) → (cond t (refusing too_long out) (on_ending (reading rule text).ending (reading rule text).cells out)).verdict ≡ cond t too_long (verdict_of (reading rule text))
      over true = refl
      over false = delivers (reading rule text).ending (reading rule text).cells h
