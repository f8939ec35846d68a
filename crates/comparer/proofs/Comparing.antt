-- Comparing two texts step by step. Assumes nothing.
use Prim.Native.Nat.{ℕ, suc, ◌+◌, ◌<◌, ◌≤◌}
use mathlib.Core.Path.{◌≡◌, refl, sym, ap, ◌∙◌}
use mathlib.Core.Bool.{Bool, true, false, cond}
use mathlib.Core.List.{List, []}
use native.Mathlib.Omega.{arith}
use native.Mathlib.Numerals.{add-one}
use lib.ListN.{length, get_or, drop, length-map, drop_of_length-le}
use lib.Seq.{drop-cons}
use lib.Dec.{ltb, eqb}
use borrow.Author.Tests.{ltb-true, ltb-false, eq-eqb, ne_eqb}
use Rattle.std.specs.declared.result.Result.TheVariants.{Ok, Err}
use Rattle.answer.specs.declared.Refused.{Refused}
use Rattle.answer.specs.Answer.{Verdict, numbered, number_of, in_numbers, limit, Answer}
use Rattle.answer.specs.declared.Refusal.{Refusal}
use Rattle.answer.proofs.Once.{number-pos}
use Rattle.reading.specs.Reading.{Rule, reading}
use Rattle.reading.specs.Spans.{Marking, no_mark, marked_in}
use Rattle.reading.specs.Stepping.{cell, final, after_steps}
use Rattle.reading.specs.declared.Marked.{Marked}
use Rattle.reading.proofs.Spans.{marked-cells}
use Rattle.reading.proofs.Filling.{few-cells}
use Rattle.utf7.specs.Rule.{utf7}
use Rattle.utf7.specs.Spans as utf7-spans
use Rattle.jp2.specs.Rule.{jp2}
use Rattle.jp2.specs.Spans as jp2-spans
use Rattle.mailbox.specs.Rule.{mailbox}
use Rattle.mailbox.specs.Spans as mailbox-spans
use Rattle.codec.specs.declared.Format.{Format}
use Rattle.codec.specs.declared.Format as format
use Rattle.stepper.specs.declared.Place.{Place}
use Rattle.stepper.specs.Stepper.{a_cell, the_answer, gift, given_at, place_after, start_of, reading_of, marked_of, nth_gift}
use Rattle.comparer.proofs.Places.{Steps, nth-given}
use Rattle.comparer.specs.Compare.{Comparison, same, part, refused, marks_of, verdict_in, parts_at, parts_of}
use Rattle.comparer.specs.Compare.{unless_refused, judged_by, compare_of}
use Rattle.comparer.specs.declared.Text.TheVariants.{First, Second}

-- a text has no more cells than bytes
few-marked :
    {S : Type 0} (rule : Rule S) (marking : Marking S) (text : List ℕ) →
    length (marked_in rule marking text) ≤ length text
few-marked rule marking text =
    let e : length (marked_in rule marking text) ≡ length (reading rule text).cells =
    simp length-map at (ap length (marked-cells rule marking text))
    in
    omega (arith, e, few-cells rule text)

few-of : (f : Format) (text : List ℕ) → length (marked_of f text) ≤ length text
few-of format.TheVariants.Utf7 text = few-marked utf7 utf7-spans.span_in text
few-of format.TheVariants.Jp2 text = few-marked jp2 jp2-spans.span_in text
few-of format.TheVariants.Mailbox text = few-marked mailbox mailbox-spans.span_in text

few-by : (t : Bool) (ms : List Marked) (k : ℕ) → length ms ≤ k → length (cond t [] ms) ≤ k
few-by true ms k h = omega arith
few-by false ms k h = h

pub few-marks : (f : Format) (text : List ℕ) → length (marks_of f text) ≤ length text
few-marks f text = few-by (ltb limit (length text)) (marked_of f text) (length text) (few-of f text)

pub steps-start : (f : Format) (text : List ℕ) → Steps f text 0 (start_of f)
unfolding after_steps
steps-start f text = record { stands = refl; inside = omega arith }

-- two gifts of different make
no_answer : {X : Type 0} {m : Marked} {v : Verdict} → a_cell m ≡ the_answer v → X
no_answer e =
    let z : ◌≡◌ {A = ℕ} 0 1 = cc in
    absurd (omega arith)

module _ {f : Format} {text : List ℕ} {n : ℕ} {place : Place} (s : Steps f text n place) where
  given : given_at text place ≡ nth_gift text (reading_of f text) (marked_of f text) n
  given = rw s.stands (nth-given f text n)

  steps_next : n < length (marks_of f text) → Steps f text (n + 1) (place_after text place)
  unfolding after_steps
  steps_next h = record { stands = rw (s.stands, add-one); inside = omega arith }

  -- a cell that is given is the next one, and an answer is given where there is none
  abbrev IsCell : Marked → Type 0
  IsCell m =
      (n < length (marks_of f text)) × (get_or (marks_of f text) n no_mark ≡ m)
      × Steps f text (n + 1) (place_after text place)

  cell-by :
      (t : Bool) (m : Marked) → ltb n (length (marks_of f text)) ≡ t →
      gift {P = Unit} (cond t (cell (get_or (marks_of f text) n no_mark) tt) (final (verdict_in f text)))
      ≡ a_cell m → IsCell m
  cell-by true m t e =
      let h = ltb-true n (length (marks_of f text)) t in
      (h, cc, steps_next h)
  cell-by false m t e = no_answer (sym e)

  pub is-cell : {m : Marked} → a_cell m ≡ given_at text place → IsCell m
  is-cell {m} e = cell-by (ltb n (length (marks_of f text))) m refl (sym given ∙ sym e)

  abbrev IsEnd : Verdict → Type 0
  IsEnd v = (n ≡ length (marks_of f text)) × (v ≡ verdict_in f text)

  end_by :
      (t : Bool) (v : Verdict) → ltb n (length (marks_of f text)) ≡ t →
      gift {P = Unit} (cond t (cell (get_or (marks_of f text) n no_mark) tt) (final (verdict_in f text)))
      ≡ the_answer v → IsEnd v
  end_by true v t e = no_answer e
  end_by false v t e =
      let h = ltb-false n (length (marks_of f text)) t in
      (omega (arith, s.inside), cc)

  pub is-end : {v : Verdict} → the_answer v ≡ given_at text place → IsEnd v
  is-end {v} e = end_by (ltb n (length (marks_of f text))) v refl (sym given ∙ sym e)

-- both texts are read up to their n-th cells, and those are the same: what is left decides
pub record Beside (f : Format) (one two : List ℕ) (p q : Place) (n : ℕ) : Type 0 where
  pub left : Steps f one n p
  pub right : Steps f two n q
  pub so :
      parts_at (length one) (length two) n (drop n (marks_of f one)) (drop n (marks_of f two))
      ≡ parts_of f one two

pub beside-start : (f : Format) (one two : List ℕ) → Beside f one two (start_of f) (start_of f) 0
beside-start f one two = record { left = steps-start f one; right = steps-start f two; so = refl }

module _ {f : Format} {one two : List ℕ} {p q : Place} {n : ℕ} (b : Beside f one two p q n) where
  abbrev Parts : Comparison → Type 0
  Parts c = c ≡ parts_of f one two

  module _ {c d : Marked} (x : a_cell c ≡ given_at one p) (y : a_cell d ≡ given_at two q) where
    decide :
        cond (eqb c.value d.value)
        (parts_at (length one) (length two) (suc n) (drop (suc n) (marks_of f one)) (drop (suc n) (marks_of f two)))
        (part n c.begin d.begin)
        ≡ parts_of f one two
    unfolding parts_at
    decide =
        let i = is-cell b.left x in
        let j = is-cell b.right y in
        rw (drop-cons (marks_of f one) n no_mark i.0, drop-cons (marks_of f two) n no_mark j.0, i.1, j.1) at b.so

    pub beside-next : c.value ≡ d.value → Beside f one two (place_after one p) (place_after two q) (n + 1)
    beside-next e =
        record {
          left = (is-cell b.left x).2;
          right = (is-cell b.right y).2;
          so = rw add-one (rw (eq-eqb c.value d.value e) at decide);
        }

    pub beside-part : (c.value ≡ d.value → ⊥) → Parts (part n c.begin d.begin)
    beside-part e = rw (ne_eqb c.value d.value e) at decide

  pub beside_first :
      {v : Verdict} {d : Marked} → the_answer v ≡ given_at one p → a_cell d ≡ given_at two q →
      Parts (part n (length one) d.begin)
  unfolding parts_at
  beside_first {v} {d} x y =
      let i = is-end b.left x in
      let j = is-cell b.right y in
      let z : length (marks_of f one) ≤ n = omega (arith, i.0) in
      rw (drop_of_length-le (marks_of f one) z, drop-cons (marks_of f two) n no_mark j.0, j.1) at b.so

  pub beside-second :
      {v : Verdict} {c : Marked} → a_cell c ≡ given_at one p → the_answer v ≡ given_at two q →
      Parts (part n c.begin (length two))
  unfolding parts_at
  beside-second {v} {c} x y =
      let i = is-cell b.left x in
      let j = is-end b.right y in
      let z : length (marks_of f two) ≤ n = omega (arith, j.0) in
      rw (drop_of_length-le (marks_of f two) z, drop-cons (marks_of f one) n no_mark i.0, i.1) at b.so

  pub beside_same : {v w : Verdict} → the_answer v ≡ given_at one p → the_answer w ≡ given_at two q → Parts (same n)
  unfolding parts_at
  beside_same x y =
      let i = is-end b.left x in
      let j = is-end b.right y in
      let z : length (marks_of f one) ≤ n = omega (arith, i.0) in
      let u : length (marks_of f two) ≤ n = omega (arith, j.0) in
      rw (drop_of_length-le (marks_of f one) z, drop_of_length-le (marks_of f two) u) at b.so

-- the judgement, by both answers
refuses : (why : Refusal) → eqb (number_of why) 0 ≡ false
refuses why = ne_eqb (number_of why) 0 (λ z. omega (arith, number-pos why))

pub judged-first :
    {one : Answer} {deny : Refused} (otherwise : Comparison) → one ≡ Err deny →
    refused First (numbered (number_of deny.0) deny.1) ≡ unless_refused First (in_numbers one) otherwise
judged-first {deny = deny} otherwise e = rw (e, refuses deny.0)

pub judged-second :
    {one two : Answer} {n : ℕ} {deny : Refused} (found : Comparison) → one ≡ Ok n →
    two ≡ Err deny →
    refused Second (numbered (number_of deny.0) deny.1) ≡ judged_by (in_numbers one) (in_numbers two) found
judged-second {deny = deny} found d e = rw (d, e, refuses deny.0)

pub judged :
    {one two : Answer} {n m : ℕ} (found : Comparison) → one ≡ Ok n → two ≡ Ok m →
    found ≡ judged_by (in_numbers one) (in_numbers two) found
judged found d e = rw (d, e)

pub compared :
    (f : Format) (one two : List ℕ) {r found : Comparison} {v w : Verdict} → r ≡ judged_by v w found →
    v ≡ verdict_in f one → w ≡ verdict_in f two → found ≡ parts_of f one two → r ≡ compare_of f one two
unfolding compare_of
compared f one two e v w found = rw (← v, ← w, ← found) e
