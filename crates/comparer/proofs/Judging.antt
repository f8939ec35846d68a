-- The answer of a text with room enough, by that of reading it into any output; and texts equal byte for byte. Assumes
-- nothing.
use Prim.Native.Nat.{ℕ, ◌+◌, ◌<◌, ◌≤◌}
use mathlib.Core.Path.{◌≡◌, refl, sym, ap, ◌∙◌}
use mathlib.Core.Bool.{Bool, true, false, cond, ◌&&◌, false≢true}
use mathlib.Core.List.{List, []}
use native.Mathlib.Omega.{arith}
use lib.ListN.{length, get_or, length-map}
use lib.Dec.{ltb, eqb}
use borrow.Author.Tests.{eqb-true, eqb-false, eq-eqb, ne_eqb}
use Rattle.answer.specs.Answer.{Verdict, numbered, in_numbers, limit, too_long, Answer}
use Rattle.answer.specs.Output.{Outcome, leaves, refusing, deliver}
use Rattle.reading.specs.Reading.{Ending, accepted, fault, closing, on_ending}
use Rattle.reading.specs.declared.Marked.{Marked}
use Rattle.reading.proofs.Spans.{values, marked-cells}
use Rattle.utf7.specs.Sets.{member}
use Rattle.utf7.specs.Rule.{utf7}
use Rattle.utf7.specs.Spans as utf7-spans
use Rattle.jp2.specs.Rule.{jp2}
use Rattle.jp2.specs.Spans as jp2-spans
use Rattle.mailbox.specs.Rule.{mailbox}
use Rattle.mailbox.specs.Spans as mailbox-spans
use Rattle.codec.specs.declared.Format.{Format}
use Rattle.codec.specs.declared.Format.TheVariants.{Utf7, Jp2, Mailbox}
use Rattle.codec.specs.Kinds as kinds
use Rattle.codec.specs.Demand.{faults_in}
use Rattle.codec.proofs.ByKind.{read-form}
use Rattle.codec.proofs.Faults.{KnownEnd, known}
use Rattle.stepper.specs.Stepper.{reading_of, marked_of}
use Rattle.comparer.specs.Compare.{same, marks_of, verdict_in, compare_of}
use Rattle.comparer.proofs.Laws.{with_itself, alike_same}

-- 9 with the count that an output lacked room for is 0 with that count where there is room
abbrev pub roomy : Verdict → Verdict
roomy v = cond (eqb v.number 9) (numbered 0 v.place) v

-- no fault has the number 0 or 9
other-by :
    (f : Format) (k n : ℕ) (t : Bool) → member (faults_in f) n ≡ false → eqb k n ≡ t → member (faults_in f) k ≡ true →
    t ≡ false
other-by f k n true z e h = absurd (false≢true (sym z ∙ rw (eqb-true k n e) at h))
other-by f k n false z e h = refl

not-nine : (f : Format) → member (faults_in f) 9 ≡ false
not-nine Utf7 = refl
not-nine Jp2 = refl
not-nine Mailbox = refl

not-zero : (f : Format) → member (faults_in f) 0 ≡ false
not-zero Utf7 = refl
not-zero Jp2 = refl
not-zero Mailbox = refl

roomy-by :
    (t : Bool) (one two : Outcome) (v : Verdict) → roomy one.verdict ≡ v → roomy two.verdict ≡ v →
    roomy (cond {A = Outcome} t one two).verdict ≡ v
roomy-by true one two v e q = e
roomy-by false one two v e q = q

roomy-delivered : (cells out : List ℕ) → roomy (deliver cells out).verdict ≡ numbered 0 (length cells)
unfolding deliver
roomy-delivered cells out = roomy-by (ltb (length out) (length cells)) _ _ _ refl refl

roomy-ended :
    (f : Format) (e : Ending) (cells out : List ℕ) → KnownEnd (faults_in f) e →
    roomy (on_ending e cells out).verdict ≡ closing e (length cells)
roomy-ended f accepted cells out k = roomy-delivered cells out
roomy-ended f (fault n place) cells out k = rw (other-by f n 9 (eqb n 9) (not-nine f) refl k)

pub same-reading : (f : Format) (text : List ℕ) → kinds.reading_of f text ≡ reading_of f text
unfolding kinds.reading_of
same-reading Utf7 text = refl
same-reading Jp2 text = refl
same-reading Mailbox text = refl

long-by :
    (t : Bool) (o : Outcome) (out : List ℕ) (v : Verdict) → roomy o.verdict ≡ v →
    roomy (cond {A = Outcome} t (refusing too_long out) o).verdict ≡ cond t too_long v
long-by true o out v e = refl
long-by false o out v e = e

-- "those of reading without 9": an answer of reading into any output tells that of reading with room enough
pub as-asked : (f : Format) (text out : List ℕ) → roomy (kinds.read_in f text out).verdict ≡ verdict_in f text
as-asked f text out =
    rw (read-form f text out, ← same-reading f text)
    (let r = kinds.reading_of f text in
    long-by (ltb limit (length text)) (on_ending r.ending r.cells out) out _
    (roomy-ended f r.ending r.cells out (known f text)))

-- by what reading into some output left
module _ (f : Format) (text : List ℕ) (found : Answer) (out out' : List ℕ)
    (e : leaves found out' ≡ kinds.read_in f text out) where
  told : roomy (in_numbers found) ≡ verdict_in f text
  told = ap (λ (o : Outcome). roomy o.verdict) e ∙ as-asked f text out

  pub told-cramped : (in_numbers found).number ≡ 9 → numbered 0 (in_numbers found).place ≡ verdict_in f text
  told-cramped h = rw (eq-eqb (in_numbers found).number 9 h) at told

  pub told-other : ((in_numbers found).number ≡ 9 → ⊥) → in_numbers found ≡ verdict_in f text
  told-other h = rw (ne_eqb (in_numbers found).number 9 h) at told

-- the values of a text's marks are its cells
values_of : (f : Format) (text : List ℕ) → values (marked_of f text) ≡ (reading_of f text).cells
values_of Utf7 text = marked-cells utf7 utf7-spans.span_in text
values_of Jp2 text = marked-cells jp2 jp2-spans.span_in text
values_of Mailbox text = marked-cells mailbox mailbox-spans.span_in text

-- an accepted text has as many cells as its answer says, and its marks are all of them
module _ (f : Format) (text : List ℕ) (n : ℕ) where
  as_many : length (marked_of f text) ≡ length (reading_of f text).cells
  as_many = simp length-map at (ap length (values_of f text))

  count-ended : (e : Ending) (m : ℕ) → KnownEnd (faults_in f) e → numbered 0 n ≡ closing e m → n ≡ m
  count-ended accepted m k q = ap (λ (v : Verdict). v.place) q
  count-ended (fault z place) m k q =
      absurd (false≢true (sym (not-zero f) ∙ rw (sym (ap (λ (v : Verdict). v.number) q)) at k))

  count_by :
      (t : Bool) (e : Ending) (m : ℕ) (ms : List Marked) → length ms ≡ m → KnownEnd (faults_in f) e →
      numbered 0 n ≡ cond t too_long (closing e m) → n ≡ length (cond t [] ms)
  count_by true e m ms l k q = absurd (omega (arith, ap (λ (v : Verdict). v.number) q))
  count_by false e m ms l k q = count-ended e m k q ∙ sym l

  counted : numbered 0 n ≡ verdict_in f text → n ≡ length (marks_of f text)
  counted q =
      count_by (ltb limit (length text)) (reading_of f text).ending (length (reading_of f text).cells) (marked_of f text)
      as_many (rw (same-reading f text) at (known f text)) q

  values-by :
      (t : Bool) (v : Verdict) (ms : List Marked) (cells : List ℕ) → values ms ≡ cells →
      numbered 0 n ≡ cond t too_long v → values (cond t [] ms) ≡ cells
  values-by true v ms cells l q = absurd (omega (arith, ap (λ (x : Verdict). x.number) q))
  values-by false v ms cells l q = l

  accepted-values : numbered 0 n ≡ verdict_in f text → values (marks_of f text) ≡ (reading_of f text).cells
  accepted-values q =
      values-by (ltb limit (length text)) _ (marked_of f text) (reading_of f text).cells (values_of f text) q

  -- and is the same as itself
  pub same-itself : numbered 0 n ≡ verdict_in f text → same n ≡ compare_of f text text
  same-itself q = rw (counted q) (sym (rw (← q) at (with_itself f text)))

-- two accepted texts that read as the same cells
pub same_read :
    (f : Format) (first second : List ℕ) (n m : ℕ) → numbered 0 n ≡ verdict_in f first →
    numbered 0 m ≡ verdict_in f second → (reading_of f first).cells ≡ (reading_of f second).cells →
    same n ≡ compare_of f first second
same_read f first second n m v w e =
    sym
    (alike_same f first second n
    (record {
      one = sym (ap (λ (x : Verdict). x.number) v);
      two = sym (ap (λ (x : Verdict). x.number) w);
      cells = accepted-values f first n v ∙ e ∙ sym (accepted-values f second m w);
      count = counted f first n v;
    }))

-- equal so far, byte by byte
abbrev pub Equal : List ℕ → List ℕ → ℕ → Type 0
Equal first second k = (i : ℕ) → i < k → get_or first i 0 ≡ get_or second i 0

module _ (first second : List ℕ) (k : ℕ) where
  equal_by :
      (so t : Bool) → eqb (get_or first k 0) (get_or second k 0) ≡ t → (so ≡ true → Equal first second k) →
      (so && t) ≡ true → Equal first second (k + 1)
  equal_by true true e h z = λ i l. dec i l (eqb i k) refl
    where
      dec : (i : ℕ) → i < k + 1 → (t : Bool) → eqb i k ≡ t → get_or first i 0 ≡ get_or second i 0
      dec i l true q = rw (eqb-true i k q) (eqb-true (get_or first k 0) (get_or second k 0) e)
      dec i l false q = h refl i (omega (arith, eqb-false i k q))
  equal_by true false e h z = absurd (false≢true z)
  equal_by false t e h z = absurd (false≢true z)

  pub equal_next :
      (so : Bool) → (so ≡ true → Equal first second k) →
      (so && eqb (get_or first k 0) (get_or second k 0)) ≡ true → Equal first second (k + 1)
  equal_next so h z = equal_by so (eqb (get_or first k 0) (get_or second k 0)) refl h z
