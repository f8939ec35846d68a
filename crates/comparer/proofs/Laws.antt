-- What the comparer's answers mean in the words of reading. Assumes nothing.
use Prim.Native.Nat.{ℕ, suc, ◌+◌, ◌<◌, ◌≤◌}
use mathlib.Core.Path.{◌≡◌, refl, sym, ap, ◌∙◌}
use mathlib.Core.Bool.{Bool, true, false, cond, false≢true}
use mathlib.Core.List.{List, [], ◌∷◌}
use native.Mathlib.Omega.{arith}
use native.Mathlib.Nat.{add-zero}
use lib.ListN.{length, get_or, drop}
use lib.Dec.{ltb, eqb}
use borrow.Author.Tests.{lt-ltb, eqb-true, eq-eqb}
use Rattle.answer.specs.Answer.{Verdict, numbered, limit, too_long}
use Rattle.reading.specs.declared.Marked.{Marked}
use Rattle.reading.proofs.Filling.{few-cells}
use Rattle.reading.proofs.Spans.{values}
use Rattle.utf7.specs.Rule.{utf7}
use Rattle.jp2.specs.Rule.{jp2}
use Rattle.mailbox.specs.Rule.{mailbox}
use Rattle.codec.specs.Kinds.{read_in}
use Rattle.codec.specs.declared.Format.{Format}
use Rattle.codec.specs.declared.Format.TheVariants.{Utf7, Jp2, Mailbox}
use Rattle.stepper.proofs.Law.{room-enough}
use Rattle.comparer.specs.Compare.{Comparison, same, part, refused, marks_of, verdict_in, parts_at, parts_of}
use Rattle.comparer.specs.Compare.{unless_refused, judged_by, compare_of}
use Rattle.comparer.specs.declared.Text.{Text}
use Rattle.comparer.specs.declared.Text.TheVariants.{First, Second}

-- "those of reading without 9": an answer is that of reading into an output with room enough
pub as_read :
    (f : Format) (text out : List ℕ) → length text ≤ length out → (read_in f text out).verdict ≡ verdict_in f text
unfolding read_in
as_read Utf7 text out h = room-enough utf7 text out (omega (arith, few-cells utf7 text))
as_read Jp2 text out h = room-enough jp2 text out (omega (arith, few-cells jp2 text))
as_read Mailbox text out h = room-enough mailbox text out (omega (arith, few-cells mailbox text))

-- "16 too"
pub first-long :
    (f : Format) (first second : List ℕ) → limit < length first → compare_of f first second ≡ refused First too_long
unfolding compare_of
first-long f first second h = rw (lt-ltb limit (length first) h)

abbrev is_same : Comparison → Bool
is_same (same n) = true
is_same (part n one two) = false
is_same (refused which v) = false

abbrev count_in : Comparison → ℕ
count_in (same n) = n
count_in (part n one two) = 0
count_in (refused which v) = 0

-- they are the same just if their cells are, and all of them are counted
module _ (one two : ℕ) where
  abbrev Equal : ℕ → ℕ → List Marked → List Marked → Type 0
  Equal k n ms ns = (values ms ≡ values ns) × (k ≡ n + length ms)

  equal_by :
      (t : Bool) (a b : Marked) (k n : ℕ) (ms ns : List Marked) → eqb a.value b.value ≡ t →
      (parts_at one two (suc n) ms ns ≡ same k → Equal k (suc n) ms ns) →
      cond t (parts_at one two (suc n) ms ns) (part n a.begin b.begin) ≡ same k → Equal k n (a ∷ ms) (b ∷ ns)
  equal_by true a b k n ms ns t rest e =
      let r = rest e in
      (rw (eqb-true a.value b.value t, r.0), omega (arith, r.1))
  equal_by false a b k n ms ns t rest e = absurd (false≢true (ap is_same e))

  pub same-equal : (k n : ℕ) (ms ns : List Marked) → parts_at one two n ms ns ≡ same k → Equal k n ms ns
  unfolding parts_at
  same-equal k n [] [] e = (refl, omega (arith, ap count_in e))
  same-equal k n [] (b ∷ ns) e = absurd (false≢true (ap is_same e))
  same-equal k n (a ∷ ms) [] e = absurd (false≢true (ap is_same e))
  same-equal k n (a ∷ ms) (b ∷ ns) e =
      equal_by (eqb a.value b.value) a b k n ms ns refl (same-equal k (suc n) ms ns) e

  pub equal-same :
      (n : ℕ) (ms ns : List Marked) → values ms ≡ values ns → parts_at one two n ms ns ≡ same (n + length ms)
  unfolding parts_at
  equal-same n [] [] e = rw add-zero
  equal-same n [] (b ∷ ns) e = absurd (omega (arith, ap length e))
  equal-same n (a ∷ ms) [] e = absurd (omega (arith, ap length e))
  equal-same n (a ∷ ms) (b ∷ ns) e =
      rw (eq-eqb a.value b.value (ap (λ l. get_or l 0 0) e))
      (equal-same (suc n) ms ns (ap (drop 1) e) ∙ ap same (omega arith))

-- told the same, both texts were accepted
refused-by :
    (t : Bool) (which : Text) (v : Verdict) (c : Comparison) (k : ℕ) → eqb v.number 0 ≡ t →
    cond t c (refused which v) ≡ same k → (v.number ≡ 0) × (c ≡ same k)
refused-by true which v c k t e = (eqb-true v.number 0 t, e)
refused-by false which v c k t e = absurd (false≢true (ap is_same e))

unrefused :
    (which : Text) (v : Verdict) (c : Comparison) (k : ℕ) → unless_refused which v c ≡ same k →
    (v.number ≡ 0) × (c ≡ same k)
unrefused which v c k e = refused-by (eqb v.number 0) which v c k refl e

module _ (f : Format) (first second : List ℕ) (k : ℕ) where
  pub record Alike : Type 0 where
    pub one : (verdict_in f first).number ≡ 0
    pub two : (verdict_in f second).number ≡ 0
    pub cells : values (marks_of f first) ≡ values (marks_of f second)
    pub count : k ≡ length (marks_of f first)

  pub same_alike : compare_of f first second ≡ same k → Alike
  unfolding compare_of
  same_alike e =
      let i = unrefused First (verdict_in f first) _ k e in
      let j = unrefused Second (verdict_in f second) _ k i.1 in
      let q = same-equal (length first) (length second) k 0 (marks_of f first) (marks_of f second) j.1 in
      record { one = i.0; two = j.0; cells = q.0; count = omega (arith, q.1) }

  pub alike_same : Alike → compare_of f first second ≡ same k
  unfolding compare_of
  alike_same a =
      rw (eq-eqb (verdict_in f first).number 0 a.one, eq-eqb (verdict_in f second).number 0 a.two, a.count)
      (equal-same (length first) (length second) 0 (marks_of f first) (marks_of f second) a.cells
      ∙ ap same (omega arith))

-- a text and itself: its refusal, or the count of its cells
judged-once :
    (t : Bool) (v : Verdict) {c d : Comparison} → c ≡ d →
    cond t (cond t c (refused Second v)) (refused First v) ≡ cond t d (refused First v)
judged-once true v e = e
judged-once false v e = refl

pub with_itself :
    (f : Format) (text : List ℕ) →
    compare_of f text text ≡ unless_refused First (verdict_in f text) (same (length (marks_of f text)))
unfolding compare_of
with_itself f text =
    judged-once (eqb (verdict_in f text).number 0) (verdict_in f text)
    (equal-same (length text) (length text) 0 (marks_of f text) (marks_of f text) refl ∙ ap same (omega arith))
