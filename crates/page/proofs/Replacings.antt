-- What replace gives, refusal by refusal, and the edit and the record that it makes. Assumes nothing.
use Prim.Native.Nat.{ℕ, ◌+◌, ◌-◌, ◌≤◌, ◌<◌}
use mathlib.Core.Path.{◌≡◌, refl, sym, ap, ◌∙◌}
use mathlib.Core.Bool.{Bool, true, false, cond}
use mathlib.Core.List.{List, [], ◌++◌}
use native.Mathlib.Omega.{arith}
use lib.ListN.{length, take, drop, length-append, length-take, length-drop}
use lib.Seq.{length-take-le, take-take}
use lib.Dec.{ltb}
use borrow.Author.Tests.{lt-ltb, le-ltb}
use Rattle.std.specs.Prelude.{Err}
use Rattle.answer.specs.Answer.{numbered, in_numbers, too_long, Answer}
use Rattle.codec.specs.Kinds.{first_unwritable}
use Rattle.ledger.specs.Words.{Entry, Parted, size_of, words_of, pad}
use Rattle.ledger.specs.Page.{State, text_in, leaves}
use Rattle.ledger.specs.Calls.{refusing, over, applied, entry_at, replace_of}
use Rattle.editor.specs.Marks.{Mark, replaced_mark}
use Rattle.editor.specs.Ledger.{replace}
use Rattle.editor.specs.Editor as editor
use Rattle.editor.specs.Layout.{laid, call_on, outcome_of}
use Rattle.ledger.specs.Layout.{editor_of, editor_for, space_in, page}
use Rattle.ledger.proofs.Words.{drop-take}
use Rattle.ledger.specs.declared.Edited.{Edited}
use Rattle.answer.specs.declared.Refused.{Refused}
use Rattle.records.specs.Walking.{judge_of}
use Rattle.records.proofs.Found.{Fit, unfit}
use Rattle.splice.specs.Splice.{spliced}
use Rattle.page.specs.Outcomes.{edited_as, replace_fitting, replace_sound}

-- what is made of two tests that go the same way is the same if it is so on either side
pub by-test :
    {A B : Type 0} (f : A → B) (t : Bool) {a b c d : A} → f a ≡ f b → f c ≡ f d → f (cond t a c) ≡ f (cond t b d)
by-test f true p q = p
by-test f false p q = q

module _ (s : State) (place count : ℕ) (cells : List ℕ) where
  abbrev step : Entry
  step = entry_at (text_in s) place count cells

  -- the new length, and the words needed
  abbrev after : ℕ
  after = s.page.length - count + length cells

  abbrev used : ℕ
  used = s.page.done + (3 + count + length cells)

  module _ (within : place + count ≤ s.page.length) (fits : s.page.length ≤ length s.text) where
    length-text : length (text_in s) ≡ s.page.length
    length-text = length-take-le s.page.length s.text fits

    length_removed : length step.removed ≡ count
    length_removed = simp (length-take, length-drop) (omega arith)

    applied-is : applied step (text_in s) ≡ spliced place count cells (text_in s)
    applied-is = rw length_removed

    length-applied : length (applied step (text_in s)) ≡ after
    length-applied = rw applied-is (simp (length-append, length-take, length-drop) (omega arith))

    size_is : s.page.done + size_of step ≡ used
    size_is = rw length_removed

    pub no_room : length s.text < after → replace_fitting s step ≡ refusing s [] (numbered 9 after)
    unfolding replace_fitting editor.replace_fitting
    no_room q = rw (length-applied, lt-ltb (length s.text) after q)

    pub no_words : after ≤ length s.text → length s.history < used → replace_fitting s step ≡ refusing s [] (numbered 12 used)
    unfolding replace_fitting editor.replace_fitting
    no_words q r = rw (length-applied, le-ltb (length s.text) after q, size_is, lt-ltb (length s.history) used r)

    -- the cells removed, as the code lends them
    abbrev part : List ℕ
    part = take (place + count - place) (drop place s.text)

    part-is : part ≡ step.removed
    part-is =
        let n : place + count - place ≡ count = omega arith in
        rw (n, drop-take place s.page.length s.text) (sym (take-take count (s.page.length - place) (drop place s.text) (omega arith)))

    pub length_part : length part ≡ count
    length_part = ap length part-is ∙ length_removed

    pub replaced-is :
        (r : Edited) (x y : List ℕ) → after ≤ length s.text → used ≤ length s.history →
        (mark : Mark) → mark ≡ replaced_mark s.page.done s.page.saved →
        r ≡ edited_as s.page (spliced place count cells (text_in s)) used used mark →
        x ≡ pad (length s.text) (spliced place count cells (text_in s)) →
        y ≡ pad (length s.history) (take s.page.done s.history ++ words_of (record { place = place; removed = part; added = cells })) →
        leaves r x y ≡ replace_fitting s step
    unfolding replace_fitting editor.replace_fitting
    replaced-is r x y p q mark m e f g =
        let t = le-ltb (length s.text) (length (applied step (text_in s))) (omega (arith, length-applied)) in
        let u = le-ltb (length s.history) (s.page.done + size_of step) (omega (arith, size_is)) in
        (λ i. leaves (e i) (f i) (g i)) ∙ rw (m, t, u, applied-is, size_is, part-is)

  module _ (fits : s.page.length ≤ length s.text) where
    text-is : length (text_in s) ≡ s.page.length
    text-is = length-take-le s.page.length s.text fits

    pub beyond :
        s.page.length < place + count →
        replace_sound s place count cells ≡ refusing s [] (numbered 11 s.page.length)
    unfolding replace_sound editor.replace_at
    beyond q = rw (text-is, lt-ltb s.page.length (place + count) q)

    module _
        (within : place + count ≤ s.page.length)
        (first : ℕ)
        (e : first ≡ first_unwritable s.page.kind cells) where
      pub unwritable : first < length cells → replace_sound s place count cells ≡ refusing s [] (numbered 10 first)
      unfolding replace_sound editor.replace_at
      unwritable q = rw (text-is, le-ltb s.page.length (place + count) within, ← e, lt-ltb first (length cells) q)

      pub writable : length cells ≤ first → replace_sound s place count cells ≡ replace_fitting s step
      unfolding replace_sound replace_fitting editor.replace_at
      writable q = rw (text-is, le-ltb s.page.length (place + count) within, ← e, le-ltb first (length cells) q)

  pub replace-long : over cells ≡ true → replace_of s place count cells ≡ refusing s [] too_long
  unfolding outcome_of
  replace-long q = rw q

  -- whatever the records are
  any-records :
      (v : Parted) →
      laid page s (editor.replace_at (space_in s) (editor_of s v) place count cells) ≡ replace_sound s place count cells
  unfolding replace_sound editor.replace_at editor.replace_fitting
  any-records v =
      by-test (laid page s) (ltb (length (text_in s)) (place + count)) refl
      (by-test (laid page s) (ltb (first_unwritable s.page.kind cells) (length cells)) refl
      (by-test (laid page s) (ltb (length s.text) (length (applied step (text_in s)))) refl
      (by-test (laid page s) (ltb (length s.history) (s.page.done + size_of step)) refl refl)))

  module _ (few : over cells ≡ false) where
    pub replace-unfit : {j : Answer} {a : Refused} → j ≡ judge_of s → j ≡ Err a → replace_of s place count cells ≡ refusing s [] (in_numbers (Err a))
    unfolding outcome_of call_on
    replace-unfit d e = rw few (unfit s _ (refusing s []) (λ x. call_on page s (replace place count cells) (editor_for s x)) refl d e)

    pub replace-fit : {last : ℕ} → Fit s last → replace_of s place count cells ≡ replace_sound s place count cells
    unfolding outcome_of call_on
    replace-fit f = rw (few, f.short, f.found) (any-records f.parted)
