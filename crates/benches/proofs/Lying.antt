-- Each bench is a layout: two editors lie in one state, each is found there, and what a call makes of the caller's lies
-- in the state that the call leaves, the other beside it as it was. Assumes nothing.
use Prim.Native.Nat.{ℕ, ◌+◌, ◌≤◌, ◌<◌}
use mathlib.Core.Path.{◌≡◌, refl, sym, ap, ◌∙◌}
use mathlib.Core.Bool.{true, false, false≢true}
use mathlib.Core.List.{List, [], ◌∷◌, ◌++◌, map, reverse_aux, reverse, reverse-cons, reverse-reverse, append-nil}
use mathlib.Core.List.{reverse_aux-eq}
use native.Mathlib.Omega.{arith}
use lib.ListN.{length, take, drop, length-append, length-reverse, length-reverse_aux, length-map}
use lib.Seq.{take_at, drop_at}
use lib.Dec.{leb}
use borrow.Author.Tests.{le-leb, leb-false, eq-eqb, le-ltb}
use Rattle.answer.specs.Answer.{limit}
use Rattle.std.specs.Prelude.{None, Some}
use Rattle.editor.specs.Marks.{Mark}
use Rattle.editor.specs.Ledger.{Step, weight_of}
use Rattle.editor.specs.Records.{Entry, step_of, mark_fits}
use Rattle.editor.specs.Editor.{Editor, with_text, with_mark, words_in, over}
use Rattle.editor.proofs.Steps.{and-true}
use Rattle.editor.proofs.Marks.{ends-far}
use Rattle.editor.proofs.Ends.{entries}
use Rattle.editor.proofs.Held.{Legal}
use Rattle.editor.proofs.Promises.{Lays}
use Rattle.ledger.specs.Words.{pad}
use Rattle.ledger.specs.Parts.{mark_within}
use Rattle.ledger.proofs.Words.{length-pad, take-pad, zeros-pad}
use Rattle.ledger.proofs.Marks.{by-test}
use Rattle.benches.specs.declared.Bench.{Bench}
use Rattle.benches.specs.Words.{Side, first, second, at, Record, words, size_of, own, kept, in_steps}
use Rattle.benches.specs.Benches.{State, bench_sound, sound_at, judged, records}
use Rattle.benches.specs.Layout.{editor_of, long, left, marked_as, bench, space_in, records_after}
use Rattle.benches.proofs.Words.{other, by_side, at-put, at_other, records-words, words_append, own-append}
use Rattle.benches.proofs.Words.{own-kept, words-kept, own-other, own_new, other-new}

-- as many steps are done as stand, and a mark that is an end is at most their number
pub weight-steps : (steps : List Step) → weight_of in_steps steps ≡ length steps
weight-steps [] = refl
weight-steps (x ∷ rest) = omega (arith, weight-steps rest)

mark-within :
    (m : Mark) (es : List Entry) → mark_fits in_steps m (map step_of es) ≡ true → mark_within (length es) m ≡ true
mark-within None es h = refl
mark-within (Some n) es h =
    by-test (leb n (length es)) (λ t. t)
    (λ t.
    let far : weight_of in_steps (map step_of es) < n =
    omega (arith, leb-false n (length es) t, weight-steps (map step_of es), length-map es step_of) in
    absurd (false≢true (sym (ends-far in_steps (map step_of es) n far) ∙ h)))

module _ (e : Editor) where
  -- the records that stand, and those undone, among all in order
  take-entries : take (length e.standing) (entries e) ≡ reverse e.standing
  take-entries =
      rw (reverse_aux-eq e.standing)
      (take_at (reverse e.standing) e.undone (length e.standing) (length-reverse e.standing))

  drop-entries : drop (length e.standing) (entries e) ≡ e.undone
  drop-entries =
      rw (reverse_aux-eq e.standing)
      (drop_at (reverse e.standing) e.undone (length e.standing) (length-reverse e.standing))

-- the bench at which an editor lies, by its opening length
abbrev pub bench_of : ℕ → Editor → Bench
bench_of opening e =
    record {
      kind = e.kind;
      opening = opening;
      length = length e.text;
      standing = length e.standing;
      saved = e.saved;
    }

-- an editor lies at a bench, in a text buffer and in the bench's own records
pub record LiesAt (opening : ℕ) (b : Bench) (text : List ℕ) (es : List Entry) (e : Editor) : Type 0 where
  pub is : b ≡ bench_of opening e
  pub laid : text ≡ pad e.room e.text
  pub mine : es ≡ entries e
  pub small : e.room ≤ limit
  pub legal : Legal in_steps opening e

module _ {n : ℕ} {b : Bench} {text : List ℕ} {es : List Entry} {e : Editor} (l : LiesAt n b text es e) where
  room-is : length text ≡ e.room
  room-is = rw l.laid (length-pad e.room e.text l.legal.room)

  text-is : take b.length text ≡ e.text
  text-is = rw (l.laid, l.is) (take-pad e.room e.text)

  short-text : over text ≡ false
  short-text = le-ltb limit (length text) (omega (arith, room-is, l.small))

  editor-is : editor_of b text es ≡ e
  editor-is =
      let stood : reverse (take b.standing es) ≡ e.standing =
      rw (l.mine, l.is, take-entries e) (reverse-reverse e.standing) in
      let ahead : drop b.standing es ≡ e.undone = rw (l.mine, l.is) (drop-entries e) in
      λ i.
      record {
        kind = (l.is i).kind;
        room = room-is i;
        text = text-is i;
        standing = stood i;
        undone = ahead i;
        saved = (l.is i).saved;
      }

  sound-is : bench_sound b text es ≡ true
  unfolding bench_sound
  sound-is =
      let few : length e.standing ≤ length (entries e) = simp length-reverse_aux (omega arith) in
      rw (room-is, l.is, l.mine, take-entries e, l.laid)
      (and-true _ _
      (and-true _ _
      (and-true _ _
      (and-true _ _
      (and-true _ _ (and-true _ _ (le-leb _ _ l.legal.opens) (le-leb _ _ l.legal.room))
      (zeros-pad e.room e.text))
      (le-leb _ _ few)) (mark-within e.saved (entries e) l.legal.marked)) l.legal.fits)
      (eq-eqb _ _ l.legal.reach))

  -- a call that moves, or records, leaves its editor at the bench
  left_at :
      (text' : List ℕ) (standing undone : List Entry) (saved : Mark) (own : List Entry) →
      own ≡ reverse_aux standing undone →
      Legal in_steps n (with_text e text' standing undone saved) →
      LiesAt n (bench_of n (with_text e text' standing undone saved)) (pad (length text) text') own
      (with_text e text' standing undone saved)
  left_at text' standing undone saved own p ok =
      record { is = refl; laid = rw room-is; mine = p; small = l.small; legal = ok }

-- an editor lies at one bench, and another beside it at the other
pub record Lying (s : Side) (m : ℕ) (f : Editor) (n : ℕ) (t : State) (e : Editor) : Type 0 where
  pub rs : List Record
  pub space : ℕ
  pub used : t.used ≡ length (words rs)
  pub history : t.history ≡ pad space (words rs)
  pub few : length (words rs) ≤ space
  pub small : space ≤ limit
  pub here : LiesAt n (at t.benches s) (at t.texts s) (own s rs) e
  pub there : LiesAt m (at t.benches (other s)) (at t.texts (other s)) (own (other s) rs) f

-- seen from the other bench
pub swapped : (s : Side) {m n : ℕ} {t : State} {e f : Editor} → Lying s m f n t e → Lying (other s) n e m t f
swapped first l =
    record {
      rs = l.rs;
      space = l.space;
      used = l.used;
      history = l.history;
      few = l.few;
      small = l.small;
      here = l.there;
      there = l.here;
    }
swapped second l =
    record {
      rs = l.rs;
      space = l.space;
      used = l.used;
      history = l.history;
      few = l.few;
      small = l.small;
      here = l.there;
      there = l.here;
    }

pub swapped-back : (s : Side) {m n : ℕ} {t : State} {e f : Editor} → Lying (other s) n e m t f → Lying s m f n t e
swapped-back first l = swapped second l
swapped-back second l = swapped first l

module _ (s : Side) (m : ℕ) (f : Editor) {n : ℕ} {t : State} {e : Editor} (l : Lying s m f n t e) where
  space-is : length t.history ≡ l.space
  space-is = rw l.history (length-pad l.space (words l.rs) l.few)

  sound-each : (p : Side) → sound_at t l.rs p ≡ true
  sound-each = by_side (λ p. sound_at t l.rs p ≡ true) s (sound-is l.here) (sound-is l.there)

  records-are : records t ≡ Some l.rs
  unfolding records judged
  records-are =
      rw (
        space-is,
        l.history,
        l.used,
        le-leb (length (words l.rs)) l.space l.few,
        zeros-pad l.space (words l.rs),
        take-pad l.space (words l.rs),
        records-words (length (words l.rs)) l.rs (omega arith),
        sound-each first,
        sound-each second,
      )

  short-each : (p : Side) → over (at t.texts p) ≡ false
  short-each = by_side (λ p. over (at t.texts p) ≡ false) s (short-text l.here) (short-text l.there)

  short-here : long t ≡ false
  short-here =
      let h : over t.history ≡ false = le-ltb limit (length t.history) (omega (arith, space-is, l.small)) in
      rw (short-each first, short-each second, h)

  found_here : (bench s).editor_in t ≡ Some e
  found_here = rw records-are (ap Some (editor-is l.here))

  pub stood-here : (at t.benches s).standing ≡ length e.standing
  stood-here = ap (λ (b : Bench). b.standing) l.here.is

  done-here : ((bench s).space_in t).done ≡ weight_of in_steps (map step_of (reverse e.standing))
  done-here =
      omega (
        arith,
        stood-here,
        weight-steps (map step_of (reverse e.standing)),
        length-map (reverse e.standing) step_of,
        length-reverse e.standing,
      )

  -- another mark
  marked-lying :
      (mark : Mark) → Legal in_steps n (with_mark e mark) → Lying s m f n ((bench s).marked t mark) (with_mark e mark)
  marked-lying mark ok =
      record {
        rs = l.rs;
        space = l.space;
        used = l.used;
        history = l.history;
        few = l.few;
        small = l.small;
        here =
            rw (at-put t.benches s)
            (record {
              is = ap (λ (b : Bench). marked_as b mark) l.here.is;
              laid = l.here.laid;
              mine = l.here.mine;
              small = l.here.small;
              legal = ok;
            });
        there = rw (at_other t.benches s) l.there;
      }

  -- the caller's text, count and mark are another editor's, and its own records too; the other's are as they were
  left-lying :
      (text : List ℕ) (standing undone : List Entry) (saved : Mark) (qs : List Record) → length (words qs) ≤ l.space →
      own s qs ≡ reverse_aux standing undone → own (other s) qs ≡ own (other s) l.rs →
      Legal in_steps n (with_text e text standing undone saved) →
      Lying s m f n
      (left t s (with_text e text standing undone saved) (length (words qs)) (pad l.space (words qs)))
      (with_text e text standing undone saved)
  left-lying text standing undone saved qs few mine others ok =
      record {
        rs = qs;
        space = l.space;
        used = refl;
        history = refl;
        few = few;
        small = l.small;
        here =
            rw (at-put t.benches s, at-put t.texts s, l.here.is)
            (left_at l.here text standing undone saved (own s qs) mine ok);
        there = rw (at_other t.benches s, at_other t.texts s, others) l.there;
      }

  moved-lying :
      (text : List ℕ) (standing undone : List Entry) → reverse_aux standing undone ≡ entries e →
      Legal in_steps n (with_text e text standing undone e.saved) →
      Lying s m f n ((bench s).moved t (with_text e text standing undone e.saved))
      (with_text e text standing undone e.saved)
  moved-lying text standing undone p ok =
      rw (l.used, l.history)
      (left-lying text standing undone e.saved l.rs l.few (l.here.mine ∙ sym p) refl ok)

  -- a replace drops the caller's undone records, closes the gap, and puts its record last
  module _ (x : Entry) where
    abbrev old : List Record
    old = kept s (at t.benches s).standing l.rs

    abbrev new : List Record
    new = record { bench = s; entry = x } ∷ []

    after_is : records_after t s x ≡ old ++ new
    after_is = rw records-are

    own-after : own s (old ++ new) ≡ reverse_aux (x ∷ e.standing) []
    own-after =
        let stand : take (at t.benches s).standing (own s l.rs) ≡ reverse e.standing =
        rw (l.here.mine, stood-here) (take-entries e) in
        own-append s old new ∙ rw (own-kept s, own_new s, stand) (sym (reverse-cons x e.standing))

    other_after : own (other s) (old ++ new) ≡ own (other s) l.rs
    other_after =
        own-append (other s) old new ∙ rw (own-other s, other-new s) (append-nil (own (other s) l.rs))

    few-after : (space_in t s).needed x ≤ (space_in t s).words → length (words (old ++ new)) ≤ l.space
    few-after fits =
        let count : length (words (old ++ new)) ≡ length (words old) + size_of x =
        rw (words_append old new) (simp length-append (omega arith)) in
        omega (
          arith,
          count,
          rw records-are at fits,
          words-kept s (at t.benches s).standing l.rs,
          l.used,
          space-is,
        )

    recorded-lying :
        (text : List ℕ) (mark : Mark) → (space_in t s).needed x ≤ (space_in t s).words →
        Legal in_steps n (with_text e text (x ∷ e.standing) [] mark) →
        Lying s m f n ((bench s).recorded t (with_text e text (x ∷ e.standing) [] mark) x)
        (with_text e text (x ∷ e.standing) [] mark)
    recorded-lying text mark fits ok =
        rw (after_is, space-is)
        (left-lying text (x ∷ e.standing) [] mark (old ++ new) (few-after fits) own-after other_after ok)

-- no words are laid for folded records
none-laid : (t : State) (s : Side) (es : List Entry) → words_in (space_in t s) es ≡ 0
none-laid t s [] = refl
none-laid t s (x ∷ es) = omega (arith, none-laid t s es)

pub bench-lays : (s : Side) (m : ℕ) (f : Editor) → Lays (bench s) (Lying s m f)
bench-lays s m f =
    record {
      short = λ l. short-here s m f l;
      sees = λ l. found_here s m f l;
      shows = λ l. text-is l.here;
      done = λ l. done-here s m f l;
      marks = λ l. marked-lying s m f l;
      moves = λ l. moved-lying s m f l;
      records = λ l text x mark fits ok. recorded-lying s m f l x text mark fits ok;
      folds = λ {s = t} l new old x mark p gain ok. absurd (omega (arith, gain, none-laid t s old));
    }
