-- The record that undo or redo of a bench moves over, and what the call leaves. Assumes nothing.
use Prim.Native.Nat.{ℕ, zero, suc, ◌+◌, ◌-◌, ◌≤◌, ◌<◌}
use mathlib.Core.Path.{◌≡◌, refl, sym, ap, ◌∙◌}
use mathlib.Core.Bool.{Bool, true, false, cond, ◌&&◌}
use mathlib.Core.List.{List, [], ◌∷◌, ◌++◌, reverse, reverse-append, append_assoc}
use Rattle.std.specs.Prelude.{Some, Ok, Err}
use native.Mathlib.Omega.{arith}
use lib.ListN.{length, take, drop, length-append, length-reverse, drop_of_length-le}
use lib.Seq.{take_at, drop_at}
use lib.Dec.{leb, eqb}
use borrow.Author.Tests.{leb-true, leb-false, le-leb, lt-leb, eq-eqb, ne_eqb}
use Rattle.answer.specs.Answer.{Verdict, numbered, in_numbers}
use Rattle.answer.proofs.Below.{both}
use Rattle.editor.specs.Ledger.{undo, redo}
use Rattle.editor.specs.Records.{Entry, applied, turned, length_after, lengths_fit, reached}
use Rattle.editor.specs.Editor.{Editor, undo_last, redo_next}
use Rattle.editor.specs.Layout.{refusing, laid, call_on}
use Rattle.editor.specs.Layout as layout
use Rattle.ledger.proofs.Words.{At, lengths-append, reached-append, reached-fits}
use Rattle.splice.specs.Splice.{Filled}
use Rattle.page.specs.Steps.{change_of, change_in}
use Rattle.benches.specs.declared.Bench.{Bench}
use Rattle.benches.specs.Words.{Side, first, second, side_of, at, own}
use Rattle.benches.specs.Benches.{State, Outcome}
use Rattle.benches.specs.Layout.{editor_of, bench}
use Rattle.benches.specs.Calls.{outcome_at}
use Rattle.bench_records.specs.declared.Pass.{Pass}
use Rattle.answer.specs.declared.Refused.{Refused}
use Rattle.bench_records.specs.Judging.{Judged, judge_of}
use Rattle.bench_records.proofs.Found.{Fit, fit-first, second-named, fit-second, call-unfit}
use Rattle.bench_records.proofs.Ended.{Fitting, fitting, pass-seen, last-at, next-at}
use Rattle.bench_calls.specs.Leaving.{Left, placed, edited_to, refused_with}
use Rattle.bench_calls.specs.Steps.{changed, Fits, Ready, moved_on, Steppable, stepped_on, stepped_of}

-- a bench's records, one of them picked out
pub record Picked (k : ℕ) (es : List Entry) : Type 0 where
  pub front : List Entry
  pub entry : Entry
  pub rest : List Entry
  pub is : es ≡ front ++ entry ∷ rest
  pub long : length front ≡ k

pub picked : (k : ℕ) (es : List Entry) → k < length es → Picked k es
picked k [] h = absurd (omega arith)
picked zero (e ∷ es) h = record { front = []; entry = e; rest = es; is = refl; long = refl }
picked (suc k) (e ∷ es) h =
    let p : Picked k es = picked k es (omega arith) in
    record {
      front = e ∷ p.front;
      entry = p.entry;
      rest = p.rest;
      is = ap (λ (l : List Entry). e ∷ l) p.is;
      long = ap suc p.long;
    }

module _ {k : ℕ} {es : List Entry} (p : Picked k es) where
  pub drop-picked : drop k es ≡ p.entry ∷ p.rest
  drop-picked = rw p.is (drop_at p.front (p.entry ∷ p.rest) k p.long)

  take-front : take k es ≡ p.front
  take-front = rw p.is (take_at p.front (p.entry ∷ p.rest) k p.long)

  take-picked : take (suc k) es ≡ p.front ++ p.entry ∷ []
  take-picked =
      let whole : es ≡ (p.front ++ p.entry ∷ []) ++ p.rest = p.is ∙ simp append_assoc in
      rw whole
      (take_at (p.front ++ p.entry ∷ []) p.rest (suc k) (simp length-append (omega (arith, p.long))))

  pub back-picked : reverse (take (suc k) es) ≡ p.entry ∷ reverse p.front
  back-picked = rw take-picked (reverse-append p.front (p.entry ∷ []))

-- the lengths about it
module _ (b : Bench) (text : List ℕ) (es : List Entry) (g : Fitting b text es) {k : ℕ} (p : Picked k es) where
  abbrev before : ℕ
  before = reached b.opening p.front

  record Lengths : Type 0 where
    pub within : p.entry.place + length p.entry.removed ≤ before
    pub top : before ≤ length text
    pub after : length_after before p.entry ≤ length text

  lengths : Lengths
  unfolding lengths_fit
  lengths =
      let room : ℕ = length text in
      let e : Entry = p.entry in
      let fits : lengths_fit room b.opening (p.front ++ e ∷ p.rest) ≡ true = rw p.is at g.lengths in
      let q = both (lengths_fit room b.opening p.front) (lengths_fit room before (e ∷ p.rest))
      (sym (lengths-append room b.opening p.front (e ∷ p.rest)) ∙ fits) in
      let l : Bool = leb (e.place + length e.removed) before in
      let m : Bool = leb (length_after before e) room in
      let r = both l m (both (l && m) (lengths_fit room (length_after before e) p.rest) q.1).0 in
      record {
        within = leb-true _ _ r.0;
        top = reached-fits room b.opening p.front g.opens q.0;
        after = leb-true _ _ r.1;
      }

  filled : Filled b.length text
  filled = record { fits = g.fits; blank = g.blank }

  module _ (history : List ℕ) (at : ℕ) (a : At history at p.entry) where
    abbrev e : Entry
    e = p.entry

    ready_at :
        (forward : Bool) →
        Fits b (change_of forward at e.place (length e.removed) (length e.added)) text history →
        Ready forward b at text history
    ready_at forward m =
        record {
          words = omega (arith, a.removed, a.added, a.whole);
          fits = rw (a.place, a.removed, a.added) m;
        }

    -- it is the last that stands
    module _ (n : b.standing ≡ suc k) where
      long-back : b.length ≡ length_after before e
      unfolding reached
      long-back =
          sym g.reach
          ∙ rw (n, take-picked p) (reached-append b.opening p.front (e ∷ []))

      ready-back : Ready false b at text history
      ready-back =
          let l = lengths in
          let q = long-back in
          ready_at false
          (record {
            place = omega (arith, l.within);
            part = omega arith;
            whole = omega (arith, a.whole);
            room = omega (arith, l.within, l.top);
            filled = filled;
          })

    -- it is the first undone one
    module _ (n : b.standing ≡ k) where
      long-on : b.length ≡ before
      long-on = sym g.reach ∙ rw (n, take-front p)

      ready_on : Ready true b at text history
      ready_on =
          let l = lengths in
          let q = long-on in
          ready_at true
          (record {
            place = omega (arith, l.within);
            part = omega arith;
            whole = omega (arith, a.whole);
            room = omega (arith, l.within, l.after);
            filled = filled;
          })

    -- what the code makes of the text is what the record does to it
    changed-back : (cells : List ℕ) → changed (change_in false history at) history cells ≡ applied (turned e) cells
    changed-back cells =
        let k : at + 3 + length e.removed - (at + 3) ≡ length e.removed = omega arith in
        rw (a.place, a.removed, a.added, k, a.out)

    changed-on : (cells : List ℕ) → changed (change_in true history at) history cells ≡ applied e cells
    changed-on cells =
        let k : at + 3 + length e.removed + length e.added - (at + 3 + length e.removed) ≡ length e.added =
        omega arith in
        rw (a.place, a.removed, a.added, k, a.put)

-- a refusal, placed, leaves everything
pub same-placed :
    (t : State) (s : Side) (v : Verdict) →
    placed t s (refused_with v (at t.benches s) t.used (at t.texts s) t.history) ≡ refusing t [] v
same-placed t first v = refl
same-placed t second v = refl

module _ {t : State} {s : Side} {p : Pass} (f : Fit t s p) where
  abbrev b : Bench
  b = at t.benches s

  abbrev text : List ℕ
  text = at t.texts s

  abbrev es : List Entry
  es = own s f.rs

  abbrev editor : Editor
  editor = editor_of b text es

  undo-is : outcome_at t (Some s) undo ≡ laid (bench s) t (undo_last editor editor.standing)
  unfolding outcome_at layout.outcome_of call_on
  undo-is = rw (f.short, f.found)

  redo-is : outcome_at t (Some s) redo ≡ laid (bench s) t (redo_next editor editor.undone)
  unfolding outcome_at layout.outcome_of call_on
  redo-is = rw (f.short, f.found)

  abbrev stepped_at : Bool → Outcome
  stepped_at false = outcome_at t (Some s) undo
  stepped_at true = outcome_at t (Some s) redo

  pub steppable : (forward : Bool) → Steppable forward b p text t.history
  steppable false = by b.standing refl
    where
      by : (n : ℕ) → b.standing ≡ n → 0 < n → Ready false b (p.last + 1) text t.history
      by zero q h = absurd (omega arith)
      by (suc k) q h =
          let c : Picked k es = picked k es (omega (arith, (fitting f).few)) in
          ready-back b text es (fitting f) c t.history (p.last + 1)
          (last-at f k c.entry c.rest q (drop-picked c)) q
  steppable true = by
    where
      by : b.standing < p.seen → Ready true b (p.next + 1) text t.history
      by h =
          let few : b.standing < length es = omega (arith, pass-seen f) in
          let c : Picked b.standing es = picked b.standing es few in
          ready_on b text es (fitting f) c t.history (p.next + 1)
          (next-at f c.entry c.rest few (drop-picked c)) refl

  -- the editor after a step, laid out
  abbrev leaving : List ℕ → ℕ → Outcome
  leaving cells standing =
      placed t s (edited_to b (length text) cells t.used standing b.saved t.history)

  undo-cons :
      (x : Entry) (back : List Entry) →
      laid (bench s) t (undo_last editor (x ∷ back)) ≡ leaving (applied (turned x) (take b.length text)) (length back)
  unfolding undo_last
  undo-cons x back = refl

  redo-cons :
      (x : Entry) (rest : List Entry) →
      laid (bench s) t (redo_next editor (x ∷ rest))
      ≡ leaving (applied x (take b.length text)) (suc (length editor.standing))
  unfolding redo_next
  redo-cons x rest = refl

  undo-by :
      (n : ℕ) → b.standing ≡ n →
      laid (bench s) t (undo_last editor editor.standing)
      ≡ placed t s
      (cond (eqb n 0) (refused_with (numbered 13 0) b t.used text t.history)
      (moved_on false b t.used (p.last + 1) (n - 1) text t.history))
  unfolding undo_last
  undo-by zero q =
      ap (λ (n : ℕ). laid (bench s) t (undo_last editor (reverse (take n es)))) q
      ∙ sym (same-placed t s (numbered 13 0))
  undo-by (suc k) q =
      let c : Picked k es = picked k es (omega (arith, (fitting f).few)) in
      let a : At t.history (p.last + 1) c.entry = last-at f k c.entry c.rest q (drop-picked c) in
      let m : changed (change_in false t.history (p.last + 1)) t.history (take b.length text)
      ≡ applied (turned c.entry) (take b.length text) =
      changed-back b text es (fitting f) c t.history (p.last + 1) a (take b.length text) in
      let n : length (reverse c.front) ≡ suc k - 1 = omega (arith, length-reverse c.front, c.long) in
      rw (ne_eqb (suc k) 0 (λ (z : suc k ≡ 0). omega arith))
      (ap (λ (l : List Entry). laid (bench s) t (undo_last editor l))
      (ap (λ (n : ℕ). reverse (take n es)) q ∙ back-picked c)
      ∙ undo-cons c.entry (reverse c.front)
      ∙ (λ i. leaving (sym m i) (n i)))

  redo-by :
      (u : Bool) → leb p.seen b.standing ≡ u →
      laid (bench s) t (redo_next editor editor.undone)
      ≡ placed t s
      (cond u (refused_with (numbered 13 0) b t.used text t.history)
      (moved_on true b t.used (p.next + 1) (b.standing + 1) text t.history))
  unfolding redo_next
  redo-by true q =
      let past : length es ≤ b.standing = omega (arith, pass-seen f, leb-true p.seen b.standing q) in
      let none : drop b.standing es ≡ [] = drop_of_length-le es past in
      ap (λ (l : List Entry). laid (bench s) t (redo_next editor l)) none ∙ sym (same-placed t s (numbered 13 0))
  redo-by false q =
      let few : b.standing < length es = omega (arith, pass-seen f, leb-false p.seen b.standing q) in
      let c : Picked b.standing es = picked b.standing es few in
      let a : At t.history (p.next + 1) c.entry = next-at f c.entry c.rest few (drop-picked c) in
      let m : changed (change_in true t.history (p.next + 1)) t.history (take b.length text)
      ≡ applied c.entry (take b.length text) =
      changed-on b text es (fitting f) c t.history (p.next + 1) a (take b.length text) in
      let stood : length (reverse (take b.standing es)) ≡ b.standing =
      rw (take-front c) (length-reverse c.front ∙ c.long) in
      let n : suc (length (reverse (take b.standing es))) ≡ b.standing + 1 = omega arith in
      ap (λ (l : List Entry). laid (bench s) t (redo_next editor l)) (drop-picked c)
      ∙ redo-cons c.entry c.rest
      ∙ (λ i. leaving (sym m i) (n i))

  pub stepped-is : (forward : Bool) → stepped_at forward ≡ placed t s (stepped_on forward b t.used p text t.history)
  unfolding stepped_on
  stepped-is false = undo-is ∙ undo-by b.standing refl
  stepped-is true = redo-is ∙ redo-by (leb p.seen b.standing) refl

-- as the code has it: the caller is bench 0, or else bench 1
module _ (t : State) (n : ℕ) (p : Pass) (d : judge_of t n ≡ Ok p) (forward : Bool) where
  abbrev left_of : Bench → List ℕ → Left
  left_of b text = stepped_on forward b t.used p text t.history

  named_step : (s : Side) → side_of n ≡ Some s → (f : Fit t s p) → stepped_of forward t n ≡ stepped_at f forward
  named_step s q f = by forward
    where
      by : (w : Bool) → stepped_of w t n ≡ stepped_at f w
      by false = rw q
      by true = rw q

  pub first-stepped :
      n ≡ 0 → stepped_of forward t n ≡ placed t first (left_of t.benches.bench0 t.texts.bench0)
  first-stepped q =
      let f : Fit t first p = fit-first t n refl d q in
      named_step first (ap side_of q) f ∙ stepped-is f forward

  pub second-stepped :
      (n ≡ 0 → ⊥) → stepped_of forward t n ≡ placed t second (left_of t.benches.bench1 t.texts.bench1)
  second-stepped q =
      let f : Fit t second p = fit-second t n refl d q in
      named_step second (second-named t n refl d q) f ∙ stepped-is f forward

  pub first-steppable : n ≡ 0 → Steppable forward t.benches.bench0 p t.texts.bench0 t.history
  first-steppable q = steppable (fit-first t n refl d q) forward

  pub second-steppable : (n ≡ 0 → ⊥) → Steppable forward t.benches.bench1 p t.texts.bench1 t.history
  second-steppable q = steppable (fit-second t n refl d q) forward

pub step-unfit :
    (t : State) (n : ℕ) (forward : Bool) {j : Judged} {a : Refused} → j ≡ judge_of t n → j ≡ Err a →
    stepped_of forward t n ≡ refusing t [] (in_numbers (Err a))
step-unfit t n false d e = call-unfit t undo n refl d e
step-unfit t n true d e = call-unfit t redo n refl d e

-- by the test that the code makes
module _ (b : Bench) (used : ℕ) (p : Pass) (text history : List ℕ) where
  pub undo-none :
      b.standing ≡ 0 → refused_with (numbered 13 0) b used text history ≡ stepped_on false b used p text history
  unfolding stepped_on
  undo-none q = rw (eq-eqb b.standing 0 q)

  pub undo-some :
      (b.standing ≡ 0 → ⊥) →
      moved_on false b used (p.last + 1) (b.standing - 1) text history ≡ stepped_on false b used p text history
  unfolding stepped_on
  undo-some q = rw (ne_eqb b.standing 0 q)

  pub redo-none :
      p.seen ≤ b.standing → refused_with (numbered 13 0) b used text history ≡ stepped_on true b used p text history
  unfolding stepped_on
  redo-none q = rw (le-leb p.seen b.standing q)

  pub redo-some :
      b.standing < p.seen →
      moved_on true b used (p.next + 1) (b.standing + 1) text history ≡ stepped_on true b used p text history
  unfolding stepped_on
  redo-some q = rw (lt-leb p.seen b.standing q)
