-- The record that undo or redo moves over, as the words of a sound page have it: one law for both directions. Assumes nothing.
use Prim.Native.Nat.{ℕ, ◌+◌, ◌-◌, ◌≤◌}
use mathlib.Core.Path.{◌≡◌, refl, sym, ap, ◌∙◌}
use mathlib.Core.Bool.{Bool, true, false, ◌&&◌}
use mathlib.Core.List.{List, [], ◌∷◌, ◌++◌, reverse_aux, reverse, reverse_aux-eq, append_assoc}
use native.Mathlib.Omega.{arith}
use lib.ListN.{length, get_or, take, drop, take-append-drop}
use lib.Seq.{length-take-le}
use lib.Dec.{leb}
use borrow.Author.Tests.{leb-true, le-leb}
use Rattle.std.specs.Prelude.{Err}
use Rattle.answer.specs.Answer.{numbered, in_numbers, Answer}
use Rattle.answer.proofs.Below.{both}
use Rattle.ledger.specs.Words.{Entry, words_of, size_of, length_after, lengths_fit, reached}
use Rattle.ledger.specs.Page.{State, Outcome, text_in}
use Rattle.ledger.specs.Calls.{refusing, applied, turned}
use Rattle.editor.specs.Ledger.{undo, redo}
use Rattle.editor.specs.Editor.{undo_last, redo_next}
use Rattle.editor.specs.Layout.{laid, call_on, outcome_of}
use Rattle.ledger.specs.Layout.{editor_of, editor_for, left, page}
use Rattle.ledger.proofs.Words.{At, words-at, words, sizes, length-words, words_append, sizes-reverse}
use Rattle.ledger.proofs.Words.{lengths-append}
use Rattle.ledger.proofs.Words.{reached-append, reached-fits}
use Rattle.ledger.proofs.Sound.{Sound}
use Rattle.records.specs.Walking.{last_begin, judge_of}
use Rattle.records.proofs.Judging.{Frame}
use Rattle.answer.specs.declared.Refused.{Refused}
use Rattle.records.proofs.Found.{Fit, unfit}
use Rattle.page.specs.declared.Span.{Span}
use Rattle.page.specs.declared.Change.{Change}
use Rattle.splice.specs.Splice.{spliced}
use Rattle.page.specs.Steps.{stepped_of, span_of, change_of, change_in, change_found}

-- a record that is whole in the history is what is found at its word
pub found_in :
    (forward : Bool) (history : List ℕ) (at : ℕ) →
    at + (3 + get_or history (at + 1) 0 + get_or history (at + 2) 0) ≤ length history →
    change_found forward history at ≡ change_in forward history at
unfolding change_found
found_in forward history at h = rw (le-leb (at + 3) (length history) (omega (arith, h)))

-- records in order, one of them picked out
module _ (s : State) (back : List Entry) (e : Entry) (rest : List Entry) where
  abbrev history : List ℕ
  history = s.history

  -- the length of the text before it
  abbrev before : ℕ
  before = reached s.page.opening (reverse back)

  record-at : words (reverse_aux back (e ∷ rest)) ≡ take s.page.used history → At history (sizes back) e
  record-at tiles =
      let w : List ℕ = words (reverse back) in
      let d : List ℕ = drop s.page.used history in
      let split : take s.page.used history ≡ w ++ (words_of e ++ words rest) =
      sym tiles ∙ ap words (reverse_aux-eq back (e ∷ rest)) ∙ words_append (reverse back) (e ∷ rest) in
      let all : w ++ (words_of e ++ (words rest ++ d)) ≡ history =
      sym (ap (λ (l : List ℕ). l ++ d) split ∙ append_assoc w (words_of e ++ words rest) d ∙ ap (λ (l : List ℕ). w ++ l) (append_assoc (words_of e) (words rest) d))
      ∙ take-append-drop s.page.used history in
      let at : length w ≡ sizes back = omega (arith, length-words (reverse back), sizes-reverse back []) in
      rw (all, at) at (words-at w (words rest ++ d) e)

  pub record Lengths : Type 0 where
    pub within : e.place + length e.removed ≤ before
    pub top : before ≤ length s.text
    pub after : length_after before e ≤ length s.text

  lengths : s.page.opening ≤ length s.text → lengths_fit (length s.text) s.page.opening (reverse_aux back (e ∷ rest)) ≡ true → Lengths
  unfolding lengths_fit
  lengths opens fits =
      let room : ℕ = length s.text in
      let p = both (lengths_fit room s.page.opening (reverse back)) (lengths_fit room before (e ∷ rest))
      (rw (reverse_aux-eq back (e ∷ rest), lengths-append room s.page.opening (reverse back) (e ∷ rest)) at fits) in
      let a : Bool = leb (e.place + length e.removed) before in
      let b : Bool = leb (length_after before e) room in
      let q = both a b (both (a && b) (lengths_fit room (length_after before e) rest) p.1).0 in
      record {
        within = leb-true _ _ q.0;
        top = reached-fits room s.page.opening (reverse back) opens p.0;
        after = leb-true _ _ q.1;
      }

-- an accepted undo or redo that makes this of the text, and leaves so many words done
abbrev edited : State → List ℕ → ℕ → Outcome
edited s text done =
    record { verdict = numbered 0 (length text); state = left s text s.page.used done s.page.saved s.history; output = [] }

abbrev moved : State → Entry → ℕ → Outcome
moved s e done = edited s (applied e (text_in s)) done

-- what the code reads of the record, and what the call then leaves
pub record Moves (forward : Bool) (s : State) (q : Change) : Type 0 where
  pub place : q.place + q.count ≤ s.page.length
  pub part : q.from ≤ q.to
  pub whole : q.to ≤ length s.history
  pub room : s.page.length - q.count + (q.to - q.from) ≤ length s.text
  pub outcome :
      stepped_of forward s
      ≡ edited s (spliced q.place q.count (take (q.to - q.from) (drop q.from s.history)) (text_in s)) q.done

-- the record at a word can be moved over
pub record Ready (forward : Bool) (s : State) (at : ℕ) : Type 0 where
  pub words : at + (3 + get_or s.history (at + 1) 0 + get_or s.history (at + 2) 0) ≤ length s.history
  pub moves : Moves forward s (change_in forward s.history at)

-- the step to be moved over is the last that stands, or the first undone one
abbrev next : Bool → State → List Entry → List Entry → Outcome
next false s standing undone =
    laid page s (undo_last (editor_of s (record { standing = standing; undone = undone })) standing)
next true s standing undone =
    laid page s (redo_next (editor_of s (record { standing = standing; undone = undone })) undone)

module _ (s : State) where
  ready_at :
      (forward : Bool) (at : ℕ) (e : Entry) → At s.history at e → Moves forward s (change_of forward at e.place (length e.removed) (length e.added)) →
      Ready forward s at
  ready_at forward at e r m =
      record { words = omega (arith, r.removed, r.added, r.whole); moves = rw (r.place, r.removed, r.added) m }

  moves-back :
      (back : List Entry) (e : Entry) (rest : List Entry) (at : ℕ) → At s.history at e → Lengths s back e rest →
      s.page.length ≡ length_after (before s back e rest) e → stepped_of false s ≡ moved s (turned e) at →
      Moves false s (change_of false at e.place (length e.removed) (length e.added))
  moves-back back e rest at r l n o =
      let k : at + 3 + length e.removed - (at + 3) ≡ length e.removed = omega arith in
      record {
        place = omega (arith, l.within);
        part = omega arith;
        whole = omega (arith, r.whole);
        room = omega (arith, l.within, l.top);
        outcome = rw (k, r.out) o;
      }

  moves-forward :
      (back : List Entry) (e : Entry) (rest : List Entry) (at : ℕ) → At s.history at e → Lengths s back e rest →
      s.page.length ≡ before s back e rest → stepped_of true s ≡ moved s e (at + size_of e) →
      Moves true s (change_of true at e.place (length e.removed) (length e.added))
  moves-forward back e rest at r l n o =
      let k : at + 3 + length e.removed + length e.added - (at + 3 + length e.removed) ≡ length e.added = omega arith in
      let d : at + size_of e ≡ at + 3 + length e.removed + length e.added = omega arith in
      record {
        place = omega (arith, l.within);
        part = omega arith;
        whole = omega (arith, r.whole);
        room = omega (arith, l.within, l.after);
        outcome = rw (k, r.put, ← d) o;
      }

  module _ (last : ℕ) (fr : Frame s.page s.text s.history) where
    -- how many words are done, and used
    ends : (standing undone : List Entry) → Sound s (record { standing = standing; undone = undone }) → (sizes standing ≡ s.page.done) × (sizes standing + sizes undone ≡ s.page.used)
    ends standing undone h =
        let all : List Entry = reverse_aux standing undone in (
          h.end,
          omega (arith, sizes-reverse standing undone, length-words all, ap length h.tiles, length-take-le s.page.used s.history fr.uses),
        )

    abbrev from : Bool → ℕ
    from forward = (span_of forward s.page last).from

    abbrev to : Bool → ℕ
    to forward = (span_of forward s.page last).to

    ready-next :
        (forward : Bool) (standing undone : List Entry) → Sound s (record { standing = standing; undone = undone }) →
        stepped_of forward s ≡ next forward s standing undone → last ≡ last_begin s.page.done standing → (from forward ≡ to forward → ⊥) →
        Ready forward s (from forward)
    unfolding undo_last redo_next reached
    ready-next false [] undone h o b q = absurd (q b)
    ready-next false (e ∷ back) undone h o b q =
        let n = ends (e ∷ back) undone h in
        let at : sizes back ≡ last = omega arith in
        let r : At s.history last e = rw at at (record-at s back e undone h.tiles) in
        let long : s.page.length ≡ length_after (before s back e undone) e =
        sym h.reach ∙ ap (reached s.page.opening) (reverse_aux-eq back (e ∷ [])) ∙ reached-append s.page.opening (reverse back) (e ∷ []) in
        ready_at false last e r
        (moves-back back e undone last r (lengths s back e undone fr.opens h.fits) long (rw (← at) o))
    ready-next true standing [] h o b q = absurd (q (omega (arith, ends standing [] h)))
    ready-next true standing (e ∷ rest) h o b q =
        let r : At s.history s.page.done e = rw h.end at (record-at s standing e rest h.tiles) in
        ready_at true s.page.done e r
        (moves-forward standing e rest s.page.done r (lengths s standing e rest fr.opens h.fits)
        (sym h.reach) (o ∙ ap (λ (n : ℕ). moved s e (n + size_of e)) h.end))

    none-next :
        (forward : Bool) (standing undone : List Entry) → Sound s (record { standing = standing; undone = undone }) →
        last ≡ last_begin s.page.done standing → from forward ≡ to forward → next forward s standing undone ≡ refusing s [] (numbered 13 0)
    unfolding undo_last redo_next
    none-next false [] undone h b q = refl
    none-next false (e ∷ back) undone h b q = absurd (omega (arith, ends (e ∷ back) undone h))
    none-next true standing [] h b q = refl
    none-next true standing (e ∷ rest) h b q = absurd (omega (arith, ends standing (e ∷ rest) h))

  module _ (last : ℕ) (f : Fit s last) where
    stepped-next : (forward : Bool) → stepped_of forward s ≡ next forward s f.parted.standing f.parted.undone
    unfolding outcome_of call_on
    stepped-next false = rw (f.short, f.found)
    stepped-next true = rw (f.short, f.found)

    -- as the code has it: the words between which the step stands, and the change that was read there
    module _ (forward : Bool) (w : Span) (e : w ≡ span_of forward s.page last) where
      pub ready : (w.from ≡ w.to → ⊥) → Ready forward s w.from
      ready q =
          rw e
          (ready-next last f.frame forward f.parted.standing f.parted.undone f.sound (stepped-next forward) f.begins (λ z. q (rw e z)))

      pub change-moves :
          (w.from ≡ w.to → ⊥) → (q : Change) → q ≡ change_found forward s.history w.from → Moves forward s q
      change-moves n q z =
          let r = ready n in
          rw (z ∙ found_in forward s.history w.from r.words) r.moves

      pub nothing_left : w.from ≡ w.to → stepped_of forward s ≡ refusing s [] (numbered 13 0)
      nothing_left q =
          stepped-next forward ∙ none-next last f.frame forward f.parted.standing f.parted.undone f.sound f.begins (rw e at q)

  -- a page that was refused, in either direction
  pub step-unfit : (forward : Bool) {j : Answer} {a : Refused} → j ≡ judge_of s → j ≡ Err a → stepped_of forward s ≡ refusing s [] (in_numbers (Err a))
  unfolding outcome_of call_on
  step-unfit false d e = unfit s _ (refusing s []) (λ x. call_on page s undo (editor_for s x)) refl d e
  step-unfit true d e = unfit s _ (refusing s []) (λ x. call_on page s redo (editor_for s x)) refl d e
