-- Everything that a ledger's steps put into a page is a 32-bit number. Assumes nothing.
use Prim.Native.Nat.{ℕ, zero, suc, ◌+◌, ◌<◌, ◌^◌}
use mathlib.Core.Path.{◌≡◌, ◌∙◌}
use mathlib.Core.Bool.{true, ◌||◌, false≢true}
use mathlib.Core.List.{List, [], ◌∷◌, ◌++◌}
use Rattle.std.specs.Prelude.{Option, None, Some}
use native.Mathlib.Omega.{arith}
use lib.ListN.{length, take, drop, length-append, length-take, length-drop}
use lib.Dec.{ltb}
use borrow.Author.Tests.{ltb-false}
use Rattle.answer.specs.Lists.{Each}
use Rattle.answer.proofs.Below.{cond-case}
use Rattle.codec.specs.Kinds.{first_unwritable}
use Rattle.codec.proofs.Bounds.{Word, cells-added}
use Rattle.editor.specs.Ledger.{Step, Ledger, Call, replace, undo, redo}
use Rattle.editor.specs.Ledger.{save, squeeze, last_of, before_last, accepted_call, fed}
use Rattle.editor.specs.Ledger.{text_after}
use Rattle.editor.specs.Editor.{Editor, Space, Turn, replace_at, overlong}
use Rattle.editor.specs.Layout.{Outcome, taken, Layout, call_on, outcome_of}
use Rattle.editor.proofs.Steps.{Fits, fits-first, records_of, stepped}
use Rattle.editor.proofs.Calls.{accepts}
use Rattle.ledger.proofs.Words.{words}

module _ {A : Type 0} (P : A → Type 0) where
  each_append : (xs ys : List A) → Each P xs → Each P ys → Each P (xs ++ ys)
  each_append [] ys h k = k
  each_append (x ∷ xs) ys h k = (h.0, each_append xs ys h.1 k)

  each_take : (xs : List A) (n : ℕ) → Each P xs → Each P (take n xs)
  each_take xs zero h = tt
  each_take [] (suc n) h = tt
  each_take (x ∷ xs) (suc n) h = (h.0, each_take xs n h.1)

  each-drop : (xs : List A) (n : ℕ) → Each P xs → Each P (drop n xs)
  each-drop xs zero h = h
  each-drop [] (suc n) h = tt
  each-drop (x ∷ xs) (suc n) h = each-drop xs n h.1

-- a step that adds 32-bit numbers
abbrev pub Adds : Step → Type 0
Adds x = Each Word x.added

stepped-words : (x : Step) (text : List ℕ) → Adds x → Each Word text → Each Word (stepped x text)
stepped-words x text h k =
    each_append Word (take x.place text) (x.added ++ drop (x.place + x.count) text)
    (each_take Word text x.place k)
    (each_append Word x.added (drop (x.place + x.count) text) h (each-drop Word text (x.place + x.count) k))

pub text-words :
    (text : List ℕ) (steps : List Step) → Each Adds steps → Each Word text → Each Word (text_after text steps)
unfolding text_after
text-words text [] h k = k
text-words text (x ∷ rest) h k = text-words (stepped x text) rest h.1 (stepped-words x text h.0 k)

-- the words of their records
pub records-words :
    (room : ℕ) (text : List ℕ) (steps : List Step) → room < 2 ^ 32 → Fits room text steps → Each Adds steps →
    Each Word text →
    Each Word (words (records_of text steps))
records-words room text [] few f h k = tt
records-words room text (x ∷ rest) few f h k =
    let removed : List ℕ = take x.count (drop x.place text) in
    let rest_of : List ℕ = drop (x.place + x.count) text in
    let after : length (stepped x text) ≡ length (take x.place text) + (length x.added + length rest_of) =
    length-append (take x.place text) (x.added ++ drop (x.place + x.count) text)
    ∙ rw (length-append x.added (drop (x.place + x.count) text)) in
    let place : Word x.place = omega (arith, f.0, f.1) in
    let count : Word (length removed) = simp (length-take, length-drop) (omega (arith, f.0, f.1)) in
    let added : Word (length x.added) = omega (arith, after, fits-first room (stepped x text) rest f.2) in
    let cells : Each Word (removed ++ x.added) =
    each_append Word removed x.added
    (each_take Word (drop x.place text) x.count (each-drop Word text x.place k)) h.0 in (
      place,
      (
        count,
        (
          added,
          each_append Word (removed ++ x.added) (words (records_of (stepped x text) rest)) cells
              (records-words room (stepped x text) rest few f.2 h.1 (stepped-words x text h.0 k)),
        ),
      ),
    )

-- a ledger that read and added 32-bit numbers
pub record Words (l : Ledger) : Type 0 where
  pub reading : Each Word l.reading
  pub standing : Each Adds l.standing
  pub undone : Each Adds l.undone

steps-last : (xs : List Step) → Each Adds xs → Each Adds (last_of xs) × Each Adds (before_last xs)
steps-last [] h = (tt, tt)
steps-last (x ∷ []) h = (h, tt)
steps-last (x ∷ y ∷ rest) h =
    let q = steps-last (y ∷ rest) h.1 in
    (q.0, (h.0, q.1))

steps_first : (xs : List Step) → Each Adds xs → Each Adds (take 1 xs) × Each Adds (drop 1 xs)
steps_first [] h = (tt, tt)
steps_first (x ∷ xs) h = ((h.0, tt), h.1)

-- the cells that an accepted replace adds may be written
module _ (place count : ℕ) (cells : List ℕ) where
  abbrev Shows : Turn → Type 0
  Shows t = accepts t ≡ true → Each Word cells

  turn-shows : (space : Space) (e : Editor) → Shows (replace_at space e place count cells)
  unfolding replace_at
  turn-shows space e =
      cond-case Shows (ltb (length e.text) (place + count)) (λ _ ok. absurd (false≢true ok))
      (λ _. cond-case Shows (ltb (first_unwritable e.kind cells) (length cells)) (λ _ ok. absurd (false≢true ok))
      (λ t _. cells-added e.kind cells (ltb-false (first_unwritable e.kind cells) (length cells) t)))

  module _ {S : Type 0} (layout : Layout S) (s : S) where
    abbrev Outcomes : Outcome S → Type 0
    Outcomes o = taken o ≡ true → Each Word cells

    call-shows : (found : Option Editor) → Outcomes (call_on layout s (replace place count cells) found)
    unfolding call_on
    call-shows None = λ ok. absurd (false≢true ok)
    call-shows (Some e) = turn-shows (layout.space_in s) e

    replace-shows : Outcomes (outcome_of layout s (replace place count cells))
    unfolding outcome_of
    replace-shows =
        cond-case Outcomes (overlong (replace place count cells) || layout.long s) (λ _ ok. absurd (false≢true ok))
        (λ _. call-shows (layout.editor_in s))

-- every call keeps it so
module _ {S : Type 0} (layout : Layout S) (s : S) (l : Ledger) (h : Words l) where
  accepted-words : (c : Call) → taken (outcome_of layout s c) ≡ true → Words (accepted_call layout.weigh l c)
  unfolding accepted_call
  accepted-words (replace place count cells) ok =
      record {
        reading = h.reading;
        standing =
            each_append Adds l.standing _ h.standing (replace-shows place count cells layout s ok, tt);
        undone = tt;
      }
  accepted-words undo ok =
      let q = steps-last l.standing h.standing in
      record {
        reading = h.reading;
        standing = q.1;
        undone = each_append Adds (last_of l.standing) l.undone q.0 h.undone;
      }
  accepted-words redo ok =
      let q = steps_first l.undone h.undone in
      record {
        reading = h.reading;
        standing = each_append Adds l.standing (take 1 l.undone) h.standing q.0;
        undone = q.1;
      }
  accepted-words (save arrived out) ok =
      record { reading = h.reading; standing = h.standing; undone = h.undone }
  accepted-words (squeeze k work) ok =
      record {
        reading = h.reading;
        standing = (
          text-words l.reading (take k l.standing) (each_take Adds l.standing k h.standing) h.reading,
          each-drop Adds l.standing k h.standing,
        );
        undone = h.undone;
      }

  pub fed-words : (c : Call) → Words (fed layout.weigh l c (taken (outcome_of layout s c)))
  fed-words c = cond-case Words (taken (outcome_of layout s c)) (accepted-words c) (λ _. h)

-- standing and undone steps in order
pub steps-words : {l : Ledger} → Words l → Each Adds (l.standing ++ l.undone)
steps-words {l} h = each_append Adds l.standing l.undone h.standing h.undone
