-- One text being edited: what the calls see of it and leave of it, whatever words its history is laid out in.
use Rattle.std.specs.Prelude.{ℕ, ◌+◌, ◌-◌, Bool, false, cond, ◌||◌, List, [], ◌∷◌, ◌++◌, map, length, take, drop, ltb, leb, eqb}
use Rattle.std.specs.Prelude.{Some}
use Rattle.answer.specs.Answer.{Verdict, numbered, limit}
use Rattle.answer.specs.Output as output
use Rattle.codec.specs.declared.Kind.{Kind}
use Rattle.codec.specs.Kinds.{first_unwritable, reads_as, write_in}
use Rattle.editor.specs.Marks.{Mark, replaced_mark, folded_mark}
use Rattle.editor.specs.Ledger.{Step, Call, replace, undo, redo, save, squeeze, weight_of}
use Rattle.editor.specs.Records.{Entry, step_of, applied, turned, entry_at, text_before}

pub record Editor : Type 0 where
  pub kind : Kind
  -- the length of the text buffer
  pub room : ℕ
  pub text : List ℕ
  -- the records: those that stand, the latest first, and those that can be redone
  pub standing : List Entry
  pub undone : List Entry
  -- the saved mark
  pub saved : Mark

-- what has to be laid out anew: nothing (every refusal); the mark (save); the text and how many records stand (undo and
-- redo); the mark, and a new record as well, in place of those that could be redone (replace); the mark, and one record
-- for the oldest ones (squeeze)
pub data Change : Type 0 where
  stays : Change
  marks : Change
  moves : Change
  records : Entry → Change
  folds : List Entry → Entry → Change

-- what a call comes to: its answer, the output as it is left, the editor after it, and what it changes
pub record Turn : Type 0 where
  pub verdict : Verdict
  pub output : List ℕ
  pub editor : Editor
  pub change : Change

-- the history as the calls see it: its length, the words needed in all with a new record, how much is done, and the
-- words that a record is
pub record Space : Type 0 where
  pub words : ℕ
  pub needed : Entry → ℕ
  pub done : ℕ
  pub laid : Entry → List ℕ

-- "A refusal changes no page and no buffer"
abbrev pub refused : Editor → List ℕ → Verdict → Turn
refused e out verdict = record { verdict = verdict; output = out; editor = e; change = stays }

abbrev pub with_text : Editor → List ℕ → List Entry → List Entry → Mark → Editor
with_text e text standing undone mark =
    record { kind = e.kind; room = e.room; text = text; standing = standing; undone = undone; saved = mark }

abbrev pub with_mark : Editor → Mark → Editor
with_mark e mark = with_text e e.text e.standing e.undone mark

-- "replace, undo and redo answer the new length"
abbrev pub edited : Editor → List ℕ → List Entry → List Entry → Mark → Change → Turn
edited e text standing undone mark change =
    record {
      verdict = numbered 0 (length text);
      output = [];
      editor = with_text e text standing undone mark;
      change = change;
    }

-- "Undo puts the last standing step's removed cells back"; 13 where there is none
unfoldable pub undo_last : Editor → List Entry → Turn
undo_last e [] = refused e [] (numbered 13 0)
undo_last e (x ∷ back) = edited e (applied (turned x) e.text) back (x ∷ e.undone) e.saved moves

-- "redo does the next one again"
unfoldable pub redo_next : Editor → List Entry → Turn
redo_next e [] = refused e [] (numbered 13 0)
redo_next e (x ∷ rest) = edited e (applied x e.text) (x ∷ e.standing) rest e.saved moves

-- 9, the new length; 12, the words needed; else "Replace drops what could be redone, then records its step"
unfoldable pub replace_fitting : Space → Editor → Entry → Turn
replace_fitting space e x =
    cond (ltb e.room (length (applied x e.text))) (refused e [] (numbered 9 (length (applied x e.text))))
    (cond (ltb space.words (space.needed x)) (refused e [] (numbered 12 (space.needed x)))
    (edited e (applied x e.text) (x ∷ e.standing) [] (replaced_mark space.done e.saved) (records x)))

-- 11, then 10
unfoldable pub replace_at : Space → Editor → ℕ → ℕ → List ℕ → Turn
replace_at space e place count cells =
    cond (ltb (length e.text) (place + count)) (refused e [] (numbered 11 (length e.text)))
    (cond (ltb (first_unwritable e.kind cells) (length cells))
    (refused e [] (numbered 10 (first_unwritable e.kind cells)))
    (replace_fitting space e (entry_at e.text place count cells)))

-- "an accepted save sets it to the words done"; it changes nothing else but the output
abbrev pub saving : Space → Editor → List ℕ → Verdict → Turn
saving space e out verdict =
    record { verdict = verdict; output = out; editor = with_mark e (Some space.done); change = marks }

abbrev pub saved_as : Space → Editor → output.Outcome → Turn
saved_as space e o =
    cond (eqb o.verdict.number 0) (saving space e o.out o.verdict) (refused e o.out o.verdict)

-- "if no step stands, the arrived bytes, lent again, as they are; otherwise the text written in the page's kind"; "15
-- where no step stands or 10 where one does, then 9"
unfoldable pub save_standing : Space → Editor → List ℕ → List ℕ → List Entry → Turn
save_standing space e arrived out [] =
    saved_as space e
    (cond (reads_as e.kind arrived e.text) (output.deliver arrived out) (output.refusing (numbered 15 0) out))
save_standing space e arrived out (x ∷ back) = saved_as space e (write_in e.kind e.text out)

-- document 02, order 8: "the oldest k standing steps", and the later ones; the latest is first
abbrev pub oldest : ℕ → List Entry → List Entry
oldest k standing = drop (length standing - k) standing

abbrev pub later : ℕ → List Entry → List Entry
later k standing = take (length standing - k) standing

-- "at place 0 it removes the whole opening text and adds the whole text as it was after those k, both as undoing from
-- the present text gives them"
abbrev pub folded_to : Editor → ℕ → Entry
folded_to e k =
    record {
      place = 0;
      removed = text_before e.standing e.text;
      added = text_before (later k e.standing) e.text;
    }

-- how many words records are
abbrev pub words_in : Space → List Entry → ℕ
words_in space [] = 0
words_in space (x ∷ rest) = words_in space rest + length (space.laid x)

module _ (weigh : Step → ℕ) (space : Space) where
  -- "Later steps follow unchanged", undone ones too; "The new words used are answered." "accepted, that record stands
  -- first in [the work buffer], its rest untouched"
  abbrev pub folding : Editor → List ℕ → List Entry → List Entry → Entry → Turn
  folding e work new old x =
      record {
        verdict = numbered 0 (words_in space (new ++ x ∷ []) + words_in space e.undone);
        output = output.filled (space.laid x) work;
        editor =
            with_text e e.text (new ++ x ∷ []) e.undone
            (folded_mark (weight_of weigh (map step_of old)) (weigh (step_of x)) e.saved);
        change = folds old x;
      }

  -- "19 (no gain, place 0) when the words would not become fewer, 9 when a lent work buffer, of any length, cannot hold
  -- the new record"
  unfoldable pub squeeze_to : Editor → List ℕ → List Entry → List Entry → Entry → Turn
  squeeze_to e work new old x =
      cond (leb (words_in space old) (length (space.laid x))) (refused e work (numbered 19 0))
      (cond (ltb (length work) (length (space.laid x))) (refused e work (numbered 9 (length (space.laid x))))
      (folding e work new old x))

  -- "11 with place 0 for k under 2 or over the standing steps"
  unfoldable pub squeeze_oldest : Editor → ℕ → List ℕ → Turn
  squeeze_oldest e k work =
      cond (ltb k 2 || ltb (length e.standing) k) (refused e work (numbered 11 0))
      (squeeze_to e work (later k e.standing) (oldest k e.standing) (folded_to e k))

  -- what a call comes to where there is an editor
  abbrev pub turn_of : Editor → Call → Turn
  turn_of e (replace place count cells) = replace_at space e place count cells
  turn_of e undo = undo_last e e.standing
  turn_of e redo = redo_next e e.undone
  turn_of e (save arrived out) = save_standing space e arrived out e.standing
  turn_of e (squeeze k work) = squeeze_oldest e k work

abbrev pub over : List ℕ → Bool
over l = ltb limit (length l)

-- 16, by the list that a call lends: "cells to add, save's arrived bytes even if unused"; a work buffer is "of any
-- length"
abbrev pub overlong : Call → Bool
overlong (replace place count cells) = over cells
overlong undo = false
overlong redo = false
overlong (save arrived out) = over arrived
overlong (squeeze k work) = false

-- the output that a call lends: save has one, and squeeze its work buffer
abbrev pub output_of : Call → List ℕ
output_of (replace place count cells) = []
output_of undo = []
output_of redo = []
output_of (save arrived out) = out
output_of (squeeze k work) = work
