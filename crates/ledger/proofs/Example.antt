-- Document 01's worked page, "Body page on P2, one cell at 1 replaced by 003D", pages damaged by hand, the order of the
-- refusals, what a replace records, and the saved mark, computed. Assumes nothing.
use Prim.Native.Nat.{ℕ}
use mathlib.Core.Path.{◌≡◌, refl}
use mathlib.Core.Bool.{true, false}
use mathlib.Core.List.{List, [], ◌∷◌, ◌++◌}
use native.Mathlib.Omega.{arith}
use lib.ListN.{replicate}
use borrow.Author.Tests.{le-ltb}
use Rattle.answer.specs.Answer.{numbered, limit}
use Rattle.std.specs.Prelude.{None, Some}
use Rattle.answer.specs.Output as output
use Rattle.reading.specs.Reading.{fault}
use Rattle.codec.specs.declared.Kind.TheVariants.{Utf7Body}
use Rattle.codec.specs.Kinds.{first_unwritable}
use Rattle.codec.proofs.ByKind.{write-form}
use Rattle.codec.proofs.Worked.{letter, cells_read, cells_edited, written, letter-reads, letter-reads-as, sign-writable}
use Rattle.codec.proofs.Worked.{edited-writable, edited-writes}
use Rattle.editor.specs.Marks.{Mark}
use Rattle.editor.specs.Records.{reached, lengths_fit, ends_at}
use Rattle.editor.specs.Editor.{undo_last, redo_next, replace_fitting, replace_at, save_standing}
use Rattle.editor.specs.Layout as editor
use Rattle.ledger.specs.Words.{records_in, part_at, zeros}
use Rattle.ledger.specs.Page.{State, state_of, framed, reached_at_done, fitting, records, Outcome}
use Rattle.ledger.specs.Calls.{undo_of, redo_of, replace_of, save_of, unchanged_of, open_read, open_of}

-- a body page of four cells, with a mark, its words used and done, beside these buffers; marked at 0, as an open leaves it
abbrev pub marked : Mark → ℕ → ℕ → List ℕ → List ℕ → State
marked saved used done text history =
    state_of (record { kind = Utf7Body; opening = 4; length = 4; used = used; done = done; saved = saved }) text history

abbrev pub page : ℕ → ℕ → List ℕ → List ℕ → State
page used done text history = marked (Some 0) used done text history

abbrev pub accepts : ℕ → State → List ℕ → Outcome
accepts count s out = record { verdict = numbered 0 count; state = s; output = out }

abbrev pub step : List ℕ
step = 1 ∷ 1 ∷ 1 ∷ 0x2262 ∷ 0x3D ∷ []

-- "a refused open gives the kind with four zeros", and no mark
abbrev pub nothing_opened : State
nothing_opened =
    state_of (record { kind = Utf7Body; opening = 0; length = 0; used = 0; done = 0; saved = None }) (replicate 3 9)
    (replicate 3 9)

-- each call is made on the state that the one before it leaves, in buffers of five cells and five words
abbrev pub on_open : State
on_open = page 0 0 (cells_read ++ 0 ∷ []) (replicate 5 0)

abbrev pub on_replace : State
on_replace = page 5 5 (cells_edited ++ 0 ∷ []) step

abbrev pub on_save : State
on_save = marked (Some 5) 5 5 (cells_edited ++ 0 ∷ []) step

abbrev pub on_undo : State
on_undo = page 5 0 (cells_read ++ 0 ∷ []) step

pub record Worked : Type 0 where
  pub opens : open_of Utf7Body letter (replicate 5 9) (replicate 5 9) ≡ accepts 4 on_open []
  pub opens-short :
      open_of Utf7Body letter (replicate 3 9) (replicate 3 9)
      ≡ record { verdict = numbered 9 4; state = nothing_opened; output = [] }
  pub replaces : replace_of on_open 1 1 (0x3D ∷ []) ≡ accepts 4 on_replace []
  pub saves : save_of on_replace letter (replicate 9 9) ≡ accepts 8 on_save (written ++ 9 ∷ [])
  pub undoes : undo_of on_replace ≡ accepts 4 on_undo []
  pub redoes : redo_of on_undo ≡ accepts 4 on_replace []
  pub saves-letter : save_of on_undo letter (replicate 9 9) ≡ accepts 9 on_undo letter
  pub undoes-none : (undo_of on_undo).verdict ≡ numbered 13 0
  pub four-words : (replace_of (page 0 0 (cells_read ++ 0 ∷ []) (replicate 4 0)) 1 1 (0x3D ∷ [])).verdict ≡ numbered 12 5

pub worked : Worked
unfolding limit records_in reached lengths_fit ends_at part_at zeros framed reached_at_done fitting records
    editor.call_on editor.outcome_of undo_last redo_next replace_fitting replace_at save_standing output.deliver open_read open_of
worked =
    record {
      opens = rw letter-reads;
      opens-short = rw letter-reads;
      replaces = rw sign-writable;
      saves = rw (write-form, edited-writable, edited-writes);
      undoes = refl;
      redoes = refl;
      saves-letter = rw letter-reads-as;
      undoes-none = refl;
      four-words = rw sign-writable;
    }

-- pages that are not sound, by the parts of soundness
pub record Damaged : Type 0 where
  pub text-past-length : (undo_of (page 5 5 (cells_edited ++ 7 ∷ []) step)).verdict ≡ numbered 14 0
  pub history-past-used : (undo_of (page 5 5 (cells_edited ++ 0 ∷ []) (step ++ 7 ∷ []))).verdict ≡ numbered 14 0
  pub done-in-record : (undo_of (page 5 3 (cells_edited ++ 0 ∷ []) step)).verdict ≡ numbered 14 0
  pub undone-cut : (undo_of (page 4 0 (cells_read ++ 0 ∷ []) (1 ∷ 1 ∷ 1 ∷ 0x2262 ∷ []))).verdict ≡ numbered 14 0
  pub undone-beyond : (undo_of (page 5 0 (cells_read ++ 0 ∷ []) (4 ∷ 1 ∷ 1 ∷ 0x2262 ∷ 0x3D ∷ []))).verdict ≡ numbered 14 0
  pub undone-too-long : (undo_of (page 5 0 cells_read (0 ∷ 0 ∷ 2 ∷ 0x3D ∷ 0x3D ∷ []))).verdict ≡ numbered 14 0
  pub other_length :
      (undo_of (page 5 5 (cells_edited ++ 0 ∷ 0 ∷ 0 ∷ []) (1 ∷ 0 ∷ 2 ∷ 0x3D ∷ 0x3D ∷ []))).verdict ≡ numbered 14 0
  pub opening-beyond :
      (undo_of
      (state_of (record { kind = Utf7Body; opening = 6; length = 4; used = 5; done = 5; saved = Some 0 }) (cells_read ++ 0 ∷ [])
      (0 ∷ 2 ∷ 0 ∷ 0x41 ∷ 0x41 ∷ []))
      ).verdict
      ≡ numbered 14 0
  -- a mark "neither 0 nor the end of a record"
  pub mark-in-record : (undo_of (marked (Some 3) 5 5 (cells_edited ++ 0 ∷ []) step)).verdict ≡ numbered 14 0
  pub mark-in-undone : (redo_of (marked (Some 3) 5 0 (cells_read ++ 0 ∷ []) step)).verdict ≡ numbered 14 0
  pub mark-beyond : (undo_of (marked (Some 6) 5 5 (cells_edited ++ 0 ∷ []) step)).verdict ≡ numbered 14 0

pub damaged : Damaged
unfolding limit records_in reached lengths_fit ends_at part_at zeros framed reached_at_done fitting records
    editor.call_on editor.outcome_of undo_last
damaged =
    record {
      text-past-length = refl;
      history-past-used = refl;
      done-in-record = refl;
      undone-cut = refl;
      undone-beyond = refl;
      undone-too-long = refl;
      other_length = refl;
      opening-beyond = refl;
      mark-in-record = refl;
      mark-in-undone = refl;
      mark-beyond = refl;
    }

-- 14 comes before what the editor refuses (editor, Cases); and of an open, "9 only for a text with no fault"
pub record Ordered : Type 0 where
  pub replace-14 : (replace_of (page 0 0 (cells_read ++ 7 ∷ []) []) 5 0 (0x3D ∷ [])).verdict ≡ numbered 14 0
  pub undo-14 : (undo_of (page 0 0 (cells_read ++ 7 ∷ []) [])).verdict ≡ numbered 14 0
  pub redo-14 : (redo_of (page 0 0 (cells_read ++ 7 ∷ []) [])).verdict ≡ numbered 14 0
  pub save-14 : (save_of (page 0 0 (cells_edited ++ 7 ∷ []) []) letter []).verdict ≡ numbered 14 0
  pub open-fault : (open_read Utf7Body [] [] (fault 2 2) (0x41 ∷ [])).verdict ≡ numbered 2 2

pub ordered : Ordered
unfolding limit records_in reached lengths_fit ends_at part_at zeros framed reached_at_done fitting records
    editor.call_on editor.outcome_of open_read
ordered = record { replace-14 = refl; undo-14 = refl; redo-14 = refl; save-14 = refl; open-fault = refl }

-- what is recorded: "room of dropped steps is used again", and "Removing nothing and adding nothing is a step too."
pub record Recorded : Type 0 where
  pub room-again : replace_of on_undo 1 1 (0x3D ∷ []) ≡ accepts 4 on_replace []
  pub nothing : replace_of on_open 1 0 [] ≡ accepts 4 (page 3 3 (cells_read ++ 0 ∷ []) (1 ∷ 0 ∷ 0 ∷ 0 ∷ 0 ∷ [])) []

pub recorded : Recorded
unfolding limit records_in reached lengths_fit ends_at part_at zeros framed reached_at_done fitting records
    editor.call_on editor.outcome_of replace_fitting replace_at
recorded =
    record {
      room-again = rw sign-writable;
      nothing = rw (le-ltb (first_unwritable Utf7Body []) 0 (omega arith));
    }

-- order 5: a mark at the end of an undone record is sound; undo and redo leave it, and a replace made then drops it
abbrev pub undone_saved : State
undone_saved = marked (Some 5) 5 0 (cells_read ++ 0 ∷ []) step

pub record Marked : Type 0 where
  pub undo-leaves : undo_of on_save ≡ accepts 4 undone_saved []
  pub redo-leaves : redo_of undone_saved ≡ accepts 4 on_save []
  pub dropped :
      replace_of undone_saved 1 1 (0x3D ∷ []) ≡ accepts 4 (marked None 5 5 (cells_edited ++ 0 ∷ []) step) []
  pub kept :
      replace_of (marked (Some 5) 5 5 cells_edited (step ++ replicate 3 0)) 1 0 []
      ≡ accepts 4 (marked (Some 5) 8 8 cells_edited (step ++ 1 ∷ 0 ∷ 0 ∷ [])) []
  -- a refused save sets no mark
  pub save-refused : save_of on_replace letter [] ≡ record { verdict = numbered 9 8; state = on_replace; output = [] }
  -- the question
  pub opened-unchanged : unchanged_of on_open ≡ record { verdict = numbered 0 0; unchanged = true }
  pub edited-changed : unchanged_of on_replace ≡ record { verdict = numbered 0 0; unchanged = false }
  pub saved-unchanged : unchanged_of on_save ≡ record { verdict = numbered 0 0; unchanged = true }
  pub undone-changed : unchanged_of undone_saved ≡ record { verdict = numbered 0 0; unchanged = false }
  pub back-unchanged : unchanged_of on_undo ≡ record { verdict = numbered 0 0; unchanged = true }
  pub never-saved :
      unchanged_of (marked None 0 0 (cells_read ++ 0 ∷ []) []) ≡ record { verdict = numbered 0 0; unchanged = false }
  pub asked-unsound :
      unchanged_of (page 0 0 (cells_read ++ 7 ∷ []) []) ≡ record { verdict = numbered 14 0; unchanged = false }

pub marks : Marked
unfolding limit records_in reached lengths_fit ends_at part_at zeros framed reached_at_done fitting records
    editor.call_on editor.outcome_of editor.reply_of undo_last redo_next replace_fitting replace_at save_standing output.deliver
marks =
    record {
      undo-leaves = refl;
      redo-leaves = refl;
      dropped = rw sign-writable;
      kept = rw (le-ltb (first_unwritable Utf7Body []) 0 (omega arith));
      save-refused = rw (write-form, edited-writable, edited-writes);
      opened-unchanged = refl;
      edited-changed = refl;
      saved-unchanged = refl;
      undone-changed = refl;
      back-unchanged = refl;
      never-saved = refl;
      asked-unsound = refl;
    }
