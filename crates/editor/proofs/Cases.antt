-- Where two refusals hold, the one that is first in document 01's order is given; and what accepted calls come to,
-- computed; and the rules of the mark. Assumes nothing.
use Prim.Native.Nat.{ℕ}
use mathlib.Core.Path.{◌≡◌, refl}
use mathlib.Core.Bool.{true, false}
use mathlib.Core.List.{List, [], ◌∷◌, ◌++◌}
use native.Mathlib.Omega.{arith}
use borrow.Author.Tests.{le-ltb}
use Rattle.answer.specs.Answer.{numbered, limit}
use Rattle.std.specs.Prelude.{None, Some}
use Rattle.answer.specs.Output.{deliver}
use Rattle.codec.specs.declared.Kind.TheVariants.{Utf7Body}
use Rattle.codec.specs.Kinds.{first_unwritable}
use Rattle.codec.proofs.ByKind.{write-form}
use Rattle.codec.proofs.Worked.{letter, cells_read, cells_edited, cells_great, written, letter-reads-as}
use Rattle.codec.proofs.Worked.{letter-reads-other, sign-writable, great-unwritable, edited-writable, edited-writes}
use Rattle.editor.specs.Marks.{replaced_mark, unchanged_at}
use Rattle.editor.specs.Ledger.{Step, replace, undo, redo, save}
use Rattle.editor.specs.Records.{Entry}
use Rattle.editor.specs.Editor.{Editor, Space, moves, records, edited, saving, undo_last, redo_next, replace_fitting}
use Rattle.editor.specs.Editor.{replace_at, save_standing, turn_of}

-- a body text in a buffer of this length, with standing and undone records, marked at 0
abbrev editing : ℕ → List ℕ → List Entry → List Entry → Editor
editing room text standing undone =
    record { kind = Utf7Body; room = room; text = text; standing = standing; undone = undone; saved = Some 0 }

-- every step counts for one
abbrev ones : Step → ℕ
ones s = 1

-- a history in which a new record takes so many words of five, and five are done
abbrev taking : ℕ → Space
taking n = record { words = 5; needed = λ _. n; done = 5; laid = λ _. [] }

-- one cell at 1 replaced by 003D, and nothing replaced by nothing there
abbrev step : Entry
step = record { place = 1; removed = 0x2262 ∷ []; added = 0x3D ∷ [] }

abbrev nothing : Entry
nothing = record { place = 1; removed = []; added = [] }

pub record Ordered : Type 0 where
  -- "Replace: [..] 11, 10, 9, 12"
  pub replace-11 : (turn_of ones (taking 6) (editing 4 cells_read [] []) (replace 5 0 cells_great)).verdict ≡ numbered 11 4
  pub replace-10 : (turn_of ones (taking 6) (editing 4 cells_read [] []) (replace 0 0 cells_great)).verdict ≡ numbered 10 1
  pub replace-9 : (turn_of ones (taking 6) (editing 4 cells_read [] []) (replace 0 0 (0x3D ∷ []))).verdict ≡ numbered 9 5
  pub replace-12 : (turn_of ones (taking 6) (editing 5 cells_read [] []) (replace 0 0 (0x3D ∷ []))).verdict ≡ numbered 12 6
  -- "Undo, redo: [..] 13"
  pub undo-13 : (turn_of ones (taking 5) (editing 4 cells_read [] (step ∷ [])) undo).verdict ≡ numbered 13 0
  pub redo-13 : (turn_of ones (taking 5) (editing 4 cells_edited (step ∷ []) []) redo).verdict ≡ numbered 13 0
  -- "Save: [..] 15 where no step stands or 10 where one does, then 9"
  pub save-15 : (turn_of ones (taking 5) (editing 4 cells_edited [] (step ∷ [])) (save letter [])).verdict ≡ numbered 15 0
  pub save-10 : (turn_of ones (taking 5) (editing 4 cells_great (step ∷ []) []) (save letter [])).verdict ≡ numbered 10 1
  pub save-9 : (turn_of ones (taking 5) (editing 4 cells_read [] []) (save letter [])).verdict ≡ numbered 9 9

pub ordered : Ordered
unfolding limit deliver undo_last redo_next replace_fitting replace_at save_standing
ordered =
    record {
      replace-11 = refl;
      replace-10 = rw great-unwritable;
      replace-9 = rw sign-writable;
      replace-12 = rw sign-writable;
      undo-13 = refl;
      redo-13 = refl;
      save-15 = rw letter-reads-other;
      save-10 = rw (write-form, great-unwritable);
      save-9 = rw letter-reads-as;
    }

pub record Turned : Type 0 where
  pub replaces :
      turn_of ones (taking 5) (editing 4 cells_read [] (nothing ∷ [])) (replace 1 1 (0x3D ∷ []))
      ≡ edited (editing 4 cells_read [] (nothing ∷ [])) cells_edited (step ∷ []) [] (Some 0) (records step)
  -- "Removing nothing and adding nothing is a step too."
  pub replaces-nothing :
      turn_of ones (taking 3) (editing 4 cells_read [] []) (replace 1 0 [])
      ≡ edited (editing 4 cells_read [] []) cells_read (nothing ∷ []) [] (Some 0) (records nothing)
  pub undoes :
      turn_of ones (taking 5) (editing 4 cells_edited (step ∷ []) []) undo
      ≡ edited (editing 4 cells_edited (step ∷ []) []) cells_read [] (step ∷ []) (Some 0) moves
  pub redoes :
      turn_of ones (taking 5) (editing 4 cells_read [] (step ∷ [])) redo
      ≡ edited (editing 4 cells_read [] (step ∷ [])) cells_edited (step ∷ []) [] (Some 0) moves
  -- "the arrived bytes [..] as they are; otherwise the text written"
  pub saves-arrived :
      turn_of ones (taking 5) (editing 4 cells_read [] (step ∷ [])) (save letter letter)
      ≡ saving (taking 5) (editing 4 cells_read [] (step ∷ [])) letter (numbered 0 9)
  pub saves-written :
      turn_of ones (taking 5) (editing 4 cells_edited (step ∷ []) []) (save letter letter)
      ≡ saving (taking 5) (editing 4 cells_edited (step ∷ []) []) (written ++ 46 ∷ []) (numbered 0 8)

pub turned : Turned
unfolding limit deliver undo_last redo_next replace_fitting replace_at save_standing
turned =
    record {
      replaces = rw sign-writable;
      replaces-nothing = rw (le-ltb (first_unwritable Utf7Body []) 0 (omega arith));
      undoes = refl;
      redoes = refl;
      saves-arrived = rw letter-reads-as;
      saves-written = rw (write-form, edited-writable, edited-writes);
    }

-- order 5's rules over a mark and what is done: they serve the page and the ledger alike, so nothing else pins them
pub record Marked : Type 0 where
  -- "an accepted replace made while the mark exceeds the words done sets it to none"
  pub drops : replaced_mark 5 (Some 6) ≡ None
  pub keeps : replaced_mark 5 (Some 5) ≡ Some 5
  pub keeps-earlier : replaced_mark 5 (Some 0) ≡ Some 0
  pub stays-none : replaced_mark 5 None ≡ None
  -- "exactly when the mark equals the words done"
  pub same : unchanged_at 5 (Some 5) ≡ true
  pub earlier : unchanged_at 5 (Some 0) ≡ false
  pub later : unchanged_at 0 (Some 5) ≡ false
  pub none : unchanged_at 0 None ≡ false

pub marked : Marked
marked =
    record {
      drops = refl;
      keeps = refl;
      keeps-earlier = refl;
      stays-none = refl;
      same = refl;
      earlier = refl;
      later = refl;
      none = refl;
    }
