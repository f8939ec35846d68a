-- Demand 3, for any layout: what holds of a state and of the ledger that heard the calls that led to it.
use Rattle.std.specs.Prelude.{ℕ, ◌≤◌, ◌≡◌, ◌↔◌, true, false, List, [], ◌∷◌, map, reverse, length, replicate, Some}
use Rattle.std.specs.Prelude.{Option}
use Rattle.answer.specs.Answer.{numbered}
use Rattle.answer.specs.Output.{filled}
use Rattle.codec.specs.Kinds.{writing_in}
use Rattle.editor.specs.Ledger.{Step, Ledger, Call, undo, redo, save, text_of, done_by, unchanged_by}
use Rattle.editor.specs.Records.{step_of}
use Rattle.editor.specs.Editor.{Editor, output_of}
use Rattle.editor.specs.Layout.{Outcome, taken, Layout, outcome_of, reply_of, after}

-- "the records are proved to agree with it, step for step, in place, count removed and cells added"; the state is sound
pub record Agrees (found : Option Editor) (l : Ledger) : Type 0 where
  pub editor : Editor
  pub sound : found ≡ Some editor
  pub kind : editor.kind ≡ l.kind
  pub standing : map step_of (reverse editor.standing) ≡ l.standing
  pub undone : map step_of editor.undone ≡ l.undone
  -- "the page's mark equals the one that the same ledger now keeps by these rules"
  pub saved : editor.saved ≡ l.saved

-- "the bytes lent to it as arrived if nothing stands, otherwise the writing of the ledger's text in the page's kind"
abbrev pub bytes_for : Ledger → List Step → List ℕ → List ℕ
bytes_for l [] arrived = arrived
bytes_for l (s ∷ rest) arrived = writing_in l.kind (text_of l)

-- a save that is accepted, leaves this state and gives these bytes
abbrev pub saved_bytes : {S : Type 0} → S → List ℕ → List ℕ → Outcome S
saved_bytes s out bytes = record { verdict = numbered 0 (length bytes); state = s; output = filled bytes out }

module _ {S : Type 0} (layout : Layout S) where
  -- the state after some undos
  abbrev pub undone-by : ℕ → S → S
  undone-by n s = after layout s (replicate n undo)

  pub record Promised (arrived : List ℕ) (s : S) (l : Ledger) : Type 0 where
    pub agrees : Agrees (layout.editor_in s) l
    -- "the first length cells of the text buffer equal the ledger's text"
    pub text : layout.text_in s ≡ text_of l
    -- "An undo then gives 13 exactly when the standing list is empty, a redo exactly when the undone list is; else they
    -- are accepted."
    pub undo-none : ((outcome_of layout s undo).verdict ≡ numbered 13 0) ↔ (l.standing ≡ [])
    pub undo-some : (l.standing ≡ [] → ⊥) → taken (outcome_of layout s undo) ≡ true
    pub redo-none : ((outcome_of layout s redo).verdict ≡ numbered 13 0) ↔ (l.undone ≡ [])
    pub redo-some : (l.undone ≡ [] → ⊥) → taken (outcome_of layout s redo) ≡ true
    pub saves :
        (lent out : List ℕ) → taken (outcome_of layout s (save lent out)) ≡ true →
        outcome_of layout s (save lent out)
        ≡ saved_bytes (layout.marked s (Some (done_by layout.weigh l))) out (bytes_for l l.standing lent)
    -- "unchanged" exactly when the ledger's mark equals its words done
    pub asks : reply_of layout s ≡ record { verdict = numbered 0 0; unchanged = unchanged_by layout.weigh l }
    -- undo until it refuses brings the reading back, cell for cell, and save then gives the arrived bytes
    pub bottom : (outcome_of layout (undone-by (length l.standing) s) undo).verdict ≡ numbered 13 0
    pub back :
        (n : ℕ) → (outcome_of layout (undone-by n s) undo).verdict ≡ numbered 13 0 →
        layout.text_in (undone-by n s) ≡ l.reading
    pub given_back :
        (n : ℕ) → (outcome_of layout (undone-by n s) undo).verdict ≡ numbered 13 0 → (out : List ℕ) →
        length arrived ≤ length out →
        outcome_of layout (undone-by n s) (save arrived out)
        ≡ saved_bytes (layout.marked (undone-by n s) (Some 0)) out arrived

-- the state and the output are these still
pub record Unchanged {S : Type 0} (s : S) (out : List ℕ) (o : Outcome S) : Type 0 where
  pub state : o.state ≡ s
  pub output : o.output ≡ out

-- "A refusal changes no page and no buffer": every call on every state, sound or not
abbrev pub RefusedSame : {S : Type 0} → Layout S → Type 0
RefusedSame {S} layout =
    (s : S) (c : Call) → taken (outcome_of layout s c) ≡ false → Unchanged s (output_of c) (outcome_of layout s c)
