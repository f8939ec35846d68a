-- Document 01, "The page": the ledger, with document 02's saved mark. It takes nothing from the page, the text buffer
-- or the history.
use Rattle.std.specs.Prelude.{ℕ, ◌+◌, Bool, cond, List, [], ◌∷◌, ◌++◌, length, take, drop, Some}
use Rattle.codec.specs.declared.Kind.{Kind}
use Rattle.codec.specs.Kinds.{reading_in}
use Rattle.editor.specs.Marks.{Mark, replaced_mark, folded_mark, unchanged_at}

-- "A step is a place, a count removed and the cells added."
pub record Step : Type 0 where
  pub place : ℕ
  pub count : ℕ
  pub added : List ℕ

-- "It holds the reading of those bytes and two lists of steps, standing and undone, both empty at first."
pub record Ledger : Type 0 where
  pub kind : Kind
  pub reading : List ℕ
  pub standing : List Step
  pub undone : List Step
  pub saved : Mark

-- "An accepted open sets it to 0"
abbrev pub opened : Kind → List ℕ → Ledger
opened kind arrived =
    record { kind = kind; reading = (reading_in kind arrived).cells; standing = []; undone = []; saved = Some 0 }

-- the calls, with their arguments: place, count and cells; arrived bytes and output; how many steps and the work buffer
pub data Call : Type 0 where
  replace : ℕ → ℕ → List ℕ → Call
  undo : Call
  redo : Call
  save : List ℕ → List ℕ → Call
  squeeze : ℕ → List ℕ → Call

-- the last of some steps, and those before it
abbrev pub last_of : List Step → List Step
last_of [] = []
last_of (s ∷ []) = s ∷ []
last_of (s ∷ t ∷ rest) = last_of (t ∷ rest)

abbrev pub before_last : List Step → List Step
before_last [] = []
before_last (s ∷ []) = []
before_last (s ∷ t ∷ rest) = s ∷ before_last (t ∷ rest)

abbrev pub with_steps : Ledger → List Step → List Step → Mark → Ledger
with_steps l standing undone saved =
    record { kind = l.kind; reading = l.reading; standing = standing; undone = undone; saved = saved }

-- "Each standing step in order turns it into the cells before its place, the cells added, and the cells from place plus
-- count on."
unfoldable pub text_after : List ℕ → List Step → List ℕ
text_after text [] = text
text_after text (s ∷ rest) = text_after (take s.place text ++ (s.added ++ drop (s.place + s.count) text)) rest

-- document 02, order 8: the one step, which "removes the whole opening text and adds the whole text as it was after
-- those"
abbrev pub fold_of : List ℕ → List Step → Step
fold_of reading oldest = record { place = 0; count = length reading; added = text_after reading oldest }

-- what steps count for, by what one does
abbrev pub weight_of : (Step → ℕ) → List Step → ℕ
weight_of weigh [] = 0
weight_of weigh (s ∷ rest) = weight_of weigh rest + weigh s

module _ (weigh : Step → ℕ) where
  -- how much is done by the ledger's own count, such as "3 for each standing step and one for each cell that it removes
  -- or adds"
  abbrev pub done_by : Ledger → ℕ
  done_by l = weight_of weigh l.standing

  -- the ledger with one step for the oldest ones, before the later ones
  abbrev pub folded : Ledger → List Step → List Step → Ledger
  folded l oldest later =
      with_steps l (fold_of l.reading oldest ∷ later) l.undone
      (folded_mark (weight_of weigh oldest) (weigh (fold_of l.reading oldest)) l.saved)

  -- "An accepted replace puts its step at the end of the standing list and empties the undone list." "An accepted undo
  -- moves the last standing step, if any, to the front of the undone list. An accepted redo moves the first undone
  -- step, if any, to the end of the standing list." "an accepted save sets it to the words done"; "an accepted
  -- [squeeze] puts that one step into the ledger for the folded ones"
  unfoldable pub accepted_call : Ledger → Call → Ledger
  accepted_call l (replace place count cells) =
      with_steps l (l.standing ++ record { place = place; count = count; added = cells } ∷ []) []
      (replaced_mark (done_by l) l.saved)
  accepted_call l undo = with_steps l (before_last l.standing) (last_of l.standing ++ l.undone) l.saved
  accepted_call l redo = with_steps l (l.standing ++ take 1 l.undone) (drop 1 l.undone) l.saved
  accepted_call l (save arrived out) = with_steps l l.standing l.undone (Some (done_by l))
  accepted_call l (squeeze k work) = folded l (take k l.standing) (drop k l.standing)

  -- "each call with its arguments and whether it was accepted"; "every refused call change[s] nothing"
  abbrev pub fed : Ledger → Call → Bool → Ledger
  fed l call taken = cond taken (accepted_call l call) l

  -- what the question answers, by the ledger
  abbrev pub unchanged_by : Ledger → Bool
  unchanged_by l = unchanged_at (done_by l) l.saved

-- "The ledger's text begins as the reading."
abbrev pub text_of : Ledger → List ℕ
text_of l = text_after l.reading l.standing
