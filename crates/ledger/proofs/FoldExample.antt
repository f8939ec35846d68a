-- Order 8 on a page made by hand, which undoing and redoing do not restore, computed: the history closed up, the words
-- used and done, and the mark; and 14 before what the editor refuses. Assumes nothing.
use Prim.Native.Nat.{ℕ}
use mathlib.Core.Path.{◌≡◌, refl}
use mathlib.Core.List.{List, [], ◌∷◌, ◌++◌}
use Rattle.answer.specs.Answer.{numbered, limit}
use Rattle.std.specs.Prelude.{None, Some}
use Rattle.codec.specs.declared.Kind.TheVariants.{Utf7Body}
use Rattle.editor.specs.Marks.{Mark}
use Rattle.editor.specs.Records.{reached, lengths_fit, ends_at, text_before}
use Rattle.editor.specs.Editor.{squeeze_to, squeeze_oldest}
use Rattle.editor.specs.Layout as editor
use Rattle.ledger.specs.Words.{records_in, part_at, zeros}
use Rattle.ledger.specs.Page.{State, state_of, framed, reached_at_done, fitting, records}
use Rattle.ledger.specs.Calls.{squeeze_of}

-- one cell at 0 replaced by another, in words
abbrev putting : ℕ → ℕ → List ℕ
putting old new = 0 ∷ 1 ∷ 1 ∷ old ∷ new ∷ []

-- two cells, with used and done words and a mark, in buffers of three cells and so many words
abbrev page : ℕ → ℕ → Mark → ℕ → List ℕ → State
page used done saved past history =
    state_of (record { kind = Utf7Body; opening = 2; length = 2; used = used; done = done; saved = saved })
    (5 ∷ 9 ∷ past ∷ []) history

-- cells 1, 20, 30 replaced at 0 by 2, 3, 4, where 5 stands; and 9 removed at 1, undone
abbrev odd : Mark → ℕ → State
odd saved past =
    page 19 15 saved past (putting 1 2 ++ (putting 20 3 ++ (putting 30 4 ++ (1 ∷ 1 ∷ 0 ∷ 9 ∷ 0 ∷ []))))

abbrev two : List ℕ
two = 0 ∷ 2 ∷ 2 ∷ 1 ∷ 9 ∷ 30 ∷ 9 ∷ []

-- "Later steps follow unchanged, closed up, and freed words are 0."
abbrev squeezed_to : Mark → State
squeezed_to saved = page 16 12 saved 0 (two ++ (putting 30 4 ++ (1 ∷ 1 ∷ 0 ∷ 9 ∷ 0 ∷ 0 ∷ 0 ∷ 0 ∷ [])))

pub record Folded : Type 0 where
  pub folds :
      squeeze_of (odd (Some 19) 0) 2 (two ++ 7 ∷ [])
      ≡ record { verdict = numbered 0 16; state = squeezed_to (Some 16); output = two ++ 7 ∷ [] }
  -- "strictly inside the fold becomes none; one at its end or later moves along"; at 0 it stays
  pub mark-at-end : (squeeze_of (odd (Some 10) 0) 2 two).state ≡ squeezed_to (Some 7)
  pub mark-inside : (squeeze_of (odd (Some 5) 0) 2 two).state ≡ squeezed_to None
  pub mark-at-0 : (squeeze_of (odd (Some 0) 0) 2 two).state ≡ squeezed_to (Some 0)
  -- a work buffer too short by one word: 9, and nothing is changed
  pub short-9 :
      squeeze_of (odd None 0) 2 (7 ∷ 7 ∷ 7 ∷ 7 ∷ 7 ∷ 7 ∷ [])
      ≡ record { verdict = numbered 9 7; state = odd None 0; output = 7 ∷ 7 ∷ 7 ∷ 7 ∷ 7 ∷ 7 ∷ [] }
  pub unsound-14 : (squeeze_of (odd None 7) 1 []).verdict ≡ numbered 14 0

pub folded : Folded
unfolding limit records_in reached lengths_fit ends_at part_at zeros framed reached_at_done fitting records
    editor.call_on editor.outcome_of text_before squeeze_to squeeze_oldest
folded =
    record {
      folds = refl;
      mark-at-end = refl;
      mark-inside = refl;
      mark-at-0 = refl;
      short-9 = refl;
      unsound-14 = refl;
    }
