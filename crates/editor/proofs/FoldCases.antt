-- Order 8: what a squeeze comes to, computed on records that undoing and redoing do not restore, with a step undone;
-- the order of its refusals; and the rule of the mark. Assumes nothing.
use Prim.Native.Nat.{ℕ}
use mathlib.Core.Path.{◌≡◌, refl}
use mathlib.Core.List.{List, [], ◌∷◌, ◌++◌}
use lib.ListN.{length}
use Rattle.answer.specs.Answer.{numbered}
use Rattle.std.specs.Prelude.{None, Some}
use Rattle.codec.specs.declared.Kind.TheVariants.{Utf7Body}
use Rattle.editor.specs.Marks.{Mark, folded_mark}
use Rattle.editor.specs.Ledger.{Step, Ledger, squeeze, text_after, accepted_call}
use Rattle.editor.specs.Records.{Entry, text_before}
use Rattle.editor.specs.Editor.{Editor, Space, folds, squeeze_to, squeeze_oldest, turn_of}

-- one cell at 0 replaced by another
abbrev putting : ℕ → ℕ → Entry
putting old new = record { place = 0; removed = old ∷ []; added = new ∷ [] }

-- a record in three words and its cells; every step counts for one
abbrev space : Space
space =
    record {
      words = 0;
      needed = λ _. 0;
      done = 3;
      laid = λ x. x.place ∷ length x.removed ∷ length x.added ∷ (x.removed ++ x.added);
    }

abbrev counted : Step → ℕ
counted s = 1

-- cells 1, 20, 30 were replaced at 0, by 2, 3, 4, where 5 stands: undoing gives 30, 20, 1 there, and redoing 2, 3, 4
abbrev editing : List ℕ → List Entry → List Entry → Mark → Editor
editing text standing undone saved =
    record { kind = Utf7Body; room = 9; text = text; standing = standing; undone = undone; saved = saved }

abbrev undone : List Entry
undone = record { place = 1; removed = 9 ∷ []; added = [] } ∷ []

abbrev three : List Entry
three = putting 30 4 ∷ putting 20 3 ∷ putting 1 2 ∷ []

abbrev odd : Mark → Editor
odd saved = editing (5 ∷ 9 ∷ []) three undone saved

-- the record for two of them, and for all three
abbrev two : Entry
two = record { place = 0; removed = 1 ∷ 9 ∷ []; added = 30 ∷ 9 ∷ [] }

abbrev all : Entry
all = record { place = 0; removed = 1 ∷ 9 ∷ []; added = 5 ∷ 9 ∷ [] }

-- the same three on six cells: their words are as many as those of one record for them
abbrev long : Editor
long = editing (5 ∷ 9 ∷ 9 ∷ 9 ∷ 9 ∷ 9 ∷ []) three [] None

pub record Squeezed : Type 0 where
  -- "accepted, that record stands first in [the work buffer], its rest untouched"; "The new words used are answered"
  pub folds-two :
      turn_of counted space (odd (Some 3)) (squeeze 2 (7 ∷ 7 ∷ 7 ∷ 7 ∷ 7 ∷ 7 ∷ 7 ∷ 7 ∷ []))
      ≡ record {
        verdict = numbered 0 16;
        output = 0 ∷ 2 ∷ 2 ∷ 1 ∷ 9 ∷ 30 ∷ 9 ∷ 7 ∷ [];
        editor = editing (5 ∷ 9 ∷ []) (putting 30 4 ∷ two ∷ []) undone (Some 2);
        change = folds (putting 20 3 ∷ putting 1 2 ∷ []) two;
      }
  pub folds-all :
      turn_of counted space (odd None) (squeeze 3 (7 ∷ 7 ∷ 7 ∷ 7 ∷ 7 ∷ 7 ∷ 7 ∷ []))
      ≡ record {
        verdict = numbered 0 11;
        output = 0 ∷ 2 ∷ 2 ∷ 1 ∷ 9 ∷ 5 ∷ 9 ∷ [];
        editor = editing (5 ∷ 9 ∷ []) (all ∷ []) undone None;
        change = folds three all;
      }
  -- "11 with place 0 for k under 2 or over the standing steps", undone ones aside
  pub none-11 : (turn_of counted space (odd None) (squeeze 0 [])).verdict ≡ numbered 11 0
  pub one-11 : (turn_of counted space (odd None) (squeeze 1 [])).verdict ≡ numbered 11 0
  pub four-11 : (turn_of counted space (odd None) (squeeze 4 [])).verdict ≡ numbered 11 0
  -- "19 (no gain, place 0) when the words would not become fewer, 9 when [..] cannot hold the new record"
  pub same-19 : (turn_of counted space long (squeeze 3 [])).verdict ≡ numbered 19 0
  pub more-19 : (turn_of counted space long (squeeze 2 [])).verdict ≡ numbered 19 0
  pub short-9 : (turn_of counted space (odd None) (squeeze 2 (7 ∷ 7 ∷ 7 ∷ 7 ∷ 7 ∷ 7 ∷ []))).verdict ≡ numbered 9 7

pub squeezed : Squeezed
unfolding text_before squeeze_to squeeze_oldest
squeezed =
    record {
      folds-two = refl;
      folds-all = refl;
      none-11 = refl;
      one-11 = refl;
      four-11 = refl;
      same-19 = refl;
      more-19 = refl;
      short-9 = refl;
    }

-- "strictly inside the fold becomes none; one at its end or later moves along": it serves the page and the ledger
-- alike, so nothing else pins it
pub record Marked : Type 0 where
  pub none : folded_mark 10 7 None ≡ None
  pub before : folded_mark 10 7 (Some 0) ≡ Some 0
  pub inside : folded_mark 10 7 (Some 5) ≡ None
  pub at_last : folded_mark 10 7 (Some 9) ≡ None
  pub at-end : folded_mark 10 7 (Some 10) ≡ Some 7
  pub later : folded_mark 10 7 (Some 15) ≡ Some 12

pub marked : Marked
marked = record { none = refl; before = refl; inside = refl; at_last = refl; at-end = refl; later = refl }

-- the ledger: steps that put 2, 3, 4 at 0 of the cells 1 and 9, two of them folded
abbrev puts : ℕ → Step
puts cell = record { place = 0; count = 1; added = cell ∷ [] }

abbrev kept : List Step → Mark → Ledger
kept standing saved =
    record { kind = Utf7Body; reading = 1 ∷ 9 ∷ []; standing = standing; undone = puts 8 ∷ []; saved = saved }

-- "an accepted one puts that one step into the ledger for the folded ones. A saved mark, the ledger's too"
pub record Heard : Type 0 where
  pub folds-two :
      accepted_call counted (kept (puts 2 ∷ puts 3 ∷ puts 4 ∷ []) (Some 3)) (squeeze 2 [])
      ≡ kept (record { place = 0; count = 2; added = 3 ∷ 9 ∷ [] } ∷ puts 4 ∷ []) (Some 2)
  pub drops-mark : (accepted_call counted (kept (puts 2 ∷ puts 3 ∷ []) (Some 1)) (squeeze 2 [])).saved ≡ None

pub heard : Heard
unfolding text_after accepted_call
heard = record { folds-two = refl; drops-mark = refl }
