-- Lines that leave the desk, lines that do not, lines after which a `quit` is the second one, and what lines ask for,
-- computed. Assumes nothing.
use Prim.Native.Nat.{ℕ}
use mathlib.Core.Path.{◌≡◌, refl}
use mathlib.Core.Bool.{Bool, true, false}
use mathlib.Core.List.{List, [], ◌∷◌}
use Rattle.std.specs.Prelude.{Option, None, Some}
use lib.ListN.{drop}
use Rattle.answer.specs.Answer.{limit}
use Rattle.answer.specs.Output.{deliver}
use Rattle.reading.specs.Reading.{read_from, reading, read_into}
use Rattle.ledger.specs.Ledger.{Call, replace, save, squeeze}
use Rattle.commands.specs.Lines.{stretch, same, verb_of, said_in}
use Rattle.commands.specs.Numbers.{digit_value, raised, byte_does, ends_in}
use Rattle.desk_lines.specs.Desk.{leaving, warned_by, work_room, room, call_in}

-- whether a line leaves a desk that may be left, or may not
unfoldable pub left_by : Bool → List ℕ → Bool
left_by may line = leaving may (said_in line).verb (drop (said_in line).rest line)

-- whether the last command was a `quit` after a line, if it was, or was not, before
unfoldable pub quit_by : Bool → List ℕ → Bool
quit_by before line = warned_by before (said_in line).verb (drop (said_in line).rest line)

-- what a line asks for, by whether its file was put; and where it names none
abbrev AsksPut : Bool → List ℕ → Option Call → Type 0
AsksPut put line call = call_in [] (record { line = line; put = put }) ≡ call

abbrev Asks : List ℕ → Option Call → Type 0
Asks = AsksPut false

-- `quit`, `quit 1`, `undo`, `replace 0 1 62`, `squeeze 32`, `save a`, `keep a`, `x`, and a line with no word
abbrev quit : List ℕ
quit = 113 ∷ 117 ∷ 105 ∷ 116 ∷ 10 ∷ []

abbrev followed : List ℕ
followed = 113 ∷ 117 ∷ 105 ∷ 116 ∷ 32 ∷ 49 ∷ 10 ∷ []

abbrev undo : List ℕ
undo = 117 ∷ 110 ∷ 100 ∷ 111 ∷ 10 ∷ []

abbrev changes : List ℕ
changes = 114 ∷ 101 ∷ 112 ∷ 108 ∷ 97 ∷ 99 ∷ 101 ∷ 32 ∷ 48 ∷ 32 ∷ 49 ∷ 32 ∷ 54 ∷ 50 ∷ 10 ∷ []

abbrev folds : List ℕ
folds = 115 ∷ 113 ∷ 117 ∷ 101 ∷ 101 ∷ 122 ∷ 101 ∷ 32 ∷ 51 ∷ 50 ∷ 10 ∷ []

abbrev saves : List ℕ
saves = 115 ∷ 97 ∷ 118 ∷ 101 ∷ 32 ∷ 97 ∷ 10 ∷ []

abbrev keeps : List ℕ
keeps = 107 ∷ 101 ∷ 101 ∷ 112 ∷ 32 ∷ 97 ∷ 10 ∷ []

abbrev odd : List ℕ
odd = 120 ∷ 10 ∷ []

abbrev empty : List ℕ
empty = 32 ∷ 10 ∷ []

pub record Cases : Type 0 where
  -- only `quit`, alone, leaves the desk, where it may be left
  pub leaves : left_by true quit ≡ true
  pub asks : left_by false quit ≡ false
  pub followed-stays : left_by true followed ≡ false
  pub undo-stays : left_by true undo ≡ false
  pub folds-stays : left_by true folds ≡ false
  pub keeps-stays : left_by true keeps ≡ false
  pub odd-stays : left_by true odd ≡ false
  pub empty-stays : left_by true empty ≡ false
  -- after it a `quit` is the second one, also behind lines with no word; after all others it is not
  pub second : quit_by false quit ≡ true
  pub empty-between : quit_by true empty ≡ true
  pub empty-first : quit_by false empty ≡ false
  pub followed-between : quit_by true followed ≡ false
  pub undo-between : quit_by true undo ≡ false
  pub folds-between : quit_by true folds ≡ false
  pub keeps-between : quit_by true keeps ≡ false
  pub odd-between : quit_by true odd ≡ false

pub cases : Cases
unfolding left_by quit_by said_in verb_of same stretch
cases =
    record {
      leaves = refl;
      asks = refl;
      followed-stays = refl;
      undo-stays = refl;
      folds-stays = refl;
      keeps-stays = refl;
      odd-stays = refl;
      empty-stays = refl;
      second = refl;
      empty-between = refl;
      empty-first = refl;
      followed-between = refl;
      undo-between = refl;
      folds-between = refl;
      keeps-between = refl;
      odd-between = refl;
    }

pub record Asking : Type 0 where
  -- `replace 0 1 62` replaces a cell; `replace 0` and `replace 0 1 x` ask for nothing
  pub replaced : Asks changes (Some (replace 0 1 (98 ∷ [])))
  pub no-count : Asks (114 ∷ 101 ∷ 112 ∷ 108 ∷ 97 ∷ 99 ∷ 101 ∷ 32 ∷ 48 ∷ 10 ∷ []) None
  pub no_cell : Asks (114 ∷ 101 ∷ 112 ∷ 108 ∷ 97 ∷ 99 ∷ 101 ∷ 32 ∷ 48 ∷ 32 ∷ 49 ∷ 32 ∷ 120 ∷ 10 ∷ []) None
  -- `squeeze 32` folds 32 steps; `squeeze` and `squeeze 3 2` ask for nothing
  pub squeezed : Asks folds (Some (squeeze 32 work_room))
  pub no_number : Asks (115 ∷ 113 ∷ 117 ∷ 101 ∷ 101 ∷ 122 ∷ 101 ∷ 10 ∷ []) None
  pub two-numbers : Asks (115 ∷ 113 ∷ 117 ∷ 101 ∷ 101 ∷ 122 ∷ 101 ∷ 32 ∷ 51 ∷ 32 ∷ 50 ∷ 10 ∷ []) None
  -- `save a` is a save where the file was put
  pub saved : AsksPut true saves (Some (save [] room))
  pub not-put : AsksPut false saves None
  -- `keep a` asks for nothing of the page, whatever became of its file
  pub kept : AsksPut true keeps None
  pub not-kept : AsksPut false keeps None

pub asking : Asking
unfolding call_in said_in verb_of same stretch limit read_from reading read_into deliver digit_value raised byte_does ends_in
asking =
    record {
      replaced = refl;
      no-count = refl;
      no_cell = refl;
      squeezed = refl;
      no_number = refl;
      two-numbers = refl;
      saved = refl;
      not-put = refl;
      kept = refl;
      not-kept = refl;
    }
