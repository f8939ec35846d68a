-- Whether a text is accepted and reads as given cells.
use Rattle.std.specs.Prelude.{ℕ, Bool, true, false, cond, List, [], ◌∷◌, eqb}
use Rattle.reading.specs.Reading.{Ending, accepted, fault, Rule, Reading, reading}

unfoldable pub same_cells : List ℕ → List ℕ → Bool
same_cells [] [] = true
same_cells [] (y ∷ ys) = false
same_cells (x ∷ xs) [] = false
same_cells (x ∷ xs) (y ∷ ys) = cond (eqb x y) (same_cells xs ys) false

abbrev pub accepted_as : Ending → List ℕ → List ℕ → Bool
accepted_as accepted read cells = same_cells read cells
accepted_as (fault k place) read cells = false

-- a reading that was accepted and gave the cells
abbrev pub gave : Reading → List ℕ → Bool
gave r cells = accepted_as r.ending r.cells cells

unfoldable pub reads_as : {S : Type 0} → Rule S → List ℕ → List ℕ → Bool
reads_as rule text cells = gave (reading rule text) cells
