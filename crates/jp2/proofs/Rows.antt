-- The row of a set: found by the set's number, and read as it is sent. Assumes nothing.
use Prim.Native.Nat.{ℕ, ◌<◌}
use mathlib.Core.Path.{◌≡◌}
use mathlib.Core.Bool.{Bool, true, cond}
use mathlib.Core.List.{[]}
use lib.Dec.{eqb, lit<}
use borrow.Author.Tests.{eqb-true}
use Rattle.reading.proofs.Walk.{Walk}
use Rattle.jp2.specs.Table.{designations, row_at, no_row, sent, first_where, row_of_number}
use Rattle.jp2.specs.Rule.{plain, state, jp2}
use Rattle.jp2.specs.Writable.{shift_set, codes}
use Rattle.jp2.proofs.Search.{found-passes}
use Rattle.jp2.proofs.Sets.{Kind, of-ascii, of-roman, of_pair, of_shift, kind-of, pair-case, shift-case}
use Rattle.jp2.proofs.Sends.{phase_of}
use Rattle.jp2.proofs.Table.{row-to, row-walk}

-- the set of a writable cell has a row
has-row : {n c : ℕ} → Kind n c → row_of_number n < 9
unfolding row_of_number first_where designations
has-row (of-ascii e) = lit< tt
has-row (of-roman e) = lit< tt
has-row {n} (of_pair e f g) = pair-case (λ n. row_of_number n < 9) n (lit< tt) (lit< tt) (lit< tt) (lit< tt) (lit< tt) e
has-row {n} (of_shift e f g) = shift-case (λ n. row_of_number n < 9) n (lit< tt) (lit< tt) e

pub row-found : (n c : ℕ) → codes n c ≡ true → row_of_number n < 9
row-found n c h = has-row (kind-of n c h)

pub row_number : (n : ℕ) → row_of_number n < 9 → (row_at (row_of_number n)).number ≡ n
unfolding row_of_number designations
row_number n h = eqb-true _ n (found-passes (λ d. eqb d.number n) designations no_row h)

-- the designation of a set puts it into G2 or G0
pub set_walk :
    (g0 g2 n : ℕ) (cr : Bool) → row_of_number n < 9 →
    Walk jp2 (state g0 g2 (phase_of cr)) (sent (row_at (row_of_number n))) []
    (cond (shift_set n) (state g0 n plain) (state n g2 plain))
set_walk g0 g2 n cr h = rw (row-to (row_of_number n) h, row_number n h) at (row-walk g0 g2 (row_of_number n) h cr)
