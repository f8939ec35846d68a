-- Document 01: "constant table of the nine designations [..], searched by reader and writer, its rule proved once over
-- the table".
use Rattle.std.specs.Prelude.{ℕ, ◌+◌, ◌<◌, ◌≤◌, ◌≡◌, Bool, true, cond, ◌||◌, List, ◌++◌, map, length, get_or, eqb}
use Rattle.reading.specs.Reading.{read_from}
use Rattle.jp2.specs.Table.{row_at, sent, begins, row_of_number, row_of_escape}
use Rattle.jp2.specs.Rule.{plain, return, state, designated, jp2}
use Rattle.jp2.specs.Writable.{pair_set, shift_set}
use Rattle.jp2.specs.Tally.{sets, sum}
use Rattle.jp2.specs.declared.Designation.{Designation}

-- what holds of the row d, the i-th
pub record Ruled (d : Designation) (i : ℕ) : Type 0 where
  -- a search by its number finds it, and so does one by its escape
  pub by_number : row_of_number d.number ≡ i
  pub by-escape : row_of_escape (sent d) ≡ i
  -- its escape begins no other row's
  pub alone : (j : ℕ) → j < 9 → begins (sent d) (sent (row_at j)) ≡ true → i ≡ j
  -- 0 is no set's number
  pub some : 0 < d.number
  -- three or four bytes of four are sent, ESC first
  pub starts : get_or (sent d) 0 0 ≡ 27
  pub least : 3 ≤ d.length
  pub most : d.length ≤ 4
  pub four : length d.escape ≡ 4
  -- every set is one for ESC N, of single bytes, or of pairs; the first go to G2, the others to G0
  pub belongs : (shift_set d.number || ((eqb d.number 6 || eqb d.number 14) || pair_set d.number)) ≡ true
  pub side : d.to ≡ cond (shift_set d.number) 2 0
  -- it is read as it is sent, between cells and whichever sets are in force
  pub reads :
      (g0 g2 at : ℕ) (cr : Bool) (rest : List ℕ) →
      read_from jp2 (sent d ++ rest) at (state g0 g2 (cond cr return plain))
      ≡ read_from jp2 rest (at + length (sent d)) (designated g0 g2 d)
  -- with ESC N and a byte, or with a pair, it takes six bytes at most
  pub room : length (sent d) + cond (shift_set d.number) 3 2 ≤ 6
  -- its set has one of the tally's counts
  pub once : sum (map (λ set. cond (eqb d.number set) 1 0) sets) ≡ 1

abbrev pub TableRule : Type 0
TableRule = (i : ℕ) → i < 9 → Ruled (row_at i) i
