-- The rule of the table of designations, proved at all nine rows by one computed test. Assumes nothing.
use Prim.Native.Nat.{ℕ, zero, suc, ◌+◌, ◌<◌, ◌≤◌}
use mathlib.Core.Path.{◌≡◌, refl, sym, ap, ◌∙◌}
use mathlib.Core.Bool.{Bool, true, false, cond, ◌&&◌, ◌||◌}
use mathlib.Core.List.{List, [], ◌∷◌, map}
use native.Mathlib.Omega.{arith}
use lib.ListN.{length, get_or}
use lib.Seq.{length-take-le, get_or-take}
use lib.Dec.{leb, ltb, eqb}
use borrow.Author.Tests.{eqb-true, ltb-true, leb-true, eq-eqb}
use Rattle.answer.proofs.Below.{both, all_below, below}
use Rattle.reading.proofs.Walk.{Walk, walk-read}
use Rattle.jp2.specs.declared.Designation.{Designation}
use Rattle.jp2.specs.Table.{designations, no_row, row_at, sent, begins, is_list, first_where, row_of_number, row_of_escape, row_begun_by}
use Rattle.jp2.specs.Rule.{state, designated, jp2}
use Rattle.jp2.specs.Writable.{pair_set, shift_set}
use Rattle.jp2.specs.Tally.{sets, sum}
use Rattle.jp2.specs.TableRule.{TableRule}
use Rattle.jp2.proofs.Search.{found-passes, found_first}
use Rattle.jp2.proofs.Begins.{begins-length, begins-first}
use Rattle.jp2.proofs.Sets.{base_set}
use Rattle.jp2.proofs.Sends.{sends, phase_of, sends-walk}

-- nine rows
pub rows : length designations ≡ 9
unfolding designations
rows = refl

abbrev tests : Designation → ℕ → List Bool
tests d i =
    eqb (row_of_number d.number) i
    ∷ eqb (row_of_escape (sent d)) i
    ∷ all_below (λ j. cond (begins (sent d) (sent (row_at j))) (eqb i j) true) 9
    ∷ ltb 0 d.number
    ∷ eqb (get_or (sent d) 0 0) 27
    ∷ leb 3 d.length
    ∷ leb d.length 4
    ∷ eqb (length d.escape) 4
    ∷ (shift_set d.number || base_set d.number)
    ∷ eqb d.to (cond (shift_set d.number) 2 0)
    ∷ sends (sent d) i
    ∷ leb (length (sent d) + cond (shift_set d.number) 3 2) 6
    ∷ eqb (sum (map (λ set. cond (eqb d.number set) 1 0) sets)) 1
    ∷ []

abbrev passes : List Bool → Bool
passes [] = true
passes (t ∷ ts) = t && passes ts

pass : (ts : List Bool) → passes ts ≡ true → (k : ℕ) → get_or ts k true ≡ true
pass [] e k = refl
pass (t ∷ ts) e zero = (both t (passes ts) e).0
pass (t ∷ ts) e (suc k) = pass ts (both t (passes ts) e).1 k

-- the one computed test of the nine rows
all_pass : (i : ℕ) → i < 9 → (k : ℕ) → get_or (tests (row_at i) i) k true ≡ true
unfolding designations begins first_where row_of_number row_of_escape row_begun_by all_below shift_set pair_set
all_pass i h = pass (tests (row_at i) i) (below (λ j. passes (tests (row_at j) j)) 9 refl i h)

-- a row leads from between cells to its set in its place
pub row-walk :
    (g0 g2 i : ℕ) → i < 9 → (cr : Bool) →
    Walk jp2 (state g0 g2 (phase_of cr)) (sent (row_at i)) [] (designated g0 g2 (row_at i))
row-walk g0 g2 i h cr = sends-walk g0 g2 i h cr (sent (row_at i)) (all_pass i h 10)

pub table-rule : TableRule
table-rule i h =
    let p = all_pass i h in
    record {
      by_number = eqb-true _ _ (p 0);
      by-escape = eqb-true _ _ (p 1);
      alone = λ j k e. eqb-true i j (rw e at (below _ 9 (p 2) j k));
      some = ltb-true _ _ (p 3);
      starts = eqb-true _ _ (p 4);
      least = leb-true _ _ (p 5);
      most = leb-true _ _ (p 6);
      four = eqb-true _ _ (p 7);
      belongs = p 8;
      side = eqb-true _ _ (p 9);
      reads = λ g0 g2 at cr rest. walk-read (row-walk g0 g2 i h cr) rest at _ refl;
      room = leb-true _ _ (p 11);
      once = eqb-true _ _ (p 12);
    }

-- a row goes to G2 where its set is one for ESC N
by_side : (t : Bool) → eqb (cond t 2 0) 2 ≡ t
by_side true = refl
by_side false = refl

pub row-to : (i : ℕ) → i < 9 → eqb (row_at i).to 2 ≡ shift_set (row_at i).number
row-to i h = rw (table-rule i h).side (by_side (shift_set (row_at i).number))

-- a row in hand: its length and bytes are those of what it sends
module _ {i : ℕ} {d : Designation} (h : i < 9) (e : d ≡ row_at i) where
  pub row-most : d.length ≤ 4
  row-most = rw e (table-rule i h).most

  pub row-size : length (sent (row_at i)) ≡ d.length
  row-size = rw e (length-take-le _ _ (rw (table-rule i h).four (table-rule i h).most))

  pub row-byte : (k : ℕ) → k < d.length → get_or (sent (row_at i)) k 0 ≡ get_or d.escape k 0
  row-byte k q = rw (← e) (get_or-take d.length d.escape k 0 q)

-- the numbers are distinct
pub numbers-distinct : (i j : ℕ) → i < 9 → j < 9 → (row_at i).number ≡ (row_at j).number → i ≡ j
numbers-distinct i j h k e = sym (table-rule i h).by_number ∙ ap row_of_number e ∙ (table-rule j k).by_number

-- ESC $ ( B is no row and begins none
pub no_such : (row_of_escape (27 ∷ 36 ∷ 40 ∷ 66 ∷ []) ≡ 9) × (row_begun_by (27 ∷ 36 ∷ 40 ∷ 66 ∷ []) ≡ 9)
unfolding designations begins first_where row_of_escape row_begun_by
no_such = (refl, refl)

-- bytes that begin a row, and are none, are ESC and at most two more
module _ (bytes : List ℕ) (some : 0 < length bytes) (begun : row_begun_by bytes < 9) where
  begins-found : begins bytes (sent (row_at (row_begun_by bytes))) ≡ true
  unfolding row_begun_by designations
  begins-found = found-passes (λ d. begins bytes (sent d)) designations no_row begun

  pub begun-starts : get_or bytes 0 0 ≡ 27
  begun-starts = begins-first bytes _ some begins-found ∙ (table-rule (row_begun_by bytes) begun).starts

  whole-found : length bytes ≡ length (sent (row_at (row_begun_by bytes))) → row_of_escape bytes ≤ row_begun_by bytes
  unfolding row_of_escape designations
  whole-found e = found_first (λ d. is_list bytes (sent d)) designations no_row (row_begun_by bytes) begun (rw (begins-found, eq-eqb _ _ e))

  pub begun-short : 9 ≤ row_of_escape bytes → length bytes < 4
  begun-short h =
      let ne : length bytes ≡ length (sent (row_at (row_begun_by bytes))) → ⊥ = λ e. omega (arith, whole-found e) in
      omega (arith, begins-length bytes _ begins-found, row-size begun refl, row-most begun refl)
