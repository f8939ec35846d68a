-- "Their sum is the number of cells." Assumes nothing.
use Prim.Native.Nat.{ℕ, ◌<◌}
use mathlib.Core.Path.{◌≡◌, refl}
use mathlib.Core.Bool.{cond}
use mathlib.Core.List.{List, [], ◌∷◌, map}
use native.Mathlib.Omega.{arith}
use lib.ListN.{length}
use lib.Dec.{ltb, eqb}
use borrow.Author.Tests.{lt-ltb, ltb-false}
use Rattle.answer.specs.Answer.{limit, too_long}
use Rattle.answer.specs.Lists.{Each}
use Rattle.answer.proofs.Below.{cond-case}
use Rattle.jp2.specs.Table.{row_of_number}
use Rattle.jp2.specs.Writable.{set_of, code_of, writable, first_foreign}
use Rattle.jp2.specs.Tally.{sets, count_of, counts_of, sum, Counts, no_counts, tally_of}
use Rattle.jp2.proofs.Sets.{Writable}
use Rattle.jp2.proofs.Table.{table-rule}
use Rattle.jp2.proofs.Rows.{row-found, row_number}
use Rattle.jp2.proofs.Foreign.{all-writable}

-- a set that has a row is tallied once
once : (n : ℕ) → row_of_number n < 9 → sum (map (λ set. cond (eqb n set) 1 0) sets) ≡ 1
once n h = rw (row_number n h) at (table-rule (row_of_number n) h).once

sum-all : (cells : List ℕ) → Each Writable cells → sum (counts_of cells) ≡ length cells
unfolding count_of writable
sum-all [] h = refl
sum-all (v ∷ vs) h = omega (arith, sum-all vs h.1, once (set_of v) (row-found (set_of v) (code_of v) h.0))

-- 16 comes first
pub tally-long : (cells : List ℕ) → limit < length cells → tally_of cells ≡ no_counts too_long
unfolding tally_of
tally-long cells h = rw (lt-ltb limit (length cells) h)

-- of every list whose tally is accepted
pub sum-counts : (cells : List ℕ) → (tally_of cells).verdict.number ≡ 0 → sum (tally_of cells).counts ≡ length cells
unfolding tally_of
sum-counts cells =
    let P : Counts → Type 0 = λ t. t.verdict.number ≡ 0 → sum t.counts ≡ length cells in
    cond-case P (ltb limit (length cells)) (λ _ e. absurd (omega arith))
    (λ _. cond-case P (ltb (first_foreign cells) (length cells)) (λ _ e. absurd (omega arith))
    (λ t _. sum-all cells (all-writable cells (ltb-false (first_foreign cells) (length cells) t))))
