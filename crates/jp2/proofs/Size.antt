-- "n cells need at most 6n + 3 bytes." Assumes nothing.
use Prim.Native.Nat.{ℕ, ◌+◌, ◌*◌, ◌/◌, ◌%◌, ◌<◌, ◌≤◌}
use mathlib.Core.Bool.{Bool, true, false, cond}
use mathlib.Core.List.{List, [], ◌∷◌, ◌++◌}
use native.Mathlib.Omega.{arith}
use lib.ListN.{length, length-append}
use lib.Dec.{eqb, lit≤}
use Rattle.answer.specs.Lists.{Each}
use Rattle.answer.proofs.Below.{cond-case}
use Rattle.jp2.specs.Table.{designations, row_at, sent, first_where, row_of_number}
use Rattle.jp2.specs.Writable.{set_of, code_of, pair_set, shift_set, writable}
use Rattle.jp2.specs.Writing.{Force, force, designating, spell, force_after, write_from, writing}
use Rattle.jp2.proofs.Sets.{Writable}
use Rattle.jp2.proofs.Table.{table-rule}
use Rattle.jp2.proofs.Rows.{row-found, row_number}

cut : (t : Bool) (l : List ℕ) → length (cond t [] l) ≤ length l
cut true l = omega arith
cut false l = omega arith

designating-size : (now n : ℕ) → length (designating now n) ≤ length (sent (row_at (row_of_number n)))
unfolding designating
designating-size now n = cut (eqb now n) (sent (row_at (row_of_number n)))

spell-by :
    (t : Bool) (a b x y d : List ℕ) → length a ≤ length d → length b ≤ length d → length x ≤ 3 → length y ≤ 2 → length d + cond t 3 2 ≤ 6 →
    length (cond t (a ++ x) (b ++ y)) ≤ 6
spell-by true a b x y d h k l m room = simp length-append (omega arith)
spell-by false a b x y d h k l m room = simp length-append (omega arith)

spell-size : (f : Force) (n c : ℕ) → row_of_number n < 9 → length (spell f n c) ≤ 6
unfolding spell
spell-size f n c known =
    let d = sent (row_at (row_of_number n)) in
    spell-by (shift_set n) (designating f.g2 n) (designating f.g0 n) (27 ∷ 78 ∷ c ∷ []) (cond (pair_set n) (c / 256 ∷ c % 256 ∷ []) (c ∷ [])) d
    (designating-size f.g2 n) (designating-size f.g0 n) (lit≤ tt)
    (cond-case (λ (l : List ℕ). length l ≤ 2) (pair_set n) {a = c / 256 ∷ c % 256 ∷ []} {b = c ∷ []} (λ _. lit≤ tt) (λ _. lit≤ tt))
    (rw (row_number n known) at (table-rule (row_of_number n) known).room)

from-size : (vs : List ℕ) (f : Force) → Each Writable vs → length (write_from vs f) ≤ 6 * length vs + 3
unfolding write_from writable row_of_number first_where designations
from-size [] f h = designating-size f.g0 6
from-size (v ∷ vs) f h =
    simp length-append
    (omega (arith, spell-size f (set_of v) (code_of v) (row-found (set_of v) (code_of v) h.0), from-size vs (force_after f (set_of v) (code_of v)) h.1))

pub size-bound : (cells : List ℕ) → Each Writable cells → length (writing cells) ≤ 6 * length cells + 3
unfolding writing
size-bound cells h = from-size cells (force 6 0 false) h
