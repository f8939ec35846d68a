-- Cells by themselves: their codes, the bytes that they leave in an output, stretches. Assumes nothing.
use Prim.Native.Nat.{ℕ, zero, suc, ◌+◌, ◌-◌, ◌/◌, ◌%◌, ◌<◌, ◌≤◌}
use mathlib.Core.Path.{◌≡◌, refl, sym, ◌∙◌}
use mathlib.Core.Bool.{Bool, true, false, cond, ◌&&◌, true≢false, false≢true}
use mathlib.Core.List.{List, [], ◌∷◌}
use native.Mathlib.Omega.{arith}
use lib.ListN.{length, get_or, set}
use lib.Dec.{leb, eqb, lit<}
use borrow.Author.Count.{below_more}
use borrow.Author.Tests.{leb-true, eqb-true, eqb-false, eq-eqb, ne_eqb}
use Rattle.answer.specs.Output.{filled}
use Rattle.answer.proofs.Below.{both}
use Rattle.jp2.specs.Table.{designations, first_where, row_of_number}
use Rattle.jp2.specs.Rule.{graphic, cell_of}
use Rattle.jp2.specs.Writable.{set_of, code_of, ascii, pair_set, shift_set, codes}
use Rattle.jp2.proofs.Sets.{Kind, of-ascii, of-roman, of_pair, of_shift, kind-of, graphic-range, codes-pair, codes-shift}
use Rattle.jp2_write.specs.Pieces.{base_of, after_cr, Plain, Stretch}
pub use Rattle.jp2_write.specs.Pieces.{todo}

-- the codes of a writable cell fit a byte, or two
single-small : {n c : ℕ} → Kind n c → shift_set n ≡ false → pair_set n ≡ false → c < 128
unfolding ascii
single-small {c = c} (of-ascii a) s p = omega (arith, leb-true c 127 (both (leb c 127) _ a).0)
single-small {c = c} (of-roman g) s p = omega (arith, (graphic-range c g).1)
single-small (of_pair e f g) s p = absurd (true≢false (sym e ∙ p))
single-small (of_shift e f g) s p = absurd (true≢false (sym e ∙ s))

module _ (n c : ℕ) (w : codes n c ≡ true) where
  pub small-single : shift_set n ≡ false → pair_set n ≡ false → c < 128
  small-single = single-small (kind-of n c w)

  pub small-pair : pair_set n ≡ true → c / 256 < 128
  small-pair e = omega (arith, (graphic-range (c / 256) (both (graphic (c / 256)) _ (sym (codes-pair n c e) ∙ w)).0).1)

  -- a code of G0 is a byte or a pair by its size
  pub byte-single : shift_set n ≡ false → c < 256 → pair_set n ≡ false
  byte-single s h = by (pair_set n) refl
    where
      by : (t : Bool) → pair_set n ≡ t → pair_set n ≡ false
      by true e = absurd (omega (arith, (graphic-range (c / 256) (both (graphic (c / 256)) _ (sym (codes-pair n c e) ∙ w)).0).0))
      by false e = e

  pub large-pair : shift_set n ≡ false → 256 ≤ c → pair_set n ≡ true
  large-pair s h = by (pair_set n) refl
    where
      by : (t : Bool) → pair_set n ≡ t → pair_set n ≡ true
      by true e = e
      by false e = absurd (omega (arith, small-single s e))

  -- no set is numbered 0
  pub some-set : eqb n 0 ≡ false
  unfolding codes pair_set shift_set
  some-set = ne_eqb n 0 (λ e. false≢true (rw e at w))

  pub small-shift : shift_set n ≡ true → c < 128
  small-shift e = omega (arith, leb-true c 127 (both (leb 32 c) (leb c 127) (sym (codes-shift n c e) ∙ w)).1)

-- set 6 has a row
pub ascii-row : row_of_number 6 < 9
unfolding row_of_number first_where designations
ascii-row = lit< tt

-- a cell is a code of ASCII if its set is 6 and its code is that one
not-both : (s t : Bool) → (s ≡ true → t ≡ true → ⊥) → (s && t) ≡ false
not-both true true h = absurd (h refl refl)
not-both true false h = refl
not-both false t h = refl

code_by : (v c : ℕ) (t : Bool) → c < 65536 → eqb v (cell_of 6 c) ≡ t → (eqb (set_of v) 6 && eqb (code_of v) c) ≡ t
code_by v c true h e =
    let q = eqb-true v (cell_of 6 c) e in
    rw (eq-eqb (set_of v) 6 (omega arith), eq-eqb (code_of v) c (omega arith))
code_by v c false h e =
    not-both (eqb (set_of v) 6) (eqb (code_of v) c)
    (λ a b. eqb-false v (cell_of 6 c) e (omega (arith, eqb-true (set_of v) 6 a, eqb-true (code_of v) c b)))

pub code_is : (v c : ℕ) → c < 65536 → (eqb (set_of v) 6 && eqb (code_of v) c) ≡ eqb v (cell_of 6 c)
code_is v c h = code_by v c (eqb v (cell_of 6 c)) h refl

pub base-length : (n c : ℕ) → length (base_of n c) ≡ cond (pair_set n) 2 1
unfolding base_of
base-length n c = by (pair_set n)
  where
    by : (t : Bool) → length (cond t (c / 256 ∷ c % 256 ∷ []) (c ∷ [])) ≡ cond t 2 1
    by true = refl
    by false = refl

-- the cell before one that is not the first
pub after-cr : (cells : List ℕ) (i : ℕ) → (i ≡ 0 → ⊥) → after_cr cells i ≡ eqb (get_or cells (i - 1) 0) (cell_of 6 13)
after-cr cells zero h = absurd (h refl)
after-cr cells (suc i) h = let q : suc i - 1 ≡ i = omega arith in rw q

abbrev pub set_at : List ℕ → ℕ → ℕ
set_at cells i = set_of (get_or cells i 0)

abbrev pub code_at : List ℕ → ℕ → ℕ
code_at cells i = code_of (get_or cells i 0)

-- stores to the front of an output
pub store-one : (a : ℕ) (out : List ℕ) → 1 ≤ length out → set out 0 a ≡ filled (a ∷ []) out
store-one a [] h = absurd (omega arith)
store-one a (x ∷ out) h = refl

pub store_two : (a b : ℕ) (out : List ℕ) → 2 ≤ length out → set (set out 0 a) 1 b ≡ filled (a ∷ b ∷ []) out
store_two a b [] h = absurd (omega arith)
store_two a b (x ∷ []) h = absurd (omega arith)
store_two a b (x ∷ y ∷ out) h = refl

pub store-three : (a b c : ℕ) (out : List ℕ) → 3 ≤ length out → set (set (set out 0 a) 1 b) 2 c ≡ filled (a ∷ b ∷ c ∷ []) out
store-three a b c [] h = absurd (omega arith)
store-three a b c (x ∷ []) h = absurd (omega arith)
store-three a b c (x ∷ y ∷ []) h = absurd (omega arith)
store-three a b c (x ∷ y ∷ z ∷ out) h = refl

-- a stretch of no cell, and of one more
pub stretch-none : {cells : List ℕ} {g0 from : ℕ} → from ≤ length cells → Stretch cells g0 from from
stretch-none h =
    record { after = omega arith; within = h; ascii = λ a. absurd (omega arith); plain = λ k a b. absurd (omega arith) }

pub stretch-more :
    {cells : List ℕ} {g0 from i : ℕ} → Stretch cells g0 from i → i < length cells → g0 ≡ 6 → Plain (get_or cells i 0) → Stretch cells g0 from (i + 1)
stretch-more {cells} {from = from} {i} s h e p =
    record {
      after = omega arith;
      within = omega arith;
      ascii = λ _. e;
      plain = λ k a b. below_more (λ k. from ≤ k → Plain (get_or cells k 0)) i (λ k b a. s.plain k a b) (λ _. p) k b a;
    }
