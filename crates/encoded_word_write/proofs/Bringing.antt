-- What a unit brings by itself, computed at every code below 128, and behind a run. Assumes nothing.
use Prim.Native.Nat.{ℕ, zero, suc, ◌+◌, ◌-◌, ◌*◌, ◌/◌, ◌%◌, ◌^◌, ◌<◌, ◌≤◌}
use mathlib.Core.Path.{◌≡◌, refl, sym, ap, ◌∙◌}
use mathlib.Core.Bool.{Bool, true, false, cond, false≢true}
use mathlib.Core.List.{[], ◌∷◌}
use native.Mathlib.Omega.{arith}
use native.Mathlib.Nat.{zero-add}
use lib.ListN.{length}
use lib.Dec.{ltb, eqb}
use borrow.Author.Tests.{ltb-true, ltb-false, eqb-true, eqb-false, ne_eqb}
use Rattle.answer.proofs.Below.{all_below, below}
use Rattle.utf7.specs.Sets.{alphanumeric, set_d, direct, own}
use Rattle.utf7.specs.declared.Style.TheVariants.{Header}
use Rattle.utf7_write.proofs.Stretches.{own-high}
use Rattle.parsing.specs.Digits.{digits}
use Rattle.encoded_word.specs.Writing.{itself, spelled}
use Rattle.encoded_word.specs.Inner.{run_size, run_after, brings}
use Rattle.encoded_word.proofs.Grow.{spelled-some}
use Rattle.encoded_word_write.specs.Inner.{alone_of, bringing}

pub alone-high : (u : ℕ) → 127 < u → alone_of u ≡ 0
unfolding alone_of
alone-high u h = rw (own-high Header u h, ne_eqb u 43 (λ e. omega arith))

-- a bit for each of 64 codes
abbrev plain_bit : ℕ → ℕ
plain_bit u = cond (eqb (alone_of u) 1) 1 0

abbrev bits : ℕ → ℕ → Bool
bits from set = all_below (λ k. eqb (set / 2 ^ k % 2) (plain_bit (from + k))) 64

plain-from : (from set : ℕ) → bits from set ≡ true → (k : ℕ) → k < 64 → set / 2 ^ k % 2 ≡ plain_bit (from + k)
plain-from from set t k h =
    eqb-true (set / 2 ^ k % 2) (plain_bit (from + k))
    (below (λ k. eqb (set / 2 ^ k % 2) (plain_bit (from + k))) 64 t k h)

plain-low : (k : ℕ) → k < 64 → 0x7fff38100000000 / 2 ^ k % 2 ≡ plain_bit (0 + k)
unfolding alone_of own direct set_d alphanumeric spelled itself digits all_below
plain-low = plain-from 0 0x7fff38100000000 refl

plain-next : (k : ℕ) → k < 64 → 0x7fffffe07fffffe / 2 ^ k % 2 ≡ plain_bit (64 + k)
unfolding alone_of own direct set_d alphanumeric spelled itself digits all_below
plain-next = plain-from 64 0x7fffffe07fffffe refl

module _ (set u : ℕ) (a : u ≤ 63 → set ≡ 0x7fff38100000000) (b : 63 < u → set ≡ 0x7fffffe07fffffe) (h : u < 128) where
  bit-told : (t : Bool) → eqb (cond {A = ℕ} t 1 0) 1 ≡ t
  bit-told true = refl
  bit-told false = refl

  of-half : (t : Bool) → ltb 63 u ≡ t → eqb (set / 2 ^ (u % 64) % 2) 1 ≡ eqb (alone_of u) 1
  of-half true e =
      let k = ltb-true 63 u e in
      let x : u % 64 ≡ u - 64 = omega arith in
      let y : 64 + (u - 64) ≡ u = omega arith in
      rw (b k, x, plain-next (u - 64) (omega arith), y) (bit-told (eqb (alone_of u) 1))
  of-half false e =
      let k = ltb-false 63 u e in
      let x : u % 64 ≡ u = omega arith in
      rw (a k, x, plain-low u (omega arith), zero-add u) (bit-told (eqb (alone_of u) 1))

  pub plain-told : eqb (set / 2 ^ (u % 64) % 2) 1 ≡ eqb (alone_of u) 1
  plain-told = of-half (ltb 63 u) refl

-- what is not plain: a sign, a pair, a unit of a run
pub alone-sign : (u : ℕ) → u ≡ 43 → 2 ≡ alone_of u
unfolding alone_of own direct set_d alphanumeric
alone-sign u e = rw e

spelled-three : (b : ℕ) → eqb (length (spelled b)) 1 ≡ false → length (spelled b) ≡ 3
unfolding spelled digits
spelled-three b h = by (eqb b 32) (itself b) h
  where
    by :
        (s t : Bool) → eqb (length (cond s (95 ∷ []) (cond t (b ∷ []) (61 ∷ digits 16 2 b)))) 1 ≡ false →
        length (cond s (95 ∷ []) (cond t (b ∷ []) (61 ∷ digits 16 2 b))) ≡ 3
    by true t h = absurd (false≢true (sym h))
    by false true h = absurd (false≢true (sym h))
    by false false h = refl

pub alone-pair : (u : ℕ) → own Header u ≡ true → eqb (alone_of u) 1 ≡ false → 3 ≡ alone_of u
unfolding alone_of
alone-pair u o h = rw o (sym (spelled-three u (rw o at h)))

pub alone-run : (u : ℕ) → own Header u ≡ false → (u ≡ 43 → ⊥) → 0 ≡ alone_of u
unfolding alone_of
alone-run u o n = rw (o, ne_eqb u 43 n)

-- behind k units of a run
module _ (v k : ℕ) where
  some : (length (spelled v) ≡ 0 → ⊥)
  some e = omega (arith, spelled-some v)

  pub alone-brings : bringing (alone_of v) k ≡ brings v k
  unfolding alone_of
  alone-brings = by (own Header v) (eqb v 43)
    where
      by :
          (s t : Bool) →
          bringing (cond s (length (spelled v)) (cond t 2 0)) k
          ≡ cond s (length (spelled v)) (cond t 2 (run_size (k + 1) - run_size k))
      by true t = rw (ne_eqb (length (spelled v)) 0 some)
      by false true = refl
      by false false = refl

  pub alone-after : cond (eqb (alone_of v) 0) (k + 1) 0 ≡ run_after v k
  unfolding alone_of
  alone-after = by (own Header v) (eqb v 43)
    where
      by :
          (s t : Bool) →
          cond (eqb (cond s (length (spelled v)) (cond t 2 0)) 0) (k + 1) 0 ≡ cond s 0 (cond t 0 (k + 1))
      by true t = rw (ne_eqb (length (spelled v)) 0 some)
      by false true = refl
      by false false = refl

-- a run's next unit: the first brings 5 characters, the others 3, 2 and 3 in turn
run-some : (k : ℕ) → (k ≡ 0 → ⊥) → run_size k ≡ 2 + (k * 16 + 5) / 6
run-some zero h = absurd (h refl)
run-some (suc k) h = refl

third : (q : ℕ) → (((3 * q + 2) * 16 + 5) / 6 ≡ 8 * q + 6) × (((3 * q + 2 + 1) * 16 + 5) / 6 ≡ 8 * q + 8)
third q = (omega arith, omega arith)

first : (q : ℕ) → (((3 * q + 1) * 16 + 5) / 6 ≡ 8 * q + 3) × (((3 * q + 1 + 1) * 16 + 5) / 6 ≡ 8 * q + 6)
first q = (omega arith, omega arith)

whole : (q : ℕ) → (((3 * q) * 16 + 5) / 6 ≡ 8 * q) × (((3 * q + 1) * 16 + 5) / 6 ≡ 8 * q + 3)
whole q = (omega arith, omega arith)

module _ (k : ℕ) (h : k ≡ 0 → ⊥) where
  after : (a b d : ℕ) → (k * 16 + 5) / 6 ≡ a → ((k + 1) * 16 + 5) / 6 ≡ b → b ≡ a + d → d ≡ run_size (k + 1) - run_size k
  after a b d e f g = omega (arith, run-some k h, run-some (k + 1) (λ z. omega arith), e, f, g)

  pub run-third : k % 3 ≡ 2 → 2 ≡ run_size (k + 1) - run_size k
  run-third e =
      let q = k / 3 in
      let m : k ≡ 3 * q + 2 = omega arith in
      after (8 * q + 6) (8 * q + 8) 2 (ap (λ (n : ℕ). (n * 16 + 5) / 6) m ∙ (third q).0)
      (ap (λ (n : ℕ). ((n + 1) * 16 + 5) / 6) m ∙ (third q).1) (omega arith)

  pub run-other : (k % 3 ≡ 2 → ⊥) → 3 ≡ run_size (k + 1) - run_size k
  run-other n = by (eqb (k % 3) 1) refl
    where
      by : (t : Bool) → eqb (k % 3) 1 ≡ t → 3 ≡ run_size (k + 1) - run_size k
      by true e =
          let q = k / 3 in
          let m : k ≡ 3 * q + 1 = omega (arith, eqb-true (k % 3) 1 e) in
          after (8 * q + 3) (8 * q + 6) 3 (ap (λ (n : ℕ). (n * 16 + 5) / 6) m ∙ (first q).0)
          (ap (λ (n : ℕ). ((n + 1) * 16 + 5) / 6) m ∙ (first q).1) (omega arith)
      by false e =
          let q = k / 3 in
          let m : k ≡ 3 * q = omega (arith, eqb-false (k % 3) 1 e, n) in
          after (8 * q) (8 * q + 3) 3 (ap (λ (n : ℕ). (n * 16 + 5) / 6) m ∙ (whole q).0)
          (ap (λ (n : ℕ). ((n + 1) * 16 + 5) / 6) m ∙ (whole q).1) (omega arith)
