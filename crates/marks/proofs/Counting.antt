-- A number's lowest zero bits, by its digits to the base 256. Assumes nothing.
use Prim.Native.Nat.{ℕ, zero, suc, ◌+◌, ◌-◌, ◌*◌, ◌/◌, ◌%◌, ◌^◌, ◌≤◌, ◌<◌}
use mathlib.Core.Path.{◌≡◌, refl, sym, ap, ◌∙◌}
use mathlib.Core.Bool.{Bool, true, false, cond}
use mathlib.Core.List.{List}
use native.Mathlib.Nat.{le_of_suc-le-suc, mul-one, zero-add}
use native.Mathlib.Omega.{arith}
use lib.ListN.{length, get_or}
use lib.Dec.{eqb, leb}
use lib.Bits.{shifted_half, shifted_even}
use lib.Count.{count_trailing_zeros, under}
use borrow.Author.Tests.{eqb-true, eqb-false, leb-true, leb-false, le-leb}
use Rattle.marks.specs.Marks.{ahead_in, leading, joined}

abbrev up : ℕ → ℕ → ℕ
up zero k = k
up (suc d) k = suc (up d k)

-- a number that is shifted has so many zeros more
shifted : (d k w : ℕ) → count_trailing_zeros (up d k) (w * 2 ^ d) ≡ up d (count_trailing_zeros k w)
unfolding count_trailing_zeros
shifted zero k w = ap (count_trailing_zeros k) (mul-one w)
shifted (suc d) k w = rw (shifted_even w d, shifted_half w d) (ap suc (shifted d k w))

-- one that has a zero is even, and its half has the others
half : (d k n : ℕ) → suc d ≤ count_trailing_zeros (suc k) n → (n % 2 ≡ 0) × (d ≤ count_trailing_zeros k (n / 2))
unfolding count_trailing_zeros
half d k n h = go (n % 2) refl h
  where
    go : (r : ℕ) → n % 2 ≡ r → suc d ≤ under r (count_trailing_zeros k (n / 2)) → (n % 2 ≡ 0) × (d ≤ count_trailing_zeros k (n / 2))
    go zero e l = (e, le_of_suc-le-suc l)
    go (suc r) e l = absurd (omega arith)

-- a digit that is not 0 has less than eight
few : (k w b : ℕ) → b < 256 → 8 ≤ count_trailing_zeros (up 8 k) (w * 256 + b) → b ≡ 0
few k w b l h =
    let n = w * 256 + b in
    let a = half 7 (up 7 k) n h in
    let c = half 6 (up 6 k) (n / 2) a.1 in
    let d = half 5 (up 5 k) (n / 2 / 2) c.1 in
    let e = half 4 (up 4 k) (n / 2 / 2 / 2) d.1 in
    let f = half 3 (up 3 k) (n / 2 / 2 / 2 / 2) e.1 in
    let g = half 2 (up 2 k) (n / 2 / 2 / 2 / 2 / 2) f.1 in
    let i = half 1 (up 1 k) (n / 2 / 2 / 2 / 2 / 2 / 2) g.1 in
    let j = half 0 k (n / 2 / 2 / 2 / 2 / 2 / 2 / 2) i.1 in
    omega (arith, a.0, c.0, d.0, e.0, f.0, g.0, i.0, j.0)

abbrev eights : ℕ → ℕ
eights zero = zero
eights (suc m) = up 8 (eights m)

module _ (k w b : ℕ) where
  digit-zero : b ≡ 0 → count_trailing_zeros (up 8 k) (w * 256 + b) / 8 ≡ 1 + count_trailing_zeros k w / 8
  digit-zero e =
      let n : w * 256 + b ≡ w * 256 = omega arith in
      rw (n, shifted 8 k w) (omega arith)

  digit-other : b < 256 → (b ≡ 0 → ⊥) → count_trailing_zeros (up 8 k) (w * 256 + b) / 8 ≡ 0
  digit-other l f = by (leb 8 (count_trailing_zeros (up 8 k) (w * 256 + b))) refl
    where
      by : (s : Bool) → leb 8 (count_trailing_zeros (up 8 k) (w * 256 + b)) ≡ s → count_trailing_zeros (up 8 k) (w * 256 + b) / 8 ≡ 0
      by true e = absurd (f (few k w b l (leb-true 8 (count_trailing_zeros (up 8 k) (w * 256 + b)) e)))
      by false e = omega (arith, leb-false 8 (count_trailing_zeros (up 8 k) (w * 256 + b)) e)

counted : (m : ℕ) (f : ℕ → ℕ) → ((k : ℕ) → f k < 256) → count_trailing_zeros (eights m) (joined m f) / 8 ≡ leading m f
unfolding count_trailing_zeros leading joined
counted zero f b = refl
counted (suc m) f b = by (eqb (f 0) 0) refl (counted m (λ k. f (1 + k)) (λ k. b (1 + k)))
  where
    by : (s : Bool) → eqb (f 0) 0 ≡ s → count_trailing_zeros (eights m) (joined m (λ k. f (1 + k))) / 8 ≡ leading m (λ k. f (1 + k)) → count_trailing_zeros (up 8 (eights m)) (joined m (λ k. f (1 + k)) * 256 + f 0) / 8 ≡ cond s (1 + leading m (λ k. f (1 + k))) 0
    by true e h = digit-zero (eights m) _ (f 0) (eqb-true _ _ e) ∙ ap (λ (x : ℕ). 1 + x) h
    by false e h = digit-other (eights m) _ (f 0) (b 0) (eqb-false (f 0) 0 e)

pub counted-eight : (f : ℕ → ℕ) → ((k : ℕ) → f k < 256) → count_trailing_zeros 64 (joined 8 f) / 8 ≡ leading 8 f
counted-eight f b = counted 8 f b

-- eight marks
pub joined-eight :
    (x : List ℕ) (j : ℕ) {a b c d e f g h : ℕ} → a ≡ get_or x j 0 → b ≡ get_or x (j + 1) 0 → c ≡ get_or x (j + 2) 0 → d ≡ get_or x (j + 3) 0 → e ≡ get_or x (j + 4) 0 → f ≡ get_or x (j + 5) 0 →
    g ≡ get_or x (j + 6) 0 → h ≡ get_or x (j + 7) 0 →
    a + b * 256 + c * 65536 + d * 16777216 + (e + f * 256 + g * 65536 + h * 16777216) * 4294967296 ≡ joined 8 (λ k. get_or x (j + k) 0)
unfolding joined
joined-eight x j p q r s t u v w =
    let z : j + 0 ≡ j = omega arith in
    rw z (omega arith)

leading-as : (m : ℕ) (f g : ℕ → ℕ) → ((i : ℕ) → f i ≡ g i) → leading m f ≡ leading m g
unfolding leading
leading-as zero f g h = refl
leading-as (suc m) f g h = rw (h 0, leading-as m (λ k. f (1 + k)) (λ k. g (1 + k)) (λ k. h (1 + k)))

-- some more, by those before them
one_more : (a m x y : ℕ) → x ≡ y → 1 + cond (eqb a m) (m + x) a ≡ cond (eqb (1 + a) (suc m)) (suc m + y) (1 + a)
one_more a m x y e = by (eqb a m) refl (eqb (1 + a) (suc m)) refl
  where
    by : (s : Bool) → eqb a m ≡ s → (t : Bool) → eqb (1 + a) (suc m) ≡ t → 1 + cond s (m + x) a ≡ cond t (suc m + y) (1 + a)
    by true p true q = omega arith
    by true p false q = absurd (eqb-false (1 + a) (suc m) q (omega (arith, eqb-true a m p)))
    by false p true q = absurd (eqb-false a m p (omega (arith, eqb-true (1 + a) (suc m) q)))
    by false p false q = refl

pub leading-more : (m k : ℕ) (f : ℕ → ℕ) → leading (up m k) f ≡ cond (eqb (leading m f) m) (m + leading k (λ i. f (m + i))) (leading m f)
unfolding leading
leading-more zero k f = simp zero-add
leading-more (suc m) k f = by (eqb (f 0) 0) (leading-more m k (λ i. f (1 + i)))
  where
    by_zero : (t : Bool) → eqb 0 (suc m) ≡ t → 0 ≡ cond t (suc m + leading k (λ i. f (suc m + i))) 0
    by_zero true e = absurd (omega (arith, eqb-true 0 (suc m) e))
    by_zero false e = refl

    by : (s : Bool) → leading (up m k) (λ i. f (1 + i)) ≡ cond (eqb (leading m (λ i. f (1 + i))) m) (m + leading k (λ i. f (1 + (m + i)))) (leading m (λ i. f (1 + i))) →
        cond s (1 + leading (up m k) (λ i. f (1 + i))) 0 ≡ cond (eqb (cond s (1 + leading m (λ i. f (1 + i))) 0) (suc m)) (suc m + leading k (λ i. f (suc m + i))) (cond s (1 + leading m (λ i. f (1 + i))) 0)
    by true h = rw h (one_more (leading m (λ i. f (1 + i))) m _ _ (leading-as k (λ i. f (1 + (m + i))) (λ i. f (suc m + i)) (λ i. ap f (omega arith))))
    by false h = by_zero (eqb 0 (suc m)) refl

-- sixteen marks, by eights
module _ (x : List ℕ) (j : ℕ) {a b : ℕ} (h : j + 16 ≤ length x) (p : a ≡ leading 8 (λ k. get_or x (j + k) 0)) (q : b ≡ leading 8 (λ k. get_or x (j + 8 + k) 0)) where
  sixteen : cond (leb (j + 16) (length x)) (leading 16 (λ k. get_or x (j + k) 0)) 0 ≡ cond (eqb a 8) (8 + b) a
  sixteen =
      let e = leading-as 8 (λ k. get_or x (j + 8 + k) 0) (λ k. get_or x (j + (8 + k)) 0) (λ k. ap (λ (i : ℕ). get_or x i 0) (omega arith)) in
      rw (le-leb (j + 16) (length x) h, leading-more 8 8 (λ k. get_or x (j + k) 0), q, e, p)

  pub sixteen-all : a ≡ 8 → 8 + b ≡ cond (leb (j + 16) (length x)) (leading 16 (λ k. get_or x (j + k) 0)) 0
  sixteen-all e = sym (sixteen ∙ rw e)

  pub sixteen-some : (a ≡ 8 → ⊥) → a ≡ cond (leb (j + 16) (length x)) (leading 16 (λ k. get_or x (j + k) 0)) 0
  sixteen-some f = sym (sixteen ∙ by (eqb a 8) refl)
    where
      by : (t : Bool) → eqb a 8 ≡ t → cond t (8 + b) a ≡ a
      by true e = absurd (f (eqb-true a 8 e))
      by false e = refl

-- no more than there are, and they are 0
pub leading_le : (m : ℕ) (f : ℕ → ℕ) → leading m f ≤ m
unfolding leading
leading_le zero f = omega arith
leading_le (suc m) f = by (eqb (f 0) 0) (leading_le m (λ k. f (1 + k)))
  where
    by : (s : Bool) → leading m (λ k. f (1 + k)) ≤ m → cond s (1 + leading m (λ k. f (1 + k))) 0 ≤ suc m
    by true h = omega arith
    by false h = omega arith

leading-zero : (m : ℕ) (f : ℕ → ℕ) (k : ℕ) → k < leading m f → f k ≡ 0
unfolding leading
leading-zero zero f k h = absurd (omega arith)
leading-zero (suc m) f k h = by (eqb (f 0) 0) refl k (leading-zero m (λ i. f (1 + i))) h
  where
    by : (s : Bool) → eqb (f 0) 0 ≡ s → (j : ℕ) → ((i : ℕ) → i < leading m (λ i. f (1 + i)) → f (1 + i) ≡ 0) → j < cond s (1 + leading m (λ i. f (1 + i))) 0 → f j ≡ 0
    by true e zero r l = eqb-true (f 0) 0 e
    by true e (suc j) r l = let z : 1 + j ≡ suc j = omega arith in rw z at (r j (omega arith))
    by false e j r l = absurd (omega arith)

-- of sixteen
cond-few : (t : Bool) (n : ℕ) → n ≤ 16 → cond t n 0 ≤ 16
cond-few true n h = h
cond-few false n h = omega arith

cond-under : (t : Bool) (n k : ℕ) → k < cond t n 0 → k < n
cond-under true n k h = h
cond-under false n k h = absurd (omega arith)

pub ahead-le : (x : List ℕ) (j : ℕ) → ahead_in x j ≤ 16
ahead-le x j = cond-few (leb (j + 16) (length x)) _ (leading_le 16 (λ k. get_or x (j + k) 0))

pub ahead-zero : (x : List ℕ) (j k : ℕ) → k < ahead_in x j → get_or x (j + k) 0 ≡ 0
ahead-zero x j k h = leading-zero 16 (λ i. get_or x (j + i) 0) k (cond-under (leb (j + 16) (length x)) _ k h)
