-- Digits in decimal and in hex, and cells, one step at a time. Assumes nothing.
use Prim.Native.Nat.{ℕ, zero, suc, ◌+◌, ◌-◌, ◌*◌, ◌/◌, ◌%◌, ◌^◌, ◌<◌, ◌≤◌}
use mathlib.Core.Path.{◌≡◌, refl, ap, ◌∙◌}
use mathlib.Core.Bool.{cond}
use mathlib.Core.List.{List, [], ◌∷◌, ◌++◌}
use native.Mathlib.Omega.{arith}
use native.Mathlib.Numerals.{add-one}
use native.Mathlib.Nat.{pow-suc}
use lib.ListN.{length, get_or, take, drop, length-append, length-drop, drop_of_length-le}
use lib.Seq.{drop-cons, take_all}
use lib.Dec.{ltb, eqb}
use borrow.Author.Tests.{eqb-true, lt-ltb, le-ltb}
use Rattle.answer.proofs.Below.{all_below, below, cond-case}
use Rattle.listing.specs.Listing.{digit, decimal_in, decimal, hex_in, spaced}

decimal_step : (k n : ℕ) → decimal_in (suc k) n ≡ cond (ltb n 10) (digit n ∷ []) (decimal_in k (n / 10) ++ digit (n % 10) ∷ [])
unfolding decimal_in
decimal_step k n = refl

-- once there are digits enough, one more changes nothing
decimal-enough : (k n : ℕ) → n < 10 ^ suc k → decimal_in (suc (suc k)) n ≡ decimal_in (suc k) n
unfolding decimal_in
decimal-enough zero n h = rw (lt-ltb n 10 h)
decimal-enough (suc k) n h =
    ap (λ (l : List ℕ). cond (ltb n 10) (digit n ∷ []) (l ++ digit (n % 10) ∷ []))
    (decimal-enough k (n / 10) (omega (arith, pow-suc 10 (suc k))))

module _ (n : ℕ) where
  pub decimal-one : n < 10 → decimal n ≡ digit n ∷ []
  decimal-one h = decimal_step 19 n ∙ rw (lt-ltb n 10 h)

  pub decimal-more : n < 2 ^ 64 → 10 ≤ n → decimal n ≡ decimal (n / 10) ++ digit (n % 10) ∷ []
  decimal-more f h = decimal_step 19 n ∙ rw (le-ltb n 10 h, decimal-enough 18 (n / 10) (omega arith))

  pub decimal-size : n < 2 ^ 64 → 10 ≤ n → length (decimal n) ≡ length (decimal (n / 10)) + 1
  decimal-size f h = ap length (decimal-more f h) ∙ simp length-append

pub decimal-few : (k n : ℕ) → length (decimal_in k n) ≤ k
unfolding decimal_in
decimal-few zero n = omega arith
decimal-few (suc k) n =
    cond-case (λ (l : List ℕ). length l ≤ suc k) (ltb n 10) (λ _. omega arith) (λ _. simp length-append (omega (arith, decimal-few k (n / 10))))

-- a number below a power of ten has no more digits than that
pub decimal-within : (j k n : ℕ) → n < 10 ^ suc j → length (decimal_in k n) ≤ suc j
unfolding decimal_in
decimal-within j zero n h = omega arith
decimal-within zero (suc k) n h = rw (lt-ltb n 10 h) (omega arith)
decimal-within (suc j) (suc k) n h =
    cond-case (λ (l : List ℕ). length l ≤ suc (suc j)) (ltb n 10) (λ _. omega arith)
    (λ _. simp length-append (omega (arith, decimal-within j k (n / 10) (omega (arith, pow-suc 10 (suc j))))))

hex-shift : (w : ℕ) → w < 8 → 2 ^ (4 * w) ≡ 16 ^ w
unfolding all_below
hex-shift w h = eqb-true (2 ^ (4 * w)) (16 ^ w) (below (λ k. eqb (2 ^ (4 * k)) (16 ^ k)) 8 refl w h)

-- the highest of w hex digits, shifted down
pub hex-next : (w v : ℕ) → 0 < w → w ≤ 8 → hex_in w v ≡ digit (v / 2 ^ (4 * (w - 1)) % 16) ∷ hex_in (w - 1) v
unfolding hex_in
hex-next zero v h k = absurd (omega arith)
hex-next (suc w) v h k =
    let e : suc w - 1 ≡ w = omega arith in
    rw (e, hex-shift w (omega arith))

pub length-hex : (v : ℕ) → length (hex_in 8 v) ≡ 8
unfolding hex_in
length-hex v = refl

pub length-spaced : (vs : List ℕ) → length (spaced vs) ≡ 9 * length vs
unfolding spaced
length-spaced [] = refl
length-spaced (v ∷ vs) = simp (length-append, length-hex) (omega (arith, length-spaced vs))

module _ (vs : List ℕ) (i : ℕ) where
  pub spaced-next : i < length vs → spaced (drop i vs) ≡ 32 ∷ (hex_in 8 (get_or vs i 0) ++ spaced (drop (i + 1) vs))
  unfolding spaced
  spaced-next h = rw (add-one, drop-cons vs i 0 h)

  pub spaced-end : length vs ≤ i → spaced (drop i vs) ≡ []
  unfolding spaced
  spaced-end h = rw (drop_of_length-le vs h)

-- the first cell has no space in front
pub spaced-first :
    (vs : List ℕ) → 0 < length vs → drop 1 (spaced vs) ≡ hex_in 8 (get_or vs 0 0) ++ spaced (take (length vs - 1) (drop 1 vs))
spaced-first vs h = ap (drop 1) (spaced-next vs 0 h) ∙ rw (take_all (length vs - 1) (drop 1 vs) (simp length-drop (omega arith)))
