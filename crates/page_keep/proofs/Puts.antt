-- Elements put into an output one after another, digits and groups of them. Assumes nothing.
use Prim.Native.Nat.{ℕ, zero, suc, ◌+◌, ◌-◌, ◌*◌, ◌/◌, ◌%◌, ◌^◌, ◌<◌, ◌≤◌}
use mathlib.Core.Path.{◌≡◌, refl, sym, ap, ◌∙◌}
use mathlib.Core.List.{List, [], ◌∷◌, ◌++◌, append_assoc, append-nil}
use native.Mathlib.Omega.{arith}
use native.Mathlib.Numerals.{add-one}
use native.Mathlib.Nat.{suc-mul, zero-mul, pow-suc}
use Rattle.std.proofs.Math.Nat.{div-div-eq-div-mul}
use lib.ListN.{length, get_or, take, set, length-append}
use lib.Seq.{sets, take-suc, length-take-le}
use lib.Dec.{eqb}
use borrow.Author.Tests.{eqb-true}
use Rattle.std.proofs.lemmas.List.{set_comm}
use Rattle.answer.proofs.Below.{all_below, below}
use Rattle.parsing.specs.Digits.{digit, digits, groups}

-- one piece, and another behind it
pub sets-on : (out p q : List ℕ) (at to : ℕ) → to ≡ at + length p → sets (sets out at p) to q ≡ sets out at (p ++ q)
sets-on out [] q at to e = let z : to ≡ at = omega arith in rw z
sets-on out (x ∷ p) q at to e = sets-on (set out at x) p q (suc at) to (omega arith)

-- the same, where the second piece stands as it is given
pub sets_then : (out₀ out out' p q : List ℕ) (at to : ℕ) → out ≡ sets out₀ at p → to ≡ at + length p → out' ≡ sets out
    to q → out' ≡ sets out₀ at (p ++ q)
sets_then out₀ out out' p q at to d e f = f ∙ ap (λ (o : List ℕ). sets o to q) d ∙ sets-on out₀ p q at to e

-- elements that are others by another name
pub sets-as : (out out' p q : List ℕ) (at : ℕ) → out' ≡ sets out at p → p ≡ q → out' ≡ sets out at q
sets-as out out' p q at e f = e ∙ ap (λ (l : List ℕ). sets out at l) f

-- one element more of a list
pub sets-next :
    (out₀ out bytes : List ℕ) (at i : ℕ) → i < length bytes → out ≡ sets out₀ at (take i bytes) →
    set out (at + i) (get_or bytes i 0) ≡ sets out₀ at (take (i + 1) bytes)
sets-next out₀ out bytes at i h e =
    rw (add-one i, take-suc bytes i 0 h)
    (sets_then out₀ out (set out (at + i) (get_or bytes i 0)) (take i bytes) (get_or bytes i 0 ∷ []) at (at + i) e
    (omega (arith, length-take-le i bytes (omega arith))) refl)

-- digits
pub digit_low : (d : ℕ) → d < 10 → 48 + d ≡ digit d
unfolding all_below
digit_low d h = eqb-true (48 + d) (digit d) (below (λ k. eqb (48 + k) (digit k)) 10 refl d h)

pub digit-high : (d : ℕ) → 10 ≤ d → d < 16 → 55 + d ≡ digit d
unfolding all_below
digit-high d l h =
    let e : 10 + (d - 10) ≡ d = omega arith in
    rw e at (eqb-true (55 + (10 + (d - 10))) (digit (10 + (d - 10)))
    (below (λ k. eqb (55 + (10 + k)) (digit (10 + k))) 6 refl (d - 10) (omega arith)))

-- so many digits
pub length_digits : (base k x : ℕ) → length (digits base k x) ≡ k
unfolding digits
length_digits base zero x = refl
length_digits base (suc k) x = rw (length_digits base k x)

-- seven decimal digits are those of what is below ten million
pub seven-digits : (x y : ℕ) → x % 10000000 ≡ y % 10000000 → digits 10 7 x ≡ digits 10 7 y
unfolding digits
seven-digits x y e =
    let d6 : x / 10 ^ 6 % 10 ≡ y / 10 ^ 6 % 10 = omega (arith, e) in
    let d5 : x / 10 ^ 5 % 10 ≡ y / 10 ^ 5 % 10 = omega (arith, e) in
    let d4 : x / 10 ^ 4 % 10 ≡ y / 10 ^ 4 % 10 = omega (arith, e) in
    let d3 : x / 10 ^ 3 % 10 ≡ y / 10 ^ 3 % 10 = omega (arith, e) in
    let d2 : x / 10 ^ 2 % 10 ≡ y / 10 ^ 2 % 10 = omega (arith, e) in
    let d1 : x / 10 ^ 1 % 10 ≡ y / 10 ^ 1 % 10 = omega (arith, e) in
    let d0 : x / 10 ^ 0 % 10 ≡ y / 10 ^ 0 % 10 = omega (arith, e) in
    rw (d6, d5, d4, d3, d2, d1, d0)

pub length-groups : (k : ℕ) (xs : List ℕ) → length (groups k xs) ≡ length xs * k
unfolding groups
length-groups k [] = sym (zero-mul k)
length-groups k (x ∷ xs) = length-append (digits 16 k x) (groups k xs) ∙ omega
    (arith, length_digits 16 k x, length-groups k xs, suc-mul (length xs) k)

-- one group more
groups-on : (k : ℕ) (xs : List ℕ) (y : ℕ) → groups k (xs ++ y ∷ []) ≡ groups k xs ++ digits 16 k y
unfolding groups
groups-on k [] y = append-nil (digits 16 k y)
groups-on k (x ∷ xs) y = ap (λ (l : List ℕ). digits 16 k x ++ l) (groups-on k xs y) ∙ sym
    (append_assoc (digits 16 k x) (groups k xs) (digits 16 k y))

pub groups-next :
    (k : ℕ) (out₀ out out' xs : List ℕ) (at i : ℕ) → i < length xs → out ≡ sets out₀ at (groups k (take i xs)) → out' ≡
    sets out (at + i * k) (digits 16 k (get_or xs i 0)) →
    out' ≡ sets out₀ at (groups k (take (i + 1) xs))
groups-next k out₀ out out' xs at i h d f =
    let n : at + i * k ≡ at + length (groups k (take i xs)) = omega
    (arith, length-groups k (take i xs), ap (λ (m : ℕ). m * k) (length-take-le i xs (omega arith))) in
    rw (add-one i, take-suc xs i 0 h, groups-on k (take i xs) (get_or xs i 0))
    (sets_then out₀ out out' (groups k (take i xs)) (digits 16 k (get_or xs i 0)) at (at + i * k) d n f)

-- one element before those that stand
set_before :
    (l vs : List ℕ) (i j d : ℕ) → i < j → set (sets l j vs) i d ≡ sets (set l i d) j vs
set_before l [] i j d h = refl
set_before l (v ∷ vs) i j d h =
    let ne : j ≡ i → ⊥ = omega arith in
    set_before (set l j v) vs i (suc j) d (omega arith)
    ∙ ap (λ (x : List ℕ). sets x (suc j) vs) (set_comm l j i v d ne)

-- one digit more, before those that stand; and what is left of the number
module _ (base : ℕ) (out₀ out : List ℕ) (at k n j rest : ℕ) (r : rest ≡ n / base ^ k) where
  pub digit-turn :
      {m : ℕ} → m ≡ j + 1 → out ≡ sets out₀ (at + m) (digits base k n) → {d : ℕ} → d ≡ digit (rest % base) →
      set out (at + j) d ≡ sets out₀ (at + j) (digits base (k + 1) n)
  unfolding digits
  digit-turn {m} h e {d} f =
      let next : at + m ≡ suc (at + j) = omega arith in
      rw (add-one k, e, next, ← r, ← f) (set_before out₀ (digits base k n) (at + j) (suc (at + j)) d (omega arith))

  pub rest-turn : rest / base ≡ n / base ^ (k + 1)
  rest-turn = rw (add-one k, pow-suc base k, r) (div-div-eq-div-mul n (base ^ k) base)
