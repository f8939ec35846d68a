-- Bits and numbers are one thing. Assumes nothing.
use Prim.Native.Nat.{ℕ, zero, suc, ◌+◌, ◌-◌, ◌*◌, ◌/◌, ◌%◌, ◌^◌, ◌<◌}
use mathlib.Core.Path.{◌≡◌, refl, sym, ap, ◌∙◌}
use mathlib.Core.Bool.{Bool, true, false, cond}
use mathlib.Core.List.{List, [], ◌∷◌, ◌++◌}
use native.Mathlib.Omega.{arith}
use native.Mathlib.Nat.{mod-lt, mod-eq_of_lt, mod-one, zero-add}
use lib.ListN.{length, take, drop, replicate, length-append}
use lib.Seq.{take_at, drop_at}
use lib.Pow.{pow_pos, pow-add, mod-pow-add, shr_lt, split}
use lib.Dec.{eqb, lit<}
use borrow.Author.Tests.{ne_eqb}
use Rattle.bits.specs.Bits.{bits, number, all_zero}

pub length-bits : (w x : ℕ) → length (bits w x) ≡ w
unfolding bits
length-bits zero x = refl
length-bits (suc w) x = ap suc (length-bits w x)

pow-up : (k : ℕ) → 2 ^ suc k ≡ 2 ^ k + 2 ^ k
pow-up k = ap (λ (m : ℕ). 2 ^ m) (omega arith) ∙ pow-add 2 1 k ∙ omega arith

pub number_lt : (bs : List Bool) → number bs < 2 ^ length bs
unfolding number
number_lt [] = lit< tt
number_lt (true ∷ bs) = omega (arith, number_lt bs, pow-up (length bs))
number_lt (false ∷ bs) = omega (arith, number_lt bs, pow-up (length bs))

bit-of : (y w : ℕ) → y < 2 → cond (eqb y 1) w 0 ≡ y * w
bit-of zero w h = omega arith
bit-of (suc zero) w h = omega arith
bit-of (suc (suc y)) w h = absurd (omega arith)

pub number-bits-mod : (w x : ℕ) → number (bits w x) ≡ x % 2 ^ w
unfolding bits number
number-bits-mod zero x = sym (mod-one x)
number-bits-mod (suc w) x =
    rw (length-bits w x, number-bits-mod w x, bit-of (x / 2 ^ w % 2) (2 ^ w) (omega arith))
    (sym (mod-pow-add x 1 w) ∙ ap (λ (k : ℕ). x % 2 ^ k) (omega arith))

pub number-bits : (w x : ℕ) → x < 2 ^ w → number (bits w x) ≡ x
number-bits w x h = number-bits-mod w x ∙ mod-eq_of_lt h

pub number_append : (a b : List Bool) → number (a ++ b) ≡ number a * 2 ^ length b + number b
unfolding number
number_append [] b = omega arith
number_append (true ∷ a) b =
    rw (number_append a b, length-append a b, pow-add 2 (length a) (length b)) (omega arith)
number_append (false ∷ a) b = rw (number_append a b) (omega arith)

-- two lists of bits with one length and one number are one list
number-once : (a b : List Bool) → length a ≡ length b → number a ≡ number b → a ≡ b
unfolding number
number-once [] [] h e = refl
number-once [] (y ∷ b) h e = absurd (omega arith)
number-once (x ∷ a) [] h e = absurd (omega arith)
number-once (true ∷ a) (true ∷ b) h e =
    let l : length a ≡ length b = omega arith in
    ap (λ (r : List Bool). true ∷ r) (number-once a b l (omega (arith, ap (λ (k : ℕ). 2 ^ k) l)))
number-once (true ∷ a) (false ∷ b) h e =
    let l : length a ≡ length b = omega arith in
    absurd (omega (arith, number_lt b, ap (λ (k : ℕ). 2 ^ k) l))
number-once (false ∷ a) (true ∷ b) h e =
    let l : length a ≡ length b = omega arith in
    absurd (omega (arith, number_lt a, ap (λ (k : ℕ). 2 ^ k) l))
number-once (false ∷ a) (false ∷ b) h e =
    ap (λ (r : List Bool). false ∷ r) (number-once a b (omega arith) (omega arith))

-- a list of bits is the bits of its number: every law below is this one
pub spelled : (bs : List Bool) (w x : ℕ) → length bs ≡ w → number bs ≡ x → bits w x ≡ bs
spelled bs w x l e =
    number-once (bits w x) bs (length-bits w x ∙ sym l)
    (number-bits w x (rw (← e, ← l) (number_lt bs)) ∙ sym e)

-- only the w lowest bits count
pub bits-mod : (w x : ℕ) → bits w (x % 2 ^ w) ≡ bits w x
bits-mod w x = spelled (bits w x) w (x % 2 ^ w) (length-bits w x) (number-bits-mod w x)

-- bits behind bits
pub bits-append : (m n x y : ℕ) → x < 2 ^ m → y < 2 ^ n → bits m x ++ bits n y ≡ bits (m + n) (x * 2 ^ n + y)
bits-append m n x y hx hy =
    sym
    (spelled (bits m x ++ bits n y) (m + n) (x * 2 ^ n + y)
    (simp (length-append, length-bits))
    (simp (number_append, length-bits, number-bits _ _ hx, number-bits _ _ hy)))

-- the first m bits are the quotient's, and the others the remainder's
module _ (m n x : ℕ) (h : x < 2 ^ (m + n)) where
  pub parted : bits (m + n) x ≡ bits m (x / 2 ^ n) ++ bits n (x % 2 ^ n)
  parted =
      sym (bits-append m n (x / 2 ^ n) (x % 2 ^ n) (shr_lt m n h) (mod-lt x (pow_pos n))
      ∙ ap (bits (m + n)) (split x n))

  pub bits-take : take m (bits (m + n) x) ≡ bits m (x / 2 ^ n)
  bits-take = rw parted (take_at (bits m (x / 2 ^ n)) (bits n (x % 2 ^ n)) m (length-bits m (x / 2 ^ n)))

  pub bits-drop : drop m (bits (m + n) x) ≡ bits n (x % 2 ^ n)
  bits-drop = rw parted (drop_at (bits m (x / 2 ^ n)) (bits n (x % 2 ^ n)) m (length-bits m (x / 2 ^ n)))

zero_number : (bs : List Bool) → all_zero bs ≡ eqb (number bs) 0
unfolding all_zero number
zero_number [] = refl
zero_number (true ∷ bs) = sym (ne_eqb (2 ^ length bs + number bs) 0 (λ e. omega (arith, pow_pos (length bs))))
zero_number (false ∷ bs) = rw (zero_number bs, zero-add (number bs))

pub zero_bits : (w x : ℕ) → x < 2 ^ w → all_zero (bits w x) ≡ eqb x 0
zero_bits w x h = rw (zero_number (bits w x), number-bits w x h)

pub zeros-number : (n : ℕ) → number (replicate n false) ≡ 0
unfolding number
zeros-number zero = refl
zeros-number (suc n) = rw (zeros-number n)

pub zeros-zero : (n : ℕ) → all_zero (replicate n false) ≡ true
unfolding all_zero
zeros-zero zero = refl
zeros-zero (suc n) = zeros-zero n

-- what `power` gives for a small exponent
pub power_small : (w k : ℕ) → w ≡ 2 ^ (k % 32) → k < 32 → w ≡ 2 ^ k
power_small w k e h = e ∙ ap (λ (j : ℕ). 2 ^ j) (mod-eq_of_lt h)
