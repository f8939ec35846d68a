-- Numbers by digits, and lists of them, are parsed. Assumes nothing.
use Prim.Native.Nat.{ℕ, zero, suc, ◌+◌, ◌-◌, ◌*◌, ◌/◌, ◌%◌, ◌^◌, ◌<◌, ◌≤◌}
use mathlib.Core.Bool.{Bool, true, false, ◌&&◌, false≢true}
use mathlib.Core.Path.{◌≡◌, refl, sym, ap, ◌∙◌}
use mathlib.Core.List.{List, [], ◌∷◌, ◌++◌, append_assoc, append-nil}
use mathlib.Core.Logic.{inl, inr}
use native.Mathlib.Omega.{arith}
use native.Mathlib.Nat.{add-zero, pow-suc, pow-zero, div-one, div-div-eq-div-mul, div-mul-le_self}
use native.Mathlib.Nat.{div-add-mod', mod-lt, mul-add-div_right, div-eq_of_lt, mul-add-mod_self_right, mod-eq_of_lt}
use native.Mathlib.Nat.{mul-one, zero-mul, mul_assoc, mul_comm, one-le-pow}
use lib.ListN.{length, get_or}
use lib.Dec.{ltb, leb, eqb, lit<, lit≤}
use borrow.Author.Tests.{ltb-true, leb-true, eqb-true, lt-ltb, le-leb}
use Rattle.answer.specs.Lists.{Each}
use Rattle.answer.proofs.Below.{both, cond-case, all_below, below}
use Rattle.parsing.specs.Parsing.{found, Parser}
use Rattle.parsing.specs.Parsing.{Language}
use Rattle.parsing.specs.Digits.{figures, digit, place_in, value_of, digits, groups, digit_where, number_from, number}
use Rattle.parsing.specs.Digits.{LF, with_more, line_end, list}
use Rattle.parsing.proofs.Laws.{Judged, Parses, parses-as, Then, parses-then, Or, parses-either}
use Rattle.parsing.proofs.Laws.{parses-done, parses-literal}

pub value-digit : (d : ℕ) → d < 16 → value_of (digit d) ≡ d
unfolding value_of all_below
value-digit d h = eqb-true (value_of (digit d)) d (below (λ k. eqb (value_of (digit k)) k) 16 refl d h)

-- a byte that stands in a list is the one at its place there
at_place : (xs : List ℕ) (b : ℕ) → place_in xs b < length xs → get_or xs (place_in xs b) 0 ≡ b
at_place [] b = λ h. absurd (omega arith)
at_place (x ∷ xs) b =
    cond-case (λ (i : ℕ). i < suc (length xs) → get_or (x ∷ xs) i 0 ≡ b) (eqb b x) (λ e h. sym (eqb-true b x e))
    (λ e h. at_place xs b (omega arith))

pub digit_value : (b : ℕ) → value_of b < 16 → digit (value_of b) ≡ b
unfolding value_of
digit_value b h = at_place figures b h

-- a digit that passes
abbrev pub Digit : (ℕ → Bool) → ℕ → List ℕ → Type 0
Digit ok d w = (d < 16) × (ok d ≡ true) × (w ≡ digit d ∷ [])

module _ (ok : ℕ → Bool) (d : ℕ) (h : d < 16) (k : ok d ≡ true) where
  digit-reads :
      (c : ℕ) (w rest : List ℕ) (at : ℕ) → Digit ok c w → digit_where ok (w ++ rest) at ≡ found c rest (at + length w)
  unfolding digit_where
  digit-reads c w rest at (l, t, e) = rw (e, value-digit c l, lt-ltb c 16 l, t)

  not_digit : (b c : ℕ) → (ltb (value_of b) 16 && ok (value_of b)) ≡ false → c < 16 → ok c ≡ true → b ≡ digit c → ⊥
  not_digit b c t l y e =
      let v : value_of b ≡ c = ap value_of e ∙ value-digit c l in
      false≢true (sym t ∙ rw (v, lt-ltb c 16 l, y))

  digit-judged : (bs : List ℕ) (at : ℕ) → Judged (Digit ok) bs at (digit_where ok bs at)
  unfolding digit_where
  digit-judged [] at = (
    0,
    sym (add-zero at),
    record {
      inside = omega arith;
      before = (d, digit d ∷ [], (h, k, refl));
      there = λ l. absurd (omega arith);
    },
  )
  digit-judged (b ∷ bs) at =
      cond-case (Judged (Digit ok) (b ∷ bs) at) (ltb (value_of b) 16 && ok (value_of b))
      (λ t.
      let r = both (ltb (value_of b) 16) (ok (value_of b)) t in
      let l = ltb-true (value_of b) 16 r.0 in
      (digit (value_of b) ∷ [], (l, r.1, refl), ap (λ (c : ℕ). c ∷ bs) (sym (digit_value b l)), refl))
      (λ t. (
        0,
        sym (add-zero at),
        record {
          inside = omega arith;
          before = (d, digit d ∷ [], (h, k, refl));
          there = λ _ (c, more, q). not_digit b c t q.0 q.1 (ap (λ (u : List ℕ). get_or u 0 0) q.2);
        },
      ))

  pub parses-digit : Parses (digit_where ok) (Digit ok)
  parses-digit = record { some = (d, digit d ∷ [], (h, k, refl)); reads = digit-reads; judged = digit-judged }

-- a number at most the bound, whose digits before the last k make v
abbrev pub Number : (base bound k v : ℕ) → ℕ → List ℕ → Type 0
Number base bound k v x w = (x ≤ bound) × (x / base ^ k ≡ v) × (w ≡ digits base k x)

module _ (base bound : ℕ) (some : 0 < base) (few : base ≤ 16) where
  abbrev fits : ℕ → ℕ → ℕ → Bool
  fits k v d = ltb d base && leb ((v * base + d) * base ^ k) bound

  module _ (k v : ℕ) where
    to_number :
        (x : ℕ) (w : List ℕ) → Then (Digit (fits k v)) (λ d. Number base bound k (v * base + d)) x w →
        Number base bound (suc k) v x w
    unfolding digits
    to_number x w (d, u, t, (l, y, e), (g, i, j), z) =
        let s = ltb-true d base (both (ltb d base) (leb ((v * base + d) * base ^ k) bound) y).0 in
        let q : x / base ^ suc k ≡ v =
        ap (λ (n : ℕ). x / n) (pow-suc base k) ∙ sym (div-div-eq-div-mul x (base ^ k) base) ∙ ap (λ (n : ℕ). n / base) i
        ∙ mul-add-div_right some v d ∙ ap (λ (n : ℕ). v + n) (div-eq_of_lt s) ∙ add-zero v in
        let r : x / base ^ k % base ≡ d =
        ap (λ (n : ℕ). n % base) i ∙ mul-add-mod_self_right v base d ∙ mod-eq_of_lt s in
        (g, q, z ∙ rw (e, j, r))

    from-number :
        (x : ℕ) (w : List ℕ) → Number base bound (suc k) v x w →
        Then (Digit (fits k v)) (λ d. Number base bound k (v * base + d)) x w
    unfolding digits
    from-number x w (g, i, z) =
        let d : ℕ = x / base ^ k % base in
        let s : d < base = mod-lt (x / base ^ k) some in
        let q : x / base ^ k ≡ v * base + d =
        sym (div-add-mod' (x / base ^ k) base)
        ∙ ap (λ (n : ℕ). n * base + d)
        (div-div-eq-div-mul x (base ^ k) base ∙ ap (λ (n : ℕ). x / n) (sym (pow-suc base k)) ∙ i) in
        let r : (v * base + d) * base ^ k ≤ bound = omega (arith, rw q at (div-mul-le_self x (base ^ k))) in
        let ok : fits k v d ≡ true = rw (lt-ltb d base s, le-leb ((v * base + d) * base ^ k) bound r) in
        (d, digit d ∷ [], digits base k x, (omega arith, ok, refl), (g, q, refl), z)

  parses-from : (k v : ℕ) → v * base ^ k ≤ bound → Parses (number_from base bound k v) (Number base bound k v)
  unfolding number_from digits
  parses-from zero v h =
      let one : (x : ℕ) → x / base ^ 0 ≡ x = λ x. ap (λ (n : ℕ). x / n) (pow-zero base) ∙ div-one x in
      let le : v ≤ bound = rw (pow-zero base, mul-one v) at h in
      parses-as (parses-done v) (λ x w (e, i). (omega arith, one x ∙ e, i)) (λ x w (g, i, j). (sym (one x) ∙ i, j))
  parses-from (suc k) v h =
      let e : (v * base + 0) * base ^ k ≡ v * base ^ suc k =
      ap (λ (n : ℕ). n * base ^ k) (add-zero (v * base)) ∙ mul_assoc v base (base ^ k)
      ∙ ap (λ (n : ℕ). v * n) (mul_comm base (base ^ k) ∙ sym (pow-suc base k)) in
      let y : fits k v 0 ≡ true = rw (lt-ltb 0 base some, le-leb ((v * base + 0) * base ^ k) bound (omega arith)) in
      parses-as
      (parses-then (parses-digit (fits k v) 0 (lit< tt) y)
      (λ d u (l, t, i).
      parses-from k (v * base + d)
      (leb-true ((v * base + d) * base ^ k) bound (both (ltb d base) (leb ((v * base + d) * base ^ k) bound) t).1)))
      (to_number k v) (from-number k v)

  pub parses-number :
      (k : ℕ) → bound < base ^ k → Parses (number base k bound) (λ x w. (x ≤ bound) × (w ≡ digits base k x))
  parses-number k h =
      parses-as (parses-from k 0 (rw (zero-mul (base ^ k)) (omega arith))) (λ x w (g, i, j). (g, j))
      (λ x w (g, j). (g, div-eq_of_lt {n = x} (omega arith), j))

-- numbers of k hex digits, and the end of the line
abbrev pub Numbers : (k least most : ℕ) → List ℕ → List ℕ → Type 0
Numbers k least most xs w =
    (least ≤ length xs) × (length xs ≤ most) × Each (λ x. x < 16 ^ k) xs × (w ≡ groups k xs ++ LF)

parses-end : Parses line_end (λ xs w. (xs ≡ []) × (w ≡ LF))
parses-end =
    parses-as (parses-then (parses-literal LF) (λ _ _ _. parses-done []))
    (λ xs w (a, u, v, l, (e, j), z). (e, z ∙ rw (l, j)))
    (λ xs w (e, j). (tt, LF, [], refl, (e, refl), j))

module _ (k : ℕ) (digital : 0 < k) where
  -- one number in front of others
  abbrev More : Language (List ℕ) → List ℕ → List ℕ → Type 0
  More L xs w =
      (y : ℕ) × (ys : List ℕ) × (u : List ℕ) × (y < 16 ^ k) × L ys u × (xs ≡ y ∷ ys) × (w ≡ digits 16 k y ++ u)

  parses-more : {m : Parser (List ℕ)} {L : Language (List ℕ)} → Parses m L → Parses (with_more k m) (More L)
  parses-more p =
      let pos : 1 ≤ 16 ^ k = one-le-pow k 16 (lit< tt) in
      parses-as
      (parses-then (parses-number 16 (16 ^ k - 1) (lit< tt) (lit≤ tt) k (omega arith))
      (λ y _ _. parses-then p (λ ys _ _. parses-done (y ∷ ys))))
      (λ xs w (y, u, v, (l, e), (ys, u', v', l', (i, j), z'), z).
      (y, ys, u', omega arith, l', i, z ∙ rw (e, z', j, append-nil u')))
      (λ xs w (y, ys, u, l, l', i, z).
      (y, digits 16 k y, u, (omega arith, refl), (ys, u, [], l', (i, refl), sym (append-nil u)), z))

  -- a number does not begin with LF
  digit-high : (d : ℕ) → d < 16 → 48 ≤ digit d
  unfolding all_below
  digit-high d h = leb-true 48 (digit d) (below (λ k. leb 48 (digit k)) 16 refl d h)

  not_end : (j y : ℕ) (x rest : List ℕ) → 0 < j → LF ++ x ≡ digits 16 j y ++ rest → ⊥
  unfolding digits
  not_end zero y x rest h e = absurd (omega arith)
  not_end (suc j) y x rest h e =
      omega (arith, digit-high (y / 16 ^ j % 16) (mod-lt (y / 16 ^ j) (lit< tt)), ap (λ (l : List ℕ). get_or l 0 0) e)

  none-numbers : (most : ℕ) (xs w : List ℕ) → (xs ≡ []) × (w ≡ LF) → Numbers k 0 most xs w
  unfolding groups
  none-numbers most xs w (e, j) = rw (e, j) (omega arith, omega arith, tt, refl)

  more_numbers :
      (least most : ℕ) (xs w : List ℕ) → More (Numbers k least most) xs w → Numbers k (suc least) (suc most) xs w
  unfolding groups
  more_numbers least most xs w (y, ys, u, l, (a, b, c, e), i, z) =
      let n : length xs ≡ suc (length ys) = ap length i in
      (omega arith, omega arith, rw i (l, c), z ∙ rw (e, i, append_assoc))

  numbers_more :
      (least most y : ℕ) (ys w : List ℕ) → least ≤ length ys → Numbers k 0 (suc most) (y ∷ ys) w →
      More (Numbers k least most) (y ∷ ys) w
  unfolding groups
  numbers_more least most y ys w h (a, b, c, e) =
      (y, ys, groups k ys ++ LF, c.0, (h, omega arith, c.1, refl), refl, e ∙ rw append_assoc)

  by-none : (xs w : List ℕ) → Numbers k 0 0 xs w → (xs ≡ []) × (w ≡ LF)
  unfolding groups
  by-none [] w (a, b, c, e) = (refl, e)
  by-none (y ∷ ys) w (a, b, c, e) = absurd (omega arith)

  to-any :
      (most : ℕ) (xs w : List ℕ) → Or (λ xs w. (xs ≡ []) × (w ≡ LF)) (More (Numbers k 0 most)) xs w →
      Numbers k 0 (suc most) xs w
  to-any most xs w (inl l) = none-numbers (suc most) xs w l
  to-any most xs w (inr l) = let n = more_numbers 0 most xs w l in (omega arith, n.1, n.2, n.3)

  from-any :
      (most : ℕ) (xs w : List ℕ) → Numbers k 0 (suc most) xs w →
      Or (λ xs w. (xs ≡ []) × (w ≡ LF)) (More (Numbers k 0 most)) xs w
  unfolding groups
  from-any most [] w (a, b, c, e) = inl (refl, e)
  from-any most (y ∷ ys) w n = inr (numbers_more 0 most y ys w (omega arith) n)

  from_more :
      (least most : ℕ) (xs w : List ℕ) → Numbers k (suc least) (suc most) xs w → More (Numbers k least most) xs w
  from_more least most [] w (a, b, c, e) = absurd (omega arith)
  from_more least most (y ∷ ys) w (a, b, c, e) = numbers_more least most y ys w (omega arith) (omega arith, b, c, e)

  pub parses-list : (least most : ℕ) → least ≤ most → Parses (list k least most) (Numbers k least most)
  unfolding list
  parses-list least zero h =
      let z : least ≡ 0 = omega arith in
      rw z (parses-as parses-end (none-numbers 0) by-none)
  parses-list zero (suc most) h =
      parses-as
      (parses-either parses-end (parses-more (parses-list zero most (omega arith)))
      (λ xs ys u v x y (e, j) (a, b, u', l, m, i, z) q. not_end k a x (u' ++ y) digital (rw (j, z, append_assoc) at q)))
      (to-any most) (from-any most)
  parses-list (suc least) (suc most) h =
      parses-as (parses-more (parses-list least most (omega arith))) (more_numbers least most) (from_more least most)
