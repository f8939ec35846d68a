-- A number of so many decimal digits read in a loop. Assumes nothing.
use Prim.Native.Nat.{ℕ, zero, suc, ◌+◌, ◌-◌, ◌*◌, ◌^◌, ◌<◌, ◌≤◌}
use mathlib.Core.Path.{◌≡◌, refl, sym, ap, ◌∙◌}
use mathlib.Core.Bool.{Bool, true, false, cond, ◌&&◌, false≢true}
use mathlib.Core.List.{List, ◌∷◌}
use native.Mathlib.Omega.{arith}
use native.Mathlib.Nat.{one-le-pow, mul-one, mul-le-mul_left, mul-le-mul}
use lib.ListN.{length, get_or, drop, drop_of_length-le}
use lib.Dec.{ltb, leb, lit<, lit≤}
use borrow.Author.Tests.{lt-ltb, le-ltb, le-leb, lt-leb, leb-true}
use Rattle.answer.proofs.Below.{cond-case, all_below, below}
use Rattle.parsing.specs.Parsing.{Parsed, found, failed, on_parsed}
use Rattle.parsing.specs.Digits.{value_of, digit_where, number_from, number}
use Rattle.scan.proofs.Words.{here}

and-false : (t : Bool) → (t && false) ≡ false
and-false true = refl
and-false false = refl

module _ (width bound : ℕ) where
  -- a byte at a number's next digit
  module _ (b : ℕ) (bs : List ℕ) (at v k : ℕ) where
    no_digit : 10 ≤ value_of b → number_from 10 bound (suc k) v (b ∷ bs) at ≡ failed at
    unfolding number_from digit_where
    no_digit h =
        rw (le-ltb (value_of b) 10 h)
        (cond-case (λ (t : Parsed ℕ). on_parsed t (λ d. number_from 10 bound k (v * 10 + d)) ≡ failed at)
        (ltb (value_of b) 16 && false)
        (λ t. absurd (false≢true (sym (and-false (ltb (value_of b) 16)) ∙ t))) (λ _. refl))

    too-big :
        value_of b < 10 → bound < (v * 10 + value_of b) * 10 ^ k → number_from 10 bound (suc k) v (b ∷ bs) at ≡ failed at
    unfolding number_from digit_where
    too-big h g = rw (
      lt-ltb (value_of b) 10 h,
      lt-ltb (value_of b) 16 (omega arith),
      lt-leb
          ((v * 10 + value_of b) * 10 ^ k) bound g,
    )

    one-digit :
        value_of b < 10 → (v * 10 + value_of b) * 10 ^ k ≤ bound →
        number_from 10 bound (suc k) v (b ∷ bs) at ≡ number_from 10 bound k (v * 10 + value_of b) bs (at + 1)
    unfolding number_from digit_where
    one-digit h g = rw (
      lt-ltb (value_of b) 10 h,
      lt-ltb (value_of b) 16 (omega arith),
      le-leb
          ((v * 10 + value_of b) * 10 ^ k) bound g,
    )

  -- k digits are left, behind those that make v
  pub record Reads (s : List ℕ) (from at v k : ℕ) : Type 0 where
    pub so : number_from 10 bound k v (drop at s) at ≡ number 10 width bound (drop from s) from
    pub few : k ≤ width
    pub small : v ≤ bound

  pub reads-start : (s : List ℕ) (from : ℕ) → Reads s from from 0 width
  reads-start s from = record { so = refl; few = omega arith; small = omega arith }

  at-digit :
      (s : List ℕ) (at v k : ℕ) (x : Parsed ℕ) → at < length s → number_from 10 bound k v (get_or s at 0 ∷ drop (at + 1) s)
      at ≡ x →
      number_from 10 bound k v (drop at s) at ≡ x
  at-digit s at v k x l e = ap (λ (l : List ℕ). number_from 10 bound k v l at) (here s at l) ∙ e

  module _ {s : List ℕ} {from at v : ℕ} where
    pub reads_end :
        {k : ℕ} → Reads s from at v k → k ≤ 0 → found v (drop at s) at ≡ number 10 width bound (drop from s) from
    unfolding number_from
    reads_end {k = zero} r h = r.so
    reads_end {k = suc k} r h = absurd (omega arith)

    pub reads_short :
        {k : ℕ} → Reads s from at v k → 0 < k → length s ≤ at →
        failed at ≡ number 10 width bound (drop from s) from
    unfolding number_from digit_where
    reads_short {k = zero} r h l = absurd (omega arith)
    reads_short {k = suc k} r h l = rw (drop_of_length-le s l) at r.so

    module _ (l : at < length s) where
      reads_none :
          {k : ℕ} → Reads s from at v k → 0 < k → 10 ≤ value_of (get_or s at 0) →
          failed at ≡ number 10 width bound (drop from s) from
      reads_none {k = zero} r h d = absurd (omega arith)
      reads_none {k = suc k} r h d = sym (at-digit s at v (suc k) (failed at) l
          (no_digit (get_or s at 0) (drop (at + 1) s) at v k d)) ∙ r.so

      module _ (few : value_of (get_or s at 0) < 10) where
        reads-big : {k : ℕ} → Reads s from at v k → 0 < k → bound < (v * 10 + value_of (get_or s at 0)) * 10 ^ (k - 1) →
            failed at ≡ number 10 width bound (drop from s) from
        reads-big {k = zero} r h b = absurd (omega arith)
        reads-big {k = suc k} r h b =
            let e : suc k - 1 ≡ k = omega arith in
            sym (at-digit s at v (suc k) (failed at) l (too-big (get_or s at 0) (drop (at + 1) s) at v k few (rw e at b)))
            ∙ r.so

        reads_on :
            {k : ℕ} → Reads s from at v k → 0 < k → (v * 10 + value_of (get_or s at 0)) * 10 ^ (k - 1) ≤ bound →
            Reads s from (at + 1) (v * 10 + value_of (get_or s at 0)) (k - 1)
        reads_on {k = zero} r h b = absurd (omega arith)
        reads_on {k = suc k} r h b =
            let e : suc k - 1 ≡ k = omega arith in
            let w : ℕ = v * 10 + value_of (get_or s at 0) in
            let g : w * 10 ^ k ≤ bound = rw e at b in
            let p : w * 1 ≤ w * 10 ^ k = mul-le-mul_left w (one-le-pow k 10 (lit< tt)) in
            rw e
            (record {
              so = sym (at-digit s at v (suc k) _ l (one-digit (get_or s at 0) (drop (at + 1) s) at v k few g)) ∙ r.so;
              few = omega (arith, r.few);
              small = omega (arith, mul-one w);
            })

      -- as code has them: a digit d, and a power of ten p
      module _ {d k : ℕ} (r : Reads s from at v k) (h : 0 < k) (e : d ≡ value_of (get_or s at 0)) where
        pub code-none : 9 < d → failed at ≡ number 10 width bound (drop from s) from
        code-none g = reads_none r h (omega arith)

        module _ {p : ℕ} (q : p ≡ 10 ^ (k - 1)) (few : d ≤ 9) where
          pub code-big : bound < (v * 10 + d) * p → failed at ≡ number 10 width bound (drop from s) from
          code-big b = reads-big (omega arith) r h (rw (e, q) at b)

          pub code-on : (v * 10 + d) * p ≤ bound → Reads s from (at + 1) (v * 10 + d) (k - 1)
          code-on b = rw e (reads_on (omega arith) r h (rw (e, q) at b))

-- the product that code computes
pub few-power : (k : ℕ) → k < 7 → 10 ^ k ≤ 1000000
unfolding all_below
few-power k h = leb-true (10 ^ k) 1000000 (below (λ j. leb (10 ^ j) 1000000) 7 refl k h)

pub few-product : (a b : ℕ) → a ≤ 10485769 → b ≤ 1000000 → a * b ≤ 10485769000000
few-product a b h k = mul-le-mul h k

-- a long number, or one that is not
pub width_few : (long : Bool) → cond long 7 5 ≤ 7
width_few true = lit≤ tt
width_few false = lit≤ tt

pub most-few : (long : Bool) → cond long 1048576 65536 ≤ 1048576
most-few true = lit≤ tt
most-few false = lit≤ tt
