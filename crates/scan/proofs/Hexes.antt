-- Numbers by hex digits, and lines of them, from where the digits end. Assumes nothing.
use Prim.Native.Nat.{ℕ, zero, suc, ◌+◌, ◌-◌, ◌*◌, ◌/◌, ◌%◌, ◌^◌, ◌<◌, ◌≤◌, max}
use mathlib.Core.Path.{◌≡◌, refl, sym, ap, ◌∙◌}
use mathlib.Core.Bool.{Bool, true, false}
use mathlib.Core.List.{List, [], ◌∷◌}
use mathlib.Core.Logic.{◌⊎◌, inl, inr, ⊎_elim}
use native.Mathlib.Omega.{arith}
use native.Mathlib.Nat.{add-zero, sub-zero, pow-succ', mul_assoc, mul-le-mul_right, one-mul, suc-mul, zero-mul, add-mul}
use native.Mathlib.Nat.{one-le-pow, div-add-mod', mod-lt}
use lib.ListN.{length, get_or, drop, drop_of_length-le}
use lib.Dec.{ltb, leb, eqb, lit<}
use borrow.Author.Tests.{leb-true, leb-false, ltb-true, ltb-false, lt-ltb, le-ltb, le-leb, eqb-true, ne_eqb}
use Rattle.answer.specs.Ahead.{Ahead}
use Rattle.answer.proofs.Below.{all_below, below}
use Rattle.parsing.specs.Parsing.{Parsed, found, failed, further, literal}
use Rattle.parsing.specs.Digits.{digit, value_of, digit_where, number_from, number, with_more, line_end, list}
use Rattle.parsing.proofs.Digits.{digit_value}
use Rattle.scan.specs.Inner.{nibble, hex_at, hexes_at, IsDigit}
use Rattle.scan.proofs.Words.{here}

-- a digit's nibble is its value
nibble-digit : (d : ℕ) → d < 16 → nibble (digit d) ≡ d
unfolding all_below
nibble-digit d h = eqb-true (nibble (digit d)) d (below (λ k. eqb (nibble (digit k)) k) 16 refl d h)

nibble-value : (b : ℕ) → IsDigit b → nibble b ≡ value_of b
nibble-value b h = ap nibble (sym (digit_value b h)) ∙ nibble-digit (value_of b) h

-- the end of a text, or a byte that is no digit
abbrev pub Stop : List ℕ → ℕ → Type 0
Stop s at = at < length s → 16 ≤ value_of (get_or s at 0)

module _ (s : List ℕ) (k from : ℕ) where
  abbrev bound : ℕ
  bound = 16 ^ k - 1

  -- the digits that are still to come keep the number within its bound
  room-left : (v d j : ℕ) → d < 16 → (v + 1) * 16 ^ suc j ≤ 16 ^ k → (v * 16 + d + 1) * 16 ^ j ≤ 16 ^ k
  room-left v d j h r =
      let e : (v + 1) * 16 ^ suc j ≡ (v + 1) * 16 * 16 ^ j = ap (λ (n : ℕ). (v + 1) * n) (pow-succ' 16 j) ∙ sym
      (mul_assoc (v + 1) 16 (16 ^ j)) in
      let g : (v * 16 + d + 1) * 16 ^ j ≤ (v + 1) * 16 * 16 ^ j = mul-le-mul_right (16 ^ j) (omega arith) in
      omega arith

  within : (x j : ℕ) → (x + 1) * 16 ^ j ≤ 16 ^ k → x * 16 ^ j ≤ bound
  within x j h = omega (arith, add-mul x 1 (16 ^ j), one-mul (16 ^ j), one-le-pow j 16 (lit< tt))

  abbrev after : ℕ → ℕ → Parsed ℕ
  after i j = number_from 16 bound j (hex_at s from i) (drop (from + i) s) (from + i)

  -- one digit more
  digit-on :
      (i j : ℕ) → from + i < length s → IsDigit (get_or s (from + i) 0) → (hex_at s from i + 1) * 16 ^ suc j ≤ 16 ^ k →
      after i (suc j) ≡ after (suc i) j
  unfolding number_from digit_where hex_at
  digit-on i j l d r =
      let b : ℕ = get_or s (from + i) 0 in
      let v : ℕ = hex_at s from i in
      let n : from + i + 1 ≡ from + suc i = omega arith in
      let ok : leb ((v * 16 + value_of b) * 16 ^ j) bound ≡ true =
      le-leb _ _ (within (v * 16 + value_of b) j (room-left v (value_of b) j d r)) in
      rw (here s (from + i) l, lt-ltb (value_of b) 16 d, ok, n, nibble-value b d)

  -- after i digits
  record On (i : ℕ) : Type 0 where
    so : number 16 k bound (drop from s) from ≡ after i (k - i)
    left : (hex_at s from i + 1) * 16 ^ (k - i) ≤ 16 ^ k

  digits-on : (i : ℕ) → i ≤ k → from + i ≤ length s → Ahead IsDigit s from i → On i
  unfolding hex_at
  digits-on zero h l f = record { so = rw (sub-zero, add-zero); left = rw (sub-zero, one-mul) (omega arith) }
  digits-on (suc i) h l f =
      let o = digits-on i (omega arith) (omega arith) (λ m q. f m (omega arith)) in
      let e : k - i ≡ suc (k - suc i) = omega arith in
      let d : IsDigit (get_or s (from + i) 0) = f i (omega arith) in
      let r : (hex_at s from i + 1) * 16 ^ suc (k - suc i) ≤ 16 ^ k = rw e at o.left in
      record {
        so = o.so ∙ ap (after i) e ∙ digit-on i (k - suc i) (omega arith) d r;
        left = rw (nibble-value (get_or s (from + i) 0) d) (room-left (hex_at s from i) (value_of (get_or s (from + i) 0))
            (k - suc i) d r);
      }

  -- a number is found
  pub hex-found : from + k ≤ length s → Ahead IsDigit s from k → number 16 k bound (drop from s) from ≡ found
      (hex_at s from k) (drop (from + k) s) (from + k)
  unfolding number_from
  hex-found l f =
      let z : k - k ≡ 0 = omega arith in
      (digits-on k (omega arith) l f).so ∙ ap (after k) z

  -- or not
  other : (i j : ℕ) → from + i < length s → 16 ≤ value_of (get_or s (from + i) 0) → after i (suc j) ≡ failed (from + i)
  unfolding number_from digit_where
  other i j l q = rw (here s (from + i) l, le-ltb (value_of (get_or s (from + i) 0)) 16 q)

  ended : (i j : ℕ) → length s ≤ from + i → after i (suc j) ≡ failed (from + i)
  unfolding number_from digit_where
  ended i j l = rw (drop_of_length-le s l)

  no_digit : (i j : ℕ) → Stop s (from + i) → after i (suc j) ≡ failed (from + i)
  no_digit i j q = go (ltb (from + i) (length s)) refl
    where
      go : (t : Bool) → ltb (from + i) (length s) ≡ t → after i (suc j) ≡ failed (from + i)
      go true e = other i j (ltb-true (from + i) (length s) e) (q (ltb-true (from + i) (length s) e))
      go false e = ended i j (ltb-false (from + i) (length s) e)

  pub hex-fails : (r : ℕ) → r < k → from + r ≤ length s → Ahead IsDigit s from r → Stop s (from + r) → number 16 k
      bound (drop from s) from ≡ failed (from + r)
  hex-fails r h l f q =
      let e : k - r ≡ suc (k - suc r) = omega arith in
      (digits-on r (omega arith) l f).so ∙ ap (after r) e ∙ no_digit r (k - suc r) q

-- the end of the line
line-ends : (s : List ℕ) (at : ℕ) → at < length s → get_or s at 0 ≡ 10 → line_end (drop at s) at ≡ found []
    (drop (at + 1) s) (at + 1)
unfolding literal
line-ends s at l e = rw (here s at l, e)

line-goes : (s : List ℕ) (at : ℕ) → at < length s → (get_or s at 0 ≡ 10 → ⊥) → line_end (drop at s) at ≡ failed at
unfolding literal
line-goes s at l n = rw (here s at l, ne_eqb (get_or s at 0) 10 n)

line-cut : (s : List ℕ) (at : ℕ) → length s ≤ at → line_end (drop at s) at ≡ failed at
unfolding literal
line-cut s at l = rw (drop_of_length-le s l)

-- no line ends here
abbrev Going : List ℕ → ℕ → Type 0
Going s at = at < length s → get_or s at 0 ≡ 10 → ⊥

no_line : (s : List ℕ) (at : ℕ) → Going s at → line_end (drop at s) at ≡ failed at
no_line s at q = go (ltb at (length s)) refl
  where
    go : (t : Bool) → ltb at (length s) ≡ t → line_end (drop at s) at ≡ failed at
    go true e = let l = ltb-true at (length s) e in line-goes s at l (q l)
    go false e = line-cut s at (ltb-false at (length s) e)

-- LF is no digit
digit-goes : (b : ℕ) → IsDigit b → b ≡ 10 → ⊥
unfolding value_of
digit-goes b h e = omega (arith, rw e at h)

module _ (s : List ℕ) (k : ℕ) (digital : 0 < k) where
  abbrev one : ℕ → Parsed ℕ
  one at = number 16 k (16 ^ k - 1) (drop at s) at

  -- a number, and what follows it
  more-found :
      (from : ℕ) (more : List ℕ → ℕ → Parsed (List ℕ)) (xs : List ℕ) (to : ℕ) → from + k ≤ length s → Ahead IsDigit s
      from k →
      more (drop (from + k) s) (from + k) ≡ found xs (drop to s) to →
      with_more k more (drop from s) from ≡ found (hex_at s from k ∷ xs) (drop to s) to
  more-found from more xs to l f e = rw (hex-found s k from l f, e)

  more-fails :
      (from : ℕ) (more : List ℕ → ℕ → Parsed (List ℕ)) (to : ℕ) → from + k ≤ length s → Ahead IsDigit s from k →
      more (drop (from + k) s) (from + k) ≡ failed to → with_more k more (drop from s) from ≡ failed to
  more-fails from more to l f e = rw (hex-found s k from l f, e)

  -- one group, and those behind it
  first_group : (n from : ℕ) → Ahead IsDigit s from (suc n * k) → Ahead IsDigit s from k × Ahead IsDigit s (from + k)
      (n * k)
  first_group n from f = (
    (λ m h. f m (omega (arith, suc-mul n k))),
    (λ m h. let e : from + (k + m) ≡ from + k + m = omega arith in rw e at (f (k + m) (omega (arith, suc-mul n k)))),
  )

  behind : (n from : ℕ) → from + suc n * k ≡ from + k + n * k
  behind n from = omega (arith, suc-mul n k)

  starts-digit : (from : ℕ) → Ahead IsDigit s from k → Going s from
  starts-digit from f l e = digit-goes (get_or s (from + 0) 0) (f 0 digital) (rw add-zero e)

  -- a line of n numbers
  module _ (n : ℕ) where
    abbrev Line : ℕ → Type 0
    Line from = Ahead IsDigit s from (n * k) × (from + n * k < length s) × (get_or s (from + n * k) 0 ≡ 10)

  next-line : (n from : ℕ) → Line (suc n) from → Line n (from + k)
  next-line n from (f, l, e) = ((first_group n from f).1, omega (arith, behind n from), rw (behind n from) at e)

  pub list-found :
      (n least most from : ℕ) → least ≤ n → n ≤ most → Line n from →
      list k least most (drop from s) from ≡ found (hexes_at s from k n) (drop (from + n * k + 1) s) (from + n * k + 1)
  unfolding list hexes_at
  list-found zero zero zero from a b (f, l, e) =
      let z : from + 0 * k ≡ from = omega (arith, zero-mul k) in
      rw z (line-ends s from (omega arith) (rw z at e))
  list-found zero (suc least) most from a b p = absurd (omega arith)
  list-found zero zero (suc most) from a b (f, l, e) =
      let z : from + 0 * k ≡ from = omega (arith, zero-mul k) in
      rw (z, line-ends s from (omega arith) (rw z at e))
  list-found (suc n) least zero from a b p = absurd (omega arith)
  list-found (suc n) zero (suc most) from a b p =
      let g = first_group n from p.0 in
      let r = list-found n zero most (from + k) (omega arith) (omega arith) (next-line n from p) in
      rw (no_line s from (starts-digit from g.0), behind n from)
      (ap (further from) (more-found from (list k zero most) (hexes_at s (from + k) k n) (from + k + n * k + 1)
      (omega (arith, p.1, suc-mul n k)) g.0 r))
  list-found (suc n) (suc least) (suc most) from a b p =
      let g = first_group n from p.0 in
      let r = list-found n least most (from + k) (omega arith) (omega arith) (next-line n from p) in
      rw (behind n from)
      (more-found from (list k least most) (hexes_at s (from + k) k n) (from + k + n * k + 1)
      (omega (arith, p.1, suc-mul n k)) g.0 r)

  -- digits that end inside a group, or where no line may end
  pub record Ends (g r least most from : ℕ) : Type 0 where
    pub part : r < k
    pub few : g ≤ most
    pub need : least ≤ most
    pub full : g ≡ most → r ≡ 0
    pub inside : from + (g * k + r) ≤ length s
    pub digits : Ahead IsDigit s from (g * k + r)
    pub stop : g < most → Stop s (from + (g * k + r))
    pub going : from + (g * k + r) < length s → get_or s (from + (g * k + r)) 0 ≡ 10 → (0 < r) ⊎ (g < least)

  next-ends : (g r least least' most from : ℕ) → Ends (suc g) r least (suc most) from → (least ≤ suc least') → least' ≤
      most → (suc g < least → g < least') → Ends g r least' most (from + k)
  next-ends g r least least' most from p h q t =
      let e : from + (suc g * k + r) ≡ from + k + (g * k + r) = omega (arith, suc-mul g k) in
      record {
        part = p.part;
        few = omega (arith, p.few);
        need = q;
        full = λ z. p.full (omega arith);
        inside = omega (arith, p.inside);
        digits = λ m h. let z : from + (k + m) ≡ from + k + m = omega arith in rw z at
            (p.digits (k + m) (omega (arith, suc-mul g k)));
        stop = λ z. rw e at (p.stop (omega arith));
        going = λ l z. ⊎_elim inl (λ y. inr (t y)) (p.going (omega arith) (rw e z));
      }

  abbrev end : ℕ → ℕ → ℕ → ℕ
  end g r from = from + (g * k + r)

  -- no line ends where a group is begun or where it must go on
  none-ends : (r most from : ℕ) → Ends 0 r 0 most from → Going s from
  none-ends zero most from p l e =
      let z : end 0 0 from ≡ from = omega (arith, zero-mul k) in
      ⊎_elim (λ h. omega arith) (λ h. omega arith) (p.going (omega arith) (rw z e))
  none-ends (suc r) most from p l e = digit-goes (get_or s (from + 0) 0) (p.digits 0 (omega arith)) (rw add-zero e)

  none-fails : (r least most from : ℕ) (more : List ℕ → ℕ → Parsed (List ℕ)) → Ends 0 r least (suc most) from →
      with_more k more (drop from s) from ≡ failed (from + r)
  none-fails r least most from more p =
      let z : end 0 r from ≡ from + r = omega (arith, zero-mul k) in
      let y : 0 * k + r ≡ r = omega (arith, zero-mul k) in
      rw (hex-fails s k from r p.part (omega (arith, p.inside)) (rw y at p.digits)
      (rw z at (p.stop (omega arith))))

  group-fails :
      (g r least most from to : ℕ) (more : List ℕ → ℕ → Parsed (List ℕ)) → Ends (suc g) r least most from →
      more (drop (from + k) s) (from + k) ≡ failed to → with_more k more (drop from s) from ≡ failed to
  group-fails g r least most from to more p e =
      more-fails from more to (omega (arith, p.inside, suc-mul g k)) (λ m h. p.digits m (omega (arith, suc-mul g k)))
      e

  pub list-fails : (g r least most from : ℕ) → Ends g r least most from → list k least most (drop from s) from ≡ failed
      (end g r from)
  unfolding list
  list-fails zero r least zero from p =
      let y : r ≡ 0 = p.full refl in
      let z : end 0 r from ≡ from = omega (arith, zero-mul k) in
      rw z (no_line s from (λ l e. ⊎_elim (λ h. omega arith) (λ h. omega (arith, p.need))
      (p.going (omega arith) (rw z e))))
  list-fails zero r zero (suc most) from p =
      let z : end 0 r from ≡ from + r = omega (arith, zero-mul k) in
      let m : max from (from + r) ≡ from + r = omega arith in
      rw (z, no_line s from (none-ends r (suc most) from p), none-fails r 0 most from (list k zero most) p, m)
  list-fails zero r (suc least) (suc most) from p =
      let z : end 0 r from ≡ from + r = omega (arith, zero-mul k) in
      rw z (none-fails r (suc least) most from (list k least most) p)
  list-fails (suc g) r least zero from p = absurd (omega (arith, p.few))
  list-fails (suc g) r zero (suc most) from p =
      let q = next-ends g r 0 0 most from p (omega arith) (omega arith) (λ h. absurd (omega arith)) in
      let z : end g r (from + k) ≡ end (suc g) r from = omega (arith, suc-mul g k) in
      let m : max from (end (suc g) r from) ≡ end (suc g) r from = omega arith in
      let f = group-fails g r 0 (suc most) from (end (suc g) r from) (list k zero most) p
      (list-fails g r zero most (from + k) q ∙ ap failed z) in
      rw (no_line s from (starts-digit from (λ i h. p.digits i (omega (arith, suc-mul g k)))), f, m)
  list-fails (suc g) r (suc least) (suc most) from p =
      let q = next-ends g r (suc least) least most from p (omega arith) (omega (arith, p.need)) (λ h. omega arith) in
      let z : end g r (from + k) ≡ end (suc g) r from = omega (arith, suc-mul g k) in
      group-fails g r (suc least) (suc most) from (end (suc g) r from) (list k least most) p
      (list-fails g r least most (from + k) q ∙ ap failed z)

-- as code has it: the digits end at `end`, at most at `to`
pub record Scanned (s : List ℕ) (k least most from to end : ℕ) : Type 0 where
  pub digital : 0 < k
  pub need : least ≤ most
  pub from_end : from ≤ end
  pub end-to : end ≤ to
  pub to_end : to ≤ length s
  pub capped : to < length s → to ≡ from + most * k
  pub cap : to ≤ from + most * k
  pub digits : Ahead IsDigit s from (end - from)
  pub stop : end < to → 16 ≤ value_of (get_or s end 0)

module _ {s : List ℕ} {k least most from to end : ℕ} (p : Scanned s k least most from to end) where
  abbrev size : ℕ
  size = end - from

  parts : from + (size / k * k + size % k) ≡ end
  parts = omega (arith, div-add-mod' size k, p.from_end)

  more-groups : (g : ℕ) → most < g → most * k + k ≤ g * k
  more-groups g h = let m : suc most * k ≤ g * k = mul-le-mul_right k (omega arith) in omega (arith, suc-mul most k)

  fewer-groups : (g : ℕ) → g < most → g * k + k ≤ most * k
  fewer-groups g h = let m : suc g * k ≤ most * k = mul-le-mul_right k (omega arith) in omega (arith, suc-mul g k)

  few-groups : size / k ≤ most
  few-groups = go (leb (size / k) most) refl
    where
      go : (t : Bool) → leb (size / k) most ≡ t → size / k ≤ most
      go true e = leb-true (size / k) most e
      go false e = absurd (omega (
        arith,
        more-groups (size / k) (leb-false (size / k) most e),
        parts,
        p.end-to,
        p.cap,
        p.digital,
      ))

  all-groups : size / k ≡ most → size % k ≡ 0
  all-groups e = let z : size / k * k ≡ most * k = ap (λ (n : ℕ). n * k) e in omega (arith, parts, p.end-to, p.cap)

  stopped : size / k < most → Stop s end
  stopped h l = go (ltb end to) refl
    where
      cut : end < to → 16 ≤ value_of (get_or s end 0)
      cut g = p.stop g

      go : (t : Bool) → ltb end to ≡ t → 16 ≤ value_of (get_or s end 0)
      go true e = cut (ltb-true end to e)
      go false e =
          let q = ltb-false end to e in
          let z = mod-lt size {m = k} p.digital in
          absurd (omega (arith, p.end-to, p.capped (omega (arith, p.end-to)), parts, fewer-groups (size / k) h))

  ends : (end < length s → get_or s end 0 ≡ 10 → (0 < size % k) ⊎ (size / k < least)) → Ends s k p.digital (size / k)
      (size % k) least most from
  ends why =
      let z : size / k * k + size % k ≡ size = div-add-mod' size k in
      record {
        part = mod-lt size {m = k} p.digital;
        few = few-groups;
        need = p.need;
        full = all-groups;
        inside = omega (arith, parts, p.end-to, p.to_end);
        digits = rw z p.digits;
        stop = λ h. rw parts (stopped h);
        going = rw parts why;
      }

  pub scan-fails : (end < length s → get_or s end 0 ≡ 10 → (0 < size % k) ⊎ (size / k < least)) → failed end ≡ list k
      least most (drop from s) from
  scan-fails why = sym (list-fails s k p.digital (size / k) (size % k) least most from (ends why) ∙ ap failed parts)

  pub scan-found :
      end < length s → get_or s end 0 ≡ 10 → size % k ≡ 0 → least ≤ size / k →
      found (hexes_at s from k (size / k)) (drop (end + 1) s) (end + 1) ≡ list k least most (drop from s) from
  scan-found l e z h =
      let y : from + size / k * k ≡ end = omega (arith, parts) in
      let x : size / k * k ≡ size = omega (arith, div-add-mod' size k) in
      let f : Ahead IsDigit s from (size / k * k) = rw x p.digits in
      sym
      (list-found s k p.digital (size / k) least most from h few-groups (f, omega arith, rw y e)
      ∙ ap (λ (n : ℕ). found (hexes_at s from k (size / k)) (drop (n + 1) s) (n + 1)) y)

  pub scan-spans :
      end < length s → size % k ≡ 0 → least ≤ size / k →
      (least ≤ size / k) × (size / k ≤ most) × (end + 1 ≡ from + size / k * k + 1) × (end + 1 ≤ length s)
  scan-spans l z h = (h, few-groups, omega (arith, parts), omega arith)

-- past the end of a text
none-there : (k least most from : ℕ) → list (suc k) least most [] from ≡ failed from
unfolding list literal number_from digit_where
none-there k least zero from = refl
none-there k zero (suc most) from = let m : max from from ≡ from = omega arith in rw m
none-there k (suc least) (suc most) from = refl

pub list-past : (s : List ℕ) (k least most from : ℕ) → 0 < k → length s ≤ from → failed from ≡ list k least most
    (drop from s) from
list-past s zero least most from d h = absurd (omega arith)
list-past s (suc k) least most from d h = rw (drop_of_length-le s h) (sym (none-there k least most from))
