-- The values of a run's letters: of the first 24 bits, of three units, of the last few. Assumes nothing.
use Prim.Native.Nat.{ℕ, ◌+◌, ◌-◌, ◌*◌, ◌/◌, ◌%◌, ◌^◌, ◌<◌, ◌≤◌}
use mathlib.Core.Path.{◌≡◌, refl, sym, ap, ◌∙◌}
use mathlib.Core.Bool.{Bool}
use mathlib.Core.List.{List, [], ◌∷◌, ◌++◌, map, append_assoc, append-nil}
use native.Mathlib.Omega.{arith}
use native.Mathlib.Nat.{add-zero}
use native.Mathlib.Numerals.{add-one}
use lib.ListN.{length, get_or, drop, length-append, drop_of_length-le}
use lib.Seq.{drop-cons}
use lib.Pow.{shr_lt}
use lib.Dec.{lit<}
use Rattle.answer.specs.Lists.{Each}
use Rattle.answer.proofs.Below.{each_at}
use Rattle.bits.specs.Bits.{bits, number, bits_of, groups, full, filler}
use Rattle.bits.proofs.Bits.{parted, length-bits, number-bits, number_append, bits-append, zeros-number}
use Rattle.bits.proofs.Groups.{length-filler, full-more, full-few}
use Rattle.alphabet.specs.Letters.{letter_of}
use Rattle.utf7.specs.Writing.{IsUnit, letters}
use Rattle.utf7_write.specs.Values.{values, four_of}

-- the letters of a run are the letters of its values
pub letters-values : (last : ℕ) (bs : List Bool) → letters last bs ≡ map (letter_of last) (values bs)
unfolding letters values
letters-values last bs = refl

pub values-none : values [] ≡ []
unfolding values filler full groups
values-none = refl

values-six : (h bs : List Bool) → length h ≡ 6 → values (h ++ bs) ≡ number h ∷ values bs
unfolding values filler
values-six h bs e =
    let q : (6 + length bs) % 6 ≡ length bs % 6 = omega arith in
    rw (length-append h bs, e, q, append_assoc h bs (filler 6 bs), full-more 6 (lit< tt) h (bs ++ filler 6 bs) e)

-- of six bits or more, and of fewer
six : (n v : ℕ) (more : List Bool) → v < 2 ^ (6 + n) → values (bits (6 + n) v ++ more) ≡ v / 2 ^ n ∷ values (bits n (v % 2 ^ n) ++ more)
six n v more h =
    let x = v / 2 ^ n in
    let rest = bits n (v % 2 ^ n) in
    rw (parted 6 n v h, append_assoc (bits 6 x) rest more, values-six (bits 6 x) (rest ++ more) (length-bits 6 x), number-bits 6 x (shr_lt 6 n h))

few : (n v : ℕ) → 0 < n → n < 6 → v < 2 ^ n → values (bits n v) ≡ v * 2 ^ (6 - n) ∷ []
unfolding values filler
few n v a b h =
    let p = bits n v in
    let f : length (filler 6 p) ≡ 6 - n = length-filler 6 (lit< tt) p ∙ rw (length-bits n v) (omega arith) in
    let q : List Bool = p ++ filler 6 p in
    let l : length q ≡ 6 = length-append p (filler 6 p) ∙ rw (f, length-bits n v) (omega arith) in
    let e : full 6 q ≡ number q ∷ [] =
    ap (full 6) (sym (append-nil q)) ∙ full-more 6 (lit< tt) q [] l ∙ rw (full-few 6 (lit< tt) [] (lit< tt)) in
    rw (e, number_append p (filler 6 p), f, zeros-number, number-bits n v h, add-zero)

-- 24 bits
pub four : (v : ℕ) (more : List Bool) → v < 2 ^ 24 → values (bits 24 v ++ more) ≡ four_of v ++ values more
unfolding bits
four v more h =
    let a = v % 262144 in
    let b = a % 4096 in
    six 18 v more h ∙ rw (six 12 a more (omega arith), six 6 b more (omega arith), values-six (bits 6 (b % 64)) more (length-bits 6 (b % 64)), number-bits 6 (b % 64) (omega arith))

module _ (u w : ℕ) (hu : IsUnit u) (hw : IsUnit w) where
  -- two units begin with 24 bits
  front : (more : List Bool) → bits 16 u ++ (bits 16 w ++ more) ≡ bits 24 (u * 256 + w / 256) ++ (bits 8 (w % 256) ++ more)
  front more =
      let y : w / 256 < 2 ^ 8 = omega arith in
      rw (parted 8 8 w hw, append_assoc (bits 8 (w / 256)) (bits 8 (w % 256)) more)
      (sym (append_assoc (bits 16 u) (bits 8 (w / 256)) (bits 8 (w % 256) ++ more)) ∙ rw (bits-append 16 8 u (w / 256) hu y))

  pub two : values (bits_of 16 (u ∷ w ∷ [])) ≡ four_of (u * 256 + w / 256) ++ (w % 256 / 4 ∷ w % 256 % 4 * 16 ∷ [])
  unfolding bits_of
  two =
      rw (front [], four (u * 256 + w / 256) (bits 8 (w % 256) ++ []) (omega arith), six 2 (w % 256) [] (omega arith), append-nil (bits 2 (w % 256 % 4)), few 2 (w % 256 % 4) (lit< tt) (lit< tt) (omega arith))

  pub three :
      (x : ℕ) (us : List ℕ) → IsUnit x →
      values (bits_of 16 (u ∷ w ∷ x ∷ us)) ≡ four_of (u * 256 + w / 256) ++ (four_of (w % 256 * 65536 + x) ++ values (bits_of 16 us))
  unfolding bits_of
  three x us hx =
      let more = bits_of 16 us in
      let y : w % 256 < 2 ^ 8 = omega arith in
      let e : bits 8 (w % 256) ++ (bits 16 x ++ more) ≡ bits 24 (w % 256 * 65536 + x) ++ more =
      sym (append_assoc (bits 8 (w % 256)) (bits 16 x) more) ∙ rw (bits-append 8 16 (w % 256) x y hx) in
      rw (front (bits 16 x ++ more), e, four (u * 256 + w / 256) (bits 24 (w % 256 * 65536 + x) ++ more) (omega arith), four (w % 256 * 65536 + x) more (omega arith))

pub one : (u : ℕ) → IsUnit u → values (bits_of 16 (u ∷ [])) ≡ u / 1024 ∷ u % 1024 / 16 ∷ u % 1024 % 16 * 4 ∷ []
unfolding bits_of
one u h =
    rw (six 10 u [] h, six 4 (u % 1024) [] (omega arith), append-nil (bits 4 (u % 1024 % 16)), few 4 (u % 1024 % 16) (lit< tt) (lit< tt) (omega arith))

-- what the units from a place on give: three of them and the others, or the last two, one or none
module _ (us : List ℕ) (i : ℕ) (e : Each IsUnit us) where
  unit-at : (k : ℕ) → k < length us → IsUnit (get_or us k 0)
  unit-at k = each_at IsUnit us k e

  pub last_none : length us ≤ i → values (bits_of 16 (drop i us)) ≡ []
  unfolding bits_of
  last_none h = rw (drop_of_length-le us h) values-none

  cons : i < length us → drop i us ≡ get_or us i 0 ∷ drop (i + 1) us
  cons h = drop-cons us i 0 h ∙ rw add-one

  cons-two : i + 1 < length us → drop i us ≡ get_or us i 0 ∷ get_or us (i + 1) 0 ∷ drop (i + 2) us
  cons-two h =
      let q : i + 1 + 1 ≡ i + 2 = omega arith in
      cons (omega arith) ∙ rw (drop-cons us (i + 1) 0 h, ← add-one (i + 1), q)

  pub last_one : length us ≡ i + 1 → let u = get_or us i 0 in values (bits_of 16 (drop i us)) ≡ u / 1024 ∷ u % 1024 / 16 ∷ u % 1024 % 16 * 4 ∷ []
  last_one h = rw (cons (omega arith), drop_of_length-le us {i = i + 1} (omega arith)) (one (get_or us i 0) (unit-at i (omega arith)))

  pub last-two :
      length us ≡ i + 2 → let u = get_or us i 0 in let w = get_or us (i + 1) 0 in
      values (bits_of 16 (drop i us)) ≡ four_of (u * 256 + w / 256) ++ (w % 256 / 4 ∷ w % 256 % 4 * 16 ∷ [])
  last-two h =
      rw (cons-two (omega arith), drop_of_length-le us {i = i + 2} (omega arith))
      (two (get_or us i 0) (get_or us (i + 1) 0) (unit-at i (omega arith)) (unit-at (i + 1) (omega arith)))

  pub next-three :
      i + 3 ≤ length us → let u = get_or us i 0 in let w = get_or us (i + 1) 0 in let x = get_or us (i + 2) 0 in
      values (bits_of 16 (drop i us)) ≡ four_of (u * 256 + w / 256) ++ (four_of (w % 256 * 65536 + x) ++ values (bits_of 16 (drop (i + 3) us)))
  next-three h =
      let q : i + 2 + 1 ≡ i + 3 = omega arith in
      rw (cons-two (omega arith), drop-cons us (i + 2) 0 (omega arith), ← add-one (i + 2), q)
      (three (get_or us i 0) (get_or us (i + 1) 0) (unit-at i (omega arith)) (unit-at (i + 1) (omega arith)) (get_or us (i + 2) 0) (drop (i + 3) us) (unit-at (i + 2) (omega arith)))
