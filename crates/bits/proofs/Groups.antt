-- Bits cut into groups, and the filler. Assumes nothing.
use Prim.Native.Nat.{ℕ, zero, suc, ◌+◌, ◌-◌, ◌*◌, ◌/◌, ◌%◌, ◌^◌, ◌<◌, ◌≤◌}
use mathlib.Core.Path.{◌≡◌, refl, ap}
use mathlib.Core.Bool.{Bool, true, false}
use mathlib.Core.List.{List, [], ◌∷◌, ◌++◌, append_assoc, append-nil}
use native.Mathlib.Omega.{arith}
use native.Mathlib.Nat.{mod-lt, div-eq_of_lt, add-div_left, div-mul-le_self, zero-mul}
use native.Mathlib.Numerals.{add-one}
use lib.ListN.{length, take, drop, length-append, length-drop, length-replicate, take-append-drop, drop_of_length-le}
use lib.Seq.{length-take-le, take_at, drop_at, drop-drop}
use Rattle.answer.specs.Lists.{Each}
use Rattle.bits.specs.Bits.{bits, number, all_zero, bits_of, groups, full, left_over, filler}
use Rattle.bits.proofs.Bits.{length-bits, number_lt, number-bits, spelled, zeros-zero}

pub length-bits_of : (w : ℕ) (xs : List ℕ) → length (bits_of w xs) ≡ length xs * w
unfolding bits_of
length-bits_of w [] = omega arith
length-bits_of w (x ∷ xs) = rw (length-append (bits w x) (bits_of w xs), length-bits w x, length-bits_of w xs) (omega arith)

pub length-groups : (w k : ℕ) (bs : List Bool) → length (groups w k bs) ≡ k
unfolding groups
length-groups w zero bs = refl
length-groups w (suc k) bs = ap suc (length-groups w k (drop w bs))

module _ (w : ℕ) (p : 0 < w) where
  pub full-few : (bs : List Bool) → length bs < w → full w bs ≡ []
  unfolding full groups
  full-few bs h = rw (div-eq_of_lt h)

  pub left-few : (bs : List Bool) → length bs < w → left_over w bs ≡ bs
  unfolding left_over
  left-few bs h = rw (div-eq_of_lt h, zero-mul w)

  count-more : (h bs : List Bool) → length h ≡ w → length (h ++ bs) / w ≡ suc (length bs / w)
  count-more h bs e = rw (length-append h bs, e, add-div_left (length bs) p) (add-one _)

  pub full-more : (h bs : List Bool) → length h ≡ w → full w (h ++ bs) ≡ number h ∷ full w bs
  unfolding full groups
  full-more h bs e = rw (count-more h bs e, take_at h bs w e, drop_at h bs w e)

  pub left-more : (h bs : List Bool) → length h ≡ w → left_over w (h ++ bs) ≡ left_over w bs
  unfolding left_over
  left-more h bs e =
      let k : suc (length bs / w) * w ≡ w + length bs / w * w = omega arith in
      rw (count-more h bs e, k, ← drop-drop (length bs / w * w) w (h ++ bs), drop_at h bs w e)

  -- numbers to bits and back, whatever few bits stand behind
  pub full-bits : (xs : List ℕ) (f : List Bool) → Each (λ x. x < 2 ^ w) xs → length f < w → full w (bits_of w xs ++ f) ≡ xs
  unfolding bits_of
  full-bits [] f h l = full-few f l
  full-bits (x ∷ xs) f h l =
      rw (append_assoc (bits w x) (bits_of w xs) f, full-more (bits w x) (bits_of w xs ++ f) (length-bits w x), number-bits w x h.0, full-bits xs f h.1 l)

  pub left-bits : (xs : List ℕ) (f : List Bool) → length f < w → left_over w (bits_of w xs ++ f) ≡ f
  unfolding bits_of
  left-bits [] f l = left-few f l
  left-bits (x ∷ xs) f l =
      rw (append_assoc (bits w x) (bits_of w xs) f, left-more (bits w x) (bits_of w xs ++ f) (length-bits w x), left-bits xs f l)

-- bits to numbers and back, and what stands behind
groups-left : (w k : ℕ) (bs : List Bool) → k * w ≤ length bs → bits_of w (groups w k bs) ++ drop (k * w) bs ≡ bs
unfolding bits_of groups
groups-left w zero bs h = rw (zero-mul w)
groups-left w (suc k) bs h =
    let l : length (take w bs) ≡ w = length-take-le w bs (omega arith) in
    let m : suc k * w ≡ w + k * w = omega arith in
    rw (spelled (take w bs) w (number (take w bs)) l refl, append_assoc (take w bs) (bits_of w (groups w k (drop w bs))) (drop (suc k * w) bs), m, ← drop-drop (k * w) w bs, groups-left w k (drop w bs) (simp length-drop (omega arith)))
    (take-append-drop w bs)

pub bits-groups : (w k : ℕ) (bs : List Bool) → length bs ≡ k * w → bits_of w (groups w k bs) ≡ bs
bits-groups w k bs e =
    rw (drop_of_length-le bs {i = k * w} (omega arith), append-nil) at (groups-left w k bs (omega arith))

pub full-left : (w : ℕ) (bs : List Bool) → bits_of w (full w bs) ++ left_over w bs ≡ bs
unfolding full left_over
full-left w bs = groups-left w (length bs / w) bs (div-mul-le_self (length bs) w)

pub groups-below : (w k : ℕ) (bs : List Bool) → length bs ≡ k * w → Each (λ x. x < 2 ^ w) (groups w k bs)
unfolding groups
groups-below w zero bs e = tt
groups-below w (suc k) bs e =
    let l : length (take w bs) ≡ w = length-take-le w bs (omega arith) in
    (rw l at (number_lt (take w bs)), groups-below w k (drop w bs) (simp length-drop (omega arith)))

-- the filler is shorter than a group, all zero, fills the last group, and nothing shorter does
module _ (w : ℕ) (p : 0 < w) (bs : List Bool) where
  pub length-filler : length (filler w bs) ≡ (w - length bs % w) % w
  unfolding filler
  length-filler = length-replicate ((w - length bs % w) % w) false

  pub filler-few : length (filler w bs) < w
  filler-few = rw length-filler (mod-lt (w - length bs % w) p)

pub filler-zero : (w : ℕ) (bs : List Bool) → all_zero (filler w bs) ≡ true
unfolding filler
filler-zero w bs = zeros-zero ((w - length bs % w) % w)

-- of groups of six, the letters of a run
pub filler-full : (bs : List Bool) → length (bs ++ filler 6 bs) ≡ length (bs ++ filler 6 bs) / 6 * 6
unfolding filler
filler-full bs = simp (length-append, length-replicate) (omega arith)

pub filler-least : (bs : List Bool) (k : ℕ) → (length bs + k) % 6 ≡ 0 → length (filler 6 bs) ≤ k
unfolding filler
filler-least bs k h = rw (length-replicate ((6 - length bs % 6) % 6) false) (omega arith)
