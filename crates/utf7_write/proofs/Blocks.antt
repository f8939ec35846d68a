-- Bytes told apart by choices, and blocks of units that are written as themselves. Assumes nothing.
use Prim.Native.Nat.{ℕ, zero, suc, ◌+◌, ◌-◌, ◌/◌, ◌%◌, ◌^◌, ◌<◌, ◌≤◌}
use mathlib.Core.Path.{◌≡◌, refl, sym, ap, ◌∙◌}
use mathlib.Core.Bool.{Bool, true, false, cond, ◌&&◌}
use mathlib.Core.List.{List, ◌∷◌, ◌++◌}
use native.Mathlib.Omega.{arith}
use native.Mathlib.Nat.{add-zero, zero-add}
use native.Mathlib.Numerals.{add-one}
use lib.ListN.{length, get_or, take, drop, set, length-drop}
use lib.Seq.{paste, paste-suc, length-paste, length-take-le, drop-cons, get_or-take, get_or-drop, get_or-set_same, get_or-set_other, ext_get_or}
use lib.Dec.{ltb, eqb}
use borrow.Author.Tests.{ltb-true, ltb-false, lt-ltb, eqb-true, eqb-false}
use Rattle.answer.proofs.Below.{all_below, below}
use Rattle.alphabet.specs.Letters.{within}
use Rattle.utf7.specs.Sets.{alphanumeric, set_d, set_o, direct, own}
use Rattle.utf7.specs.Writing.{pieces, spell, spell_all, writing}
use Rattle.utf7.specs.declared.Style.{Style}
use Rattle.utf7.specs.declared.Style.TheVariants.{Header, Body, Name}
use Rattle.utf7.proofs.Sets.{own-byte}
use Rattle.answer.specs.Ahead.{Ahead}
use Rattle.utf7_write.specs.Ahead.{Own, own_bit, OwnFrom, narrow, Narrowed}
use Rattle.answer.proofs.Ahead.{ahead-next}
use Rattle.utf7_write.proofs.Stretches.{own-high}

-- a choice, and what each style's choices come to, computed at every byte
abbrev or_within : ℕ → ℕ → ℕ → ℕ → ℕ
or_within was a z b = cond (within a z b) 1 was

abbrev header : ℕ → ℕ
header b =
    or_within (or_within (or_within (or_within (or_within (or_within (or_within (or_within 0 97 122 b) 65 90 b) 44 58 b) 39 41 b) 63 63 b) 32 32 b) 9 10 b) 13 13 b

abbrev body : ℕ → ℕ
body b = or_within (or_within (or_within (or_within (or_within 0 32 42 b) 44 91 b) 93 125 b) 9 10 b) 13 13 b

abbrev name : ℕ → ℕ
name b = or_within (or_within 0 32 37 b) 39 126 b

pub header-bit : (b : ℕ) → b < 256 → header b ≡ own_bit Header b
unfolding own direct set_d set_o alphanumeric all_below
header-bit b h = eqb-true (header b) (own_bit Header b) (below (λ k. eqb (header k) (own_bit Header k)) 256 refl b h)

pub body-bit : (b : ℕ) → b < 256 → body b ≡ own_bit Body b
unfolding own direct set_d set_o alphanumeric all_below
body-bit b h = eqb-true (body b) (own_bit Body b) (below (λ k. eqb (body k) (own_bit Body k)) 256 refl b h)

pub name-bit : (b : ℕ) → b < 256 → name b ≡ own_bit Name b
unfolding own direct set_d set_o alphanumeric all_below
name-bit b h = eqb-true (name b) (own_bit Name b) (below (λ k. eqb (name k) (own_bit Name k)) 256 refl b h)

-- the tests of body style, and the sets of all, computed too
abbrev pub own_bits : Style → ℕ → ℕ → Bool
own_bits style from set = all_below (λ k. eqb (set / 2 ^ k % 2) (own_bit style (from + k))) 64

pub own-from : (style : Style) (from set : ℕ) → own_bits style from set ≡ true → OwnFrom style from set
own-from style from set t k h = eqb-true (set / 2 ^ k % 2) (own_bit style (from + k)) (below (λ k. eqb (set / 2 ^ k % 2) (own_bit style (from + k))) 64 t k h)

-- a cell is written as itself just when it is so once it is narrow: 0 is not, nor is a cell that is not narrow
zero-other : (style : Style) → own style 0 ≡ false
unfolding own direct set_d set_o alphanumeric
zero-other Header = refl
zero-other Body = refl
zero-other Name = refl

pub own-narrow : (style : Style) (u : ℕ) → own style (narrow u) ≡ own style u
own-narrow style u = told (ltb u 128) refl
  where
    told : (t : Bool) → ltb u 128 ≡ t → own style (cond t u 0) ≡ own style u
    told true e = refl
    told false e = zero-other style ∙ sym (own-high style u (ltb-false u 128 e))

-- the sets tell what is written as itself
module _ (style : Style) (low high set u : ℕ) (l : OwnFrom style 0 low) (g : OwnFrom style 64 high) (a : u ≤ 63 → set ≡ low) (b : 63 < u → set ≡ high) where
  bit-told : (t : Bool) → eqb (cond {A = ℕ} t 1 0) 1 ≡ t
  bit-told true = refl
  bit-told false = refl

  of-half : (t : Bool) → ltb 63 u ≡ t → u < 128 → eqb (set / 2 ^ (u % 64) % 2) 1 ≡ own style u
  of-half true e h =
      let k = ltb-true 63 u e in
      let x : u % 64 ≡ u - 64 = omega arith in
      let y : 64 + (u - 64) ≡ u = omega arith in
      rw (b k, x, g (u - 64) (omega arith), y) (bit-told (own style u))
  of-half false e h =
      let k = ltb-false 63 u e in
      let x : u % 64 ≡ u = omega arith in
      rw (a k, x, l u (omega arith), zero-add u) (bit-told (own style u))

  of-sets : (t : Bool) → ltb u 128 ≡ t → (t && eqb (set / 2 ^ (u % 64) % 2) 1) ≡ own style u
  of-sets true e = of-half (ltb 63 u) refl (ltb-true u 128 e)
  of-sets false e = sym (own-high style u (ltb-false u 128 e))

  pub sets-own : (ltb u 128 && eqb (set / 2 ^ (u % 64) % 2) 1) ≡ own style u
  sets-own = of-sets (ltb u 128) refl

-- a block's bytes, of which the first k are written as themselves: so are the cells, and they are the bytes
module _ (style : Style) (us : List ℕ) (i : ℕ) (bs : List ℕ) (n : ℕ) where
  pub own-cells : Narrowed us i bs n → (k : ℕ) → k ≤ n → Ahead (Own style) bs 0 k → Ahead (Own style) us i k
  own-cells w k q a m h = sym (own-narrow style (get_or us (i + m) 0)) ∙ rw (zero-add m, w m (omega arith)) at (a m h)

  pub same-cells :
      i + n ≤ length us → length bs ≡ n → Narrowed us i bs n → (k : ℕ) → k ≤ n → Ahead (Own style) bs 0 k → take k bs ≡ take k (drop i us)
  same-cells h l w k q a =
      let e : length (take k bs) ≡ k = length-take-le k bs (omega arith) in
      ext_get_or 0 (take k bs) (take k (drop i us)) (e ∙ sym (length-take-le k (drop i us) (omega (arith, length-drop i us))))
      (λ m z.
      let y : m < k = omega arith in
      let u = get_or us (i + m) 0 in
      get_or-take k bs m 0 y ∙ w m (omega arith)
      ∙ rw (lt-ltb u 128 (own-byte style u (own-cells w k q a m y)), get_or-take k (drop i us) m 0 y, get_or-drop i us m 0))

-- one element more of a block that is made of cells
pub made_more :
    (f : ℕ → ℕ) (us : List ℕ) (i : ℕ) (bs : List ℕ) (k x : ℕ) → k < length bs → ((m : ℕ) → m < k → get_or bs m 0 ≡ f (get_or us (i + m) 0)) →
    x ≡ f (get_or us (i + k) 0) → (m : ℕ) → m < k + 1 → get_or (set bs k x) m 0 ≡ f (get_or us (i + m) 0)
made_more f us i bs k x h n e m l = told (eqb m k) refl
  where
    told : (t : Bool) → eqb m k ≡ t → get_or (set bs k x) m 0 ≡ f (get_or us (i + m) 0)
    told true q = rw (eqb-true m k q) (get_or-set_same bs k x 0 h ∙ e)
    told false q = get_or-set_other bs k m x 0 (eqb-false m k q) ∙ n m (omega (arith, eqb-false m k q))

-- bytes stored one after another
module _ (out₀ bs : List ℕ) (at n k : ℕ) {out : List ℕ} (l : length bs ≡ n) (h : at + n ≤ length out₀) (e : out ≡ paste out₀ at bs k) where
  pub pasted_length : k ≤ n → length out ≡ length out₀
  pasted_length q = ap length e ∙ length-paste out₀ at bs k (omega arith) (omega arith)

  pub pasted-more : k < n → set out (at + k) (get_or bs k 0) ≡ paste out₀ at bs (k + 1)
  pasted-more q = rw (e, add-one) (paste-suc out₀ at bs k 0 (omega arith) (omega arith))

-- a block of units that are written as themselves
pub write-block :
    (style : Style) (us : List ℕ) (n i : ℕ) → i + n ≤ length us → Ahead (Own style) us i n →
    writing style (drop i us) ≡ take n (drop i us) ++ writing style (drop (i + n) us)
unfolding writing pieces spell_all spell
write-block style us zero i h a = rw (add-zero i)
write-block style us (suc n) i h a =
    let e : i + 1 + n ≡ i + suc n = omega arith in
    let o : own style (get_or us i 0) ≡ true = rw (add-zero i) at (a 0 (omega arith)) in
    let ih = write-block style us n (i + 1) (omega arith) (ahead-next (Own style) us i n a) in
    let d : drop i us ≡ get_or us i 0 ∷ drop (i + 1) us = drop-cons us i 0 (omega arith) ∙ rw add-one in
    rw (d, o) (ap (λ (l : List ℕ). get_or us i 0 ∷ l) (ih ∙ rw e))
