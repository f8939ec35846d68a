-- A longest stretch is one piece, and how a writing goes on from a place. Assumes nothing.
use Prim.Native.Nat.{ℕ, zero, suc, ◌+◌, ◌-◌, ◌*◌, ◌/◌, ◌<◌, ◌≤◌}
use mathlib.Core.Path.{◌≡◌, refl, sym, ◌∙◌}
use mathlib.Core.Bool.{Bool, true, false, not, and-true, true≢false}
use mathlib.Core.List.{List, [], ◌∷◌, ◌++◌}
use native.Mathlib.Omega.{arith}
use native.Mathlib.Numerals.{add-one}
use native.Mathlib.Nat.{add-zero}
use lib.ListN.{length, get_or, take, drop, length-append, length-drop, drop_of_length-le}
use lib.Seq.{length-take-le, drop-drop, drop-cons}
use lib.Dec.{eqb}
use borrow.Author.Tests.{eq-eqb, ne_eqb, not-true, not-false}
use Rattle.answer.proofs.Below.{both, cond-case}
use Rattle.utf7.specs.Sets.{sign_of, own}
use Rattle.utf7.specs.Writing.{Piece, stretch, extend, pieces, spell, spell_all, writing}
use Rattle.utf7.specs.declared.Style.{Style}
use Rattle.utf7.proofs.Sets.{own-byte, own_sign, sign-byte}
use Rattle.utf7.proofs.Pieces.{length_run}
use Rattle.utf7_write.specs.Stretch.{other, stretch_length}
use Rattle.answer.specs.Ahead.{Ahead}
use Rattle.utf7_write.specs.Ahead.{High}
use Rattle.answer.proofs.Ahead.{ahead-next}

bool_false : (t : Bool) → (t ≡ true → ⊥) → t ≡ false
bool_false true f = absurd (f refl)
bool_false false f = refl

module _ (style : Style) where
  own-else : (u : ℕ) → other style u ≡ false → eqb u (sign_of style) ≡ false → own style u ≡ true
  unfolding other
  own-else u e f = not-false (own style u) (sym (and-true (not (own style u))) ∙ rw f at e)

  pieces-other : (u : ℕ) (us : List ℕ) → other style u ≡ true → pieces style (u ∷ us) ≡ extend u (pieces style us)
  unfolding pieces other
  pieces-other u us e =
      let h = both (not (own style u)) (not (eqb u (sign_of style))) e in
      rw (not-true (own style u) h.0, not-true (eqb u (sign_of style)) h.1)

  extend-else :
      (u w : ℕ) (ws : List ℕ) → other style w ≡ false →
      extend u (pieces style (w ∷ ws)) ≡ stretch (u ∷ []) ∷ pieces style (w ∷ ws)
  unfolding pieces
  extend-else u w ws e =
      let alone : List Piece → Type 0 = λ ps. extend u ps ≡ stretch (u ∷ []) ∷ ps in
      cond-case alone (own style w) (λ _. refl)
      (λ f. cond-case alone (eqb w (sign_of style)) (λ _. refl) (λ g. absurd (true≢false (sym (own-else w e g) ∙ f))))

  pub pieces-stretch :
      (u : ℕ) (us : List ℕ) → other style u ≡ true →
      pieces style (u ∷ us) ≡ stretch (u ∷ take (stretch_length style us) us) ∷ pieces style (drop (stretch_length style us) us)
  unfolding stretch_length pieces
  pieces-stretch u [] e = pieces-other u [] e
  pieces-stretch u (w ∷ ws) e =
      pieces-other u (w ∷ ws) e
      ∙ cond-case (λ (k : ℕ). extend u (pieces style (w ∷ ws)) ≡ stretch (u ∷ take k (w ∷ ws)) ∷ pieces style (drop k (w ∷ ws))) (other style w)
      (λ t. rw (pieces-stretch w ws t)) (extend-else u w ws)

  pub stretch-within : (us : List ℕ) → stretch_length style us ≤ length us
  unfolding stretch_length
  stretch-within [] = omega arith
  stretch-within (u ∷ us) =
      cond-case (λ (n : ℕ). n ≤ suc (length us)) (other style u) (λ _. omega (arith, stretch-within us)) (λ _. omega arith)

  writing-stretch :
      (l : List ℕ) (u : ℕ) (us : List ℕ) → l ≡ u ∷ us → other style u ≡ true →
      writing style l ≡ spell style (stretch (take (stretch_length style l) l)) ++ writing style (drop (stretch_length style l) l)
  unfolding writing spell_all stretch_length
  writing-stretch l u us e k = rw (e, k, pieces-stretch u us k)

-- a longest stretch from i to j: its run, and the writing from j on
pub record Stretched (style : Style) (us : List ℕ) (i j : ℕ) : Type 0 where
  pub on : i < j
  pub inside : j ≤ length us
  pub cut : writing style (drop i us) ≡ spell style (stretch (take (j - i) (drop i us))) ++ writing style (drop j us)
  pub bytes : length (writing style (drop i us)) ≡ 2 + ((j - i) * 16 + 5) / 6 + length (writing style (drop j us))

-- a unit at i that is written as itself: it is a byte, and the writing from i + 1 on
pub record Itself (style : Style) (us : List ℕ) (i : ℕ) : Type 0 where
  pub low : get_or us i 0 < 128
  pub cut : writing style (drop i us) ≡ get_or us i 0 ∷ writing style (drop (i + 1) us)

-- what stands at a place, or that nothing does
module _ (style : Style) (us : List ℕ) (i : ℕ) where
  pub stretch-end : length us ≤ i → stretch_length style (drop i us) ≡ 0
  unfolding stretch_length
  stretch-end h = rw (drop_of_length-le us h)

  pub write-end : length us ≤ i → writing style (drop i us) ≡ []
  unfolding writing pieces spell_all
  write-end h = rw (drop_of_length-le us h)

  module _ (h : i < length us) where
    pub stretch-here : other style (get_or us i 0) ≡ false → stretch_length style (drop i us) ≡ 0
    unfolding stretch_length
    stretch-here e = rw (drop-cons us i 0 h, e)

    pub stretch-more : other style (get_or us i 0) ≡ true → stretch_length style (drop i us) ≡ suc (stretch_length style (drop (i + 1) us))
    unfolding stretch_length
    stretch-more e = rw (drop-cons us i 0 h, add-one, e)

    pub write-sign : {s : ℕ} → s ≡ sign_of style → get_or us i 0 ≡ s → writing style (drop i us) ≡ s ∷ 45 ∷ writing style (drop (i + 1) us)
    unfolding writing pieces spell_all spell
    write-sign q e = rw (drop-cons us i 0 h, add-one, e, q, own_sign style, eq-eqb (sign_of style) (sign_of style) refl)

    pub itself : {s : ℕ} → s ≡ sign_of style → other style (get_or us i 0) ≡ false → (get_or us i 0 ≡ s → ⊥) → Itself style us i
    unfolding writing pieces spell_all spell
    itself q e n =
        let o = own-else style (get_or us i 0) e (ne_eqb (get_or us i 0) (sign_of style) (rw q at n)) in
        record { low = own-byte style (get_or us i 0) o; cut = rw (drop-cons us i 0 h, add-one, o) }

    pub stretched : (j : ℕ) → other style (get_or us i 0) ≡ true → j ≡ i + stretch_length style (drop i us) → Stretched style us i j
    stretched j e q =
        let k : j - i ≡ stretch_length style (drop i us) = omega arith in
        let l : j ≤ length us = omega (arith, stretch-within style (drop i us), length-drop i us) in
        let t : length (take (j - i) (drop i us)) ≡ j - i = length-take-le (j - i) (drop i us) (omega (arith, length-drop i us)) in
        let c : writing style (drop i us) ≡ spell style (stretch (take (j - i) (drop i us))) ++ writing style (drop j us) =
        writing-stretch style (drop i us) (get_or us i 0) (drop (suc i) us) (drop-cons us i 0 h) e
        ∙ rw (k, q, drop-drop (stretch_length style (drop i us)) i us) in
        record {
          on = omega (arith, stretch-more e);
          inside = l;
          cut = c;
          bytes = rw (c, length-append (spell style (stretch (take (j - i) (drop i us)))) (writing style (drop j us)), length_run, t);
        }

-- a block of units of 128 or more
pub own-high : (style : Style) (u : ℕ) → High u → own style u ≡ false
own-high style u h = bool_false (own style u) (λ e. omega (arith, own-byte style u e))

pub not-own-other : (style : Style) (u : ℕ) → own style u ≡ false → (u ≡ sign_of style → ⊥) → other style u ≡ true
unfolding other
not-own-other style u o n = rw (o, ne_eqb u (sign_of style) n)

high-other : (style : Style) (u : ℕ) → High u → other style u ≡ true
high-other style u h = not-own-other style u (own-high style u h) (λ e. omega (arith, sign-byte style))

-- a run of one unit: the next is written as itself
pub one-alone :
    (style : Style) (us : List ℕ) (i : ℕ) → i + 1 < length us → other style (get_or us i 0) ≡ true → own style (get_or us (i + 1) 0) ≡ true →
    Stretched style us i (i + 1)
unfolding other
one-alone style us i h e o =
    let k : i < length us = omega arith in
    stretched style us i k (i + 1) e
    (omega (arith, stretch-more style us i k e, stretch-here style us (i + 1) h (rw o)))

pub stretch-block :
    (style : Style) (us : List ℕ) (n i : ℕ) → i + n ≤ length us → Ahead High us i n →
    stretch_length style (drop i us) ≡ n + stretch_length style (drop (i + n) us)
stretch-block style us zero i h a = rw (add-zero i) (omega arith)
stretch-block style us (suc n) i h a =
    let e : i + 1 + n ≡ i + suc n = omega arith in
    stretch-more style us i (omega arith) (high-other style (get_or us i 0) (rw (add-zero i) at (a 0 (omega arith))))
    ∙ rw (stretch-block style us n (i + 1) (omega arith) (ahead-next High us i n a), e) (omega arith)
