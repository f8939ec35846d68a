-- The pieces of a writing: their letters, their bytes, that stretches are longest; and which cells are units. Assumes nothing.
use Prim.Native.Nat.{ℕ, suc, ◌+◌, ◌-◌, ◌*◌, ◌/◌, ◌%◌, ◌^◌, ◌<◌, ◌≤◌}
use mathlib.Core.Path.{◌≡◌, refl, sym, ap, ◌∙◌}
use mathlib.Core.Bool.{Bool}
use mathlib.Core.List.{List, [], ◌∷◌, ◌++◌, append_assoc, append-nil}
use native.Mathlib.Omega.{arith}
use native.Mathlib.Nat.{add-zero}
use lib.ListN.{length, length-append, length-map, length-replicate}
use lib.Dec.{ltb, eqb, lit<}
use borrow.Author.Tests.{ltb-true, lt-ltb}
use Rattle.answer.specs.Lists.{Each}
use Rattle.answer.proofs.Below.{cond-case}
use Rattle.bits.specs.Bits.{number, groups, full, filler}
use Rattle.bits.proofs.Bits.{number_append, zeros-number}
use Rattle.bits.proofs.Groups.{length-bits_of, length-groups, length-filler, full-more, full-few}
use Rattle.alphabet.specs.Letters.{letter_of}
use Rattle.utf7.specs.Sets.{sign_of, own}
use Rattle.utf7.specs.Writing.{IsUnit, Piece, self, sign, stretch, extend, pieces, letters, spell, spell_all, writing, first_over}
use Rattle.utf7.specs.declared.Style.{Style}

-- the letters of bits: of none; of the first six and the others; of the last few, with filler
pub letters-none : (last : ℕ) → letters last [] ≡ []
unfolding letters filler full groups
letters-none last = refl

filler-six : (h bs : List Bool) → length h ≡ 6 → filler 6 (h ++ bs) ≡ filler 6 bs
unfolding filler
filler-six h bs e =
    let q : (6 + length bs) % 6 ≡ length bs % 6 = omega arith in
    rw (length-append h bs, e, q)

pub letters-six : (last : ℕ) (h bs : List Bool) → length h ≡ 6 → letters last (h ++ bs) ≡ letter_of last (number h) ∷ letters last bs
unfolding letters
letters-six last h bs e =
    rw (filler-six h bs e, append_assoc h bs (filler 6 bs), full-more 6 (lit< tt) h (bs ++ filler 6 bs) e)

module _ (p : List Bool) (a : 0 < length p) (b : length p < 6) where
  filler-last : length (filler 6 p) ≡ 6 - length p
  filler-last = length-filler 6 (lit< tt) p ∙ omega arith

  pub letters-last : (last : ℕ) → letters last p ≡ letter_of last (number p * 2 ^ (6 - length p)) ∷ []
  unfolding letters filler
  letters-last last =
      let q : List Bool = p ++ filler 6 p in
      let l : length q ≡ 6 = length-append p (filler 6 p) ∙ rw filler-last (omega arith) in
      let e : full 6 q ≡ number q ∷ [] =
      ap (full 6) (sym (append-nil q)) ∙ full-more 6 (lit< tt) q [] l ∙ rw (full-few 6 (lit< tt) [] (lit< tt)) in
      rw (e, number_append p (filler 6 p), filler-last, zeros-number, add-zero)

-- the bytes of a run, and that n units need at most 5 n bytes
pub length_run : (style : Style) (us : List ℕ) → length (spell style (stretch us)) ≡ 2 + (length us * 16 + 5) / 6
unfolding spell letters full filler
length_run style us = simp (length-append, length-map, length-groups, length-bits_of, length-replicate) (omega arith)

extend-size : (style : Style) (u : ℕ) (ps : List Piece) → length (spell_all style (extend u ps)) ≤ 5 + length (spell_all style ps)
unfolding spell_all
extend-size style u [] = simp (length-append, length_run) (omega arith)
extend-size style u (self v ∷ ps) = simp (length-append, length_run) (omega arith)
extend-size style u (sign ∷ ps) = simp (length-append, length_run) (omega arith)
extend-size style u (stretch us ∷ ps) = simp (length-append, length_run) (omega arith)

pub size-bound : (style : Style) (us : List ℕ) → length (writing style us) ≤ 5 * length us
unfolding writing pieces spell_all spell
size-bound style [] = omega arith
size-bound style (u ∷ us) =
    let ih = size-bound style us in
    let fits : List Piece → Type 0 = λ ps. length (spell_all style ps) ≤ 5 * suc (length us) in
    cond-case fits (own style u) (λ _. omega arith)
    (λ _. cond-case fits (eqb u (sign_of style)) (λ _. omega arith) (λ _. omega (arith, extend-size style u (pieces style us))))

-- stretches are longest: no two stand side by side
abbrev pub Unstretched : List Piece → Type 0
Unstretched [] = Unit
Unstretched (self v ∷ ps) = Unit
Unstretched (sign ∷ ps) = Unit
Unstretched (stretch us ∷ ps) = ⊥

abbrev pub Apart : List Piece → Type 0
Apart [] = Unit
Apart (self v ∷ ps) = Apart ps
Apart (sign ∷ ps) = Apart ps
Apart (stretch us ∷ ps) = Unstretched ps × Apart ps

extend-apart : (u : ℕ) (ps : List Piece) → Apart ps → Apart (extend u ps)
extend-apart u [] h = (tt, tt)
extend-apart u (self v ∷ ps) h = (tt, h)
extend-apart u (sign ∷ ps) h = (tt, h)
extend-apart u (stretch us ∷ ps) h = h

pub pieces-apart : (style : Style) (us : List ℕ) → Apart (pieces style us)
unfolding pieces
pieces-apart style [] = tt
pieces-apart style (u ∷ us) =
    let ih = pieces-apart style us in
    cond-case Apart (own style u) (λ _. ih) (λ _. cond-case Apart (eqb u (sign_of style)) (λ _. ih) (λ _. extend-apart u (pieces style us) ih))

-- no cell is over exactly if every cell is a unit
pub units-all : (us : List ℕ) → length us ≤ first_over us → Each IsUnit us
unfolding first_over
units-all [] h = tt
units-all (u ∷ us) h =
    cond-case (λ (n : ℕ). suc (length us) ≤ n → Each IsUnit (u ∷ us)) (ltb u (2 ^ 16))
    (λ t k. (ltb-true u (2 ^ 16) t, units-all us (omega arith))) (λ t k. absurd (omega arith)) h

pub over_none : (us : List ℕ) → Each IsUnit us → first_over us ≡ length us
unfolding first_over
over_none [] e = refl
over_none (u ∷ us) e = rw (lt-ltb u (2 ^ 16) e.0, over_none us e.1)
