-- The spelling grows with each unit, so that a word may be filled one unit at a time. Assumes nothing.
use Prim.Native.Nat.{ℕ, zero, suc, ◌+◌, ◌-◌, ◌*◌, ◌/◌, ◌<◌, ◌≤◌}
use mathlib.Core.Path.{◌≡◌, refl, sym, ap, ◌∙◌, subst}
use mathlib.Core.Bool.{Bool, true, false, cond, not, ◌&&◌}
use mathlib.Core.List.{List, [], ◌∷◌, ◌++◌, append-nil, map}
use native.Mathlib.Omega.{arith}
use native.Mathlib.Nat.{zero-add}
use native.Mathlib.Numerals.{add-one}
use lib.ListN.{length, get_or, take, length-append, length-map}
use lib.Seq.{take-suc}
use lib.Dec.{ltb, leb, eqb, lit<, lit≤}
use borrow.Author.Tests.{leb-true, le-leb, eqb-true}
use Rattle.answer.specs.Lists.{Each}
use Rattle.answer.proofs.Below.{cond-case, all_below, below, each_at, each_take}
use Rattle.alphabet.specs.Letters.{slash, letter_of, within}
use Rattle.utf7.specs.Sets.{own, member, sign_of}
use Rattle.utf7.specs.Writing.{IsUnit, Piece, self, sign, stretch, extend, pieces, letters, spell, spell_all, writing}
use Rattle.utf7.specs.declared.Style.TheVariants.{Header}
use Rattle.utf7.proofs.Pieces.{length_run}
use Rattle.utf7.proofs.Round.{AllGood, pieces-good, xs, xs-below, shifted-units}
use Rattle.parsing.specs.Digits.{digits}
use Rattle.encoded_word.specs.Writing.{itself, spelled, q_text, word_start, word_end, word_of, fits}
use Rattle.encoded_word.specs.Inner.{run_size, trailing, brings}

pub q-append : (a b : List ℕ) → length (q_text (a ++ b)) ≡ length (q_text a) + length (q_text b)
unfolding q_text
q-append [] b = omega arith
q-append (x ∷ a) b =
    length-append (spelled x) (q_text (a ++ b)) ∙ rw (q-append a b, length-append (spelled x) (q_text a)) (omega arith)

-- the letters of a run stand for themselves
letter-one : (x : ℕ) → x < 64 → length (spelled (letter_of slash x)) ≡ 1
unfolding spelled itself letter_of all_below digits
letter-one x h =
    eqb-true (length (spelled (letter_of slash x))) 1
    (below (λ k. eqb (length (spelled (letter_of slash k))) 1) 64 refl x h)

letters-one : (ys : List ℕ) → Each (λ x. x < 64) ys → length (q_text (map (letter_of slash) ys)) ≡ length ys
unfolding q_text
letters-one [] h = refl
letters-one (y ∷ ys) h =
    length-append (spelled (letter_of slash y)) (q_text (map (letter_of slash) ys))
    ∙ rw (letter-one y h.0, letters-one ys h.1) (omega arith)

pub spelled-some : (b : ℕ) → 0 < length (spelled b)
unfolding spelled
spelled-some b =
    cond-case (λ (l : List ℕ). 0 < length l) (eqb b 32) (λ _. lit< tt)
    (λ _. cond-case (λ (l : List ℕ). 0 < length l) (itself b) (λ _. lit< tt) (λ _. omega arith))

ends-one : (length (q_text (43 ∷ [])) ≡ 1) × (length (q_text (45 ∷ [])) ≡ 1)
unfolding q_text spelled itself
ends-one = (refl, refl)

run-size :
    (us : List ℕ) → 0 < length us → Each IsUnit us → length (q_text (spell Header (stretch us))) ≡ run_size (length us)
unfolding spell letters
run-size [] some h = absurd (omega arith)
run-size (u ∷ us) some h =
    let ys : List ℕ = xs (u ∷ us) some h in
    let m : List ℕ = map (letter_of slash) ys in
    let all : length (spell Header (stretch (u ∷ us))) ≡ 2 + (suc (length us) * 16 + 5) / 6 =
    length_run Header (u ∷ us) in
    let size : length (m ++ 45 ∷ []) ≡ length ys + 1 =
    length-append m (45 ∷ []) ∙ rw (length-map ys (letter_of slash)) in
    q-append (43 ∷ []) (m ++ 45 ∷ [])
    ∙ rw (q-append m (45 ∷ []), ends-one.0, ends-one.1, letters-one ys (xs-below (u ∷ us) some h)) (omega arith)

-- the characters of pieces, and of k more shifted units in front of them
abbrev size_of : List Piece → ℕ
size_of ps = length (q_text (spell_all Header ps))

abbrev with_run : ℕ → List Piece → ℕ
with_run k [] = run_size k
with_run k (self u ∷ ps) = run_size k + (length (spelled u) + size_of ps)
with_run k (sign ∷ ps) = run_size k + (2 + size_of ps)
with_run k (stretch us ∷ ps) = run_size (k + length us) + size_of ps

size-self : (u : ℕ) (ps : List Piece) → size_of (self u ∷ ps) ≡ length (spelled u) + size_of ps
unfolding spell_all spell q_text
size-self u ps = length-append (spelled u) (q_text (spell_all Header ps))

size-sign : (ps : List Piece) → size_of (sign ∷ ps) ≡ 2 + size_of ps
unfolding spell_all spell
size-sign ps =
    q-append (43 ∷ []) (45 ∷ spell_all Header ps)
    ∙ rw (q-append (45 ∷ []) (spell_all Header ps), ends-one.0, ends-one.1) (omega arith)

size-run :
    (us : List ℕ) (ps : List Piece) → 0 < length us → Each IsUnit us →
    size_of (stretch us ∷ ps) ≡ run_size (length us) + size_of ps
unfolding spell_all
size-run us ps some h = q-append (spell Header (stretch us)) (spell_all Header ps) ∙ rw (run-size us some h)

size_none : size_of [] ≡ 0
unfolding spell_all q_text
size_none = refl

with-extend : (k u : ℕ) (ps : List Piece) → with_run k (extend u ps) ≡ with_run (k + 1) ps
with-extend k u [] = rw size_none (omega arith)
with-extend k u (self v ∷ ps) = rw (size-self v ps)
with-extend k u (sign ∷ ps) = rw (size-sign ps)
with-extend k u (stretch us ∷ ps) =
    let e : k + suc (length us) ≡ k + 1 + length us = omega arith in
    rw e

with_none : (ps : List Piece) → AllGood Header ps → with_run 0 ps ≡ size_of ps
unfolding spell_all q_text
with_none [] g = refl
with_none (self u ∷ ps) g = rw (size-self u ps) (omega arith)
with_none (sign ∷ ps) g = rw (size-sign ps) (omega arith)
with_none (stretch us ∷ ps) g = rw (size-run us ps g.0.0 (shifted-units Header us g.0.1), zero-add (length us))

pub run-grows : (k : ℕ) → run_size k < run_size (k + 1)
run-grows zero = lit< tt
run-grows (suc k) = rw (add-one (suc k)) (omega arith)

-- units behind k shifted ones
abbrev size_from : ℕ → List ℕ → ℕ
size_from k us = with_run k (pieces Header us)

units-more : (us : List ℕ) (v : ℕ) → Each IsUnit us → IsUnit v → Each IsUnit (us ++ v ∷ [])
units-more [] v h k = (k, tt)
units-more (u ∷ us) v h k = (h.0, units-more us v h.1 k)

-- the same unit in front of both
front-more :
    (k u : ℕ) (ps qs : List Piece) (x y v : ℕ) (a c : Bool) → size_of qs ≡ size_of ps + brings v x →
    with_run (k + 1) qs ≡ with_run (k + 1) ps + brings v y →
    with_run k (cond a (self u ∷ qs) (cond c (sign ∷ qs) (extend u qs)))
    ≡ with_run k (cond a (self u ∷ ps) (cond c (sign ∷ ps) (extend u ps))) + brings v (cond a x (cond c x y))
front-more k u ps qs x y v true c h m = omega arith
front-more k u ps qs x y v false true h m = omega arith
front-more k u ps qs x y v false false h m = omega (arith, with-extend k u ps, with-extend k u qs)

module _ (v : ℕ) (unit : IsUnit v) where
  one_more :
      (k : ℕ) (a c : Bool) →
      with_run k (cond a (self v ∷ []) (cond c (sign ∷ []) (extend v []))) ≡ run_size k + cond a (length (spelled v)) (cond c 2 (run_size (k + 1) - run_size k))
  one_more k true c = omega (arith, size_none)
  one_more k false true = omega (arith, size_none)
  one_more k false false = omega (arith, with-extend k v [], run-grows k)

  more-from :
      (k : ℕ) (us : List ℕ) → Each IsUnit us → size_from k (us ++ v ∷ []) ≡ size_from k us + brings v (trailing k us)
  unfolding pieces
  more-from k [] h = one_more k (own Header v) (eqb v 43)
  more-from k (u ∷ us) h =
      let ps : List Piece = pieces Header us in
      let qs : List Piece = pieces Header (us ++ v ∷ []) in
      let p = with_none ps (pieces-good Header us h.1) in
      let q = with_none qs (pieces-good Header (us ++ v ∷ []) (units-more us v h.1 unit)) in
      front-more k u ps qs (trailing 0 us) (trailing (k + 1) us) v (own Header u) (eqb u 43)
      (omega (arith, p, q, more-from 0 us h.1)) (more-from (k + 1) us h.1)

  -- one more unit at the end: what a loop over the units adds
  pub q-more :
      (us : List ℕ) → Each IsUnit us →
      length (q_text (writing Header (us ++ v ∷ []))) ≡ length (q_text (writing Header us)) + brings v (trailing 0 us)
  unfolding writing
  q-more us h =
      let p = with_none (pieces Header us) (pieces-good Header us h) in
      let q = with_none (pieces Header (us ++ v ∷ [])) (pieces-good Header (us ++ v ∷ []) (units-more us v h unit)) in
      omega (arith, p, q, more-from 0 us h)

  brings-some : (k : ℕ) (a c : Bool) → 0 < cond a (length (spelled v)) (cond c 2 (run_size (k + 1) - run_size k))
  brings-some k true c = spelled-some v
  brings-some k false true = lit< tt
  brings-some k false false = omega (arith, run-grows k)

  -- one more unit makes a longer word
  pub word-grows : (us : List ℕ) → Each IsUnit us → length (word_of us) < length (word_of (us ++ v ∷ []))
  unfolding word_of
  word-grows us h =
      omega (
        arith,
        q-more us h,
        brings-some (trailing 0 us) (own Header v) (eqb v 43),
        length-append (q_text (writing Header us)) word_end,
        length-append (q_text (writing Header (us ++ v ∷ []))) word_end,
      )

-- where the first n + 1 units fit, the first n do
pub fits-less :
    (us : List ℕ) (n : ℕ) → Each IsUnit us → n < length us → fits (take (suc n) us) ≡ true → fits (take n us) ≡ true
unfolding fits
fits-less us n h l e =
    let t = take-suc us n 0 l in
    let g = word-grows (get_or us n 0) (each_at IsUnit us n h l) (take n us) (each_take IsUnit us n h) in
    le-leb (length (word_of (take n us))) 75
    (omega (arith, g, leb-true (length (word_of (take (suc n) us))) 75 e, ap (λ (x : List ℕ). length (word_of x)) t))
