-- Reading goes through what is written in a style of UTF-7, unit by unit, and is outside a run at its end. What is said of letters and pieces
-- holds in every style. Assumes nothing.
use Prim.Native.Nat.{ℕ, ◌/◌, ◌<◌, ◌≤◌}
use mathlib.Core.Path.{◌≡◌, refl, sym, ap, ◌∙◌}
use mathlib.Core.Bool.{Bool, true, false}
use mathlib.Core.List.{List, [], ◌∷◌, ◌++◌, append_assoc, append-nil, map}
use native.Mathlib.Omega.{arith}
use lib.ListN.{length, take, drop, length-append, length-drop, length-map, take-append-drop}
use lib.Seq.{length-take-le}
use lib.Dec.{ltb, eqb, lit<}
use borrow.Author.Tests.{ltb-true, ltb-false, eqb-true, lt-ltb}
use Rattle.answer.specs.Lists.{Each}
use Rattle.answer.proofs.Below.{cond-case}
use Rattle.bits.specs.Bits.{bits, bits_of, full, left_over, filler}
use Rattle.bits.proofs.Bits.{length-bits}
use Rattle.bits.proofs.Groups.{length-bits_of, length-groups, full-few, left-few, full-more, left-more, full-bits, left-bits, bits-groups, groups-below, filler-few, filler-zero, filler-full}
use Rattle.alphabet.specs.Letters.{value_of, set_b, slash, letter_of}
use Rattle.alphabet.proofs.Letters.{Sign, slash-sign, value-letter, value_low}
use Rattle.reading.specs.Reading.{give, go, accepted, reading}
use Rattle.reading.proofs.Walk.{Walk, stay, gives, goes, walk-on, walk-whole}
use Rattle.utf7.specs.Sets.{direct, sign_of, Mail, own}
use Rattle.utf7.specs.Rule.{Shift, outside, opening, run, outside_does, unit_does, may_end, end_does, low_does, byte_does, ends_in, utf7}
use Rattle.utf7.specs.Writing.{IsUnit, Piece, self, sign, stretch, extend, pieces, letters, spell, spell_all, writing}
use Rattle.utf7.specs.declared.Style.{Style}
use Rattle.utf7.proofs.Sets.{own-direct, direct-byte, direct-sign, mail-sign, mail-last}

-- letters of an alphabet, and what one does in a run
abbrev pub Letters : ℕ → List ℕ → Type 0
Letters last ls = Each (λ b. set_b last b ≡ true) ls

pub byte-run : (p : List Bool) (b : ℕ) → set_b slash b ≡ true → byte_does (run p) b ≡ unit_does (p ++ bits 6 (value_of slash b))
unfolding byte_does low_does
byte-run p b h = simp (lt-ltb b 128 (value_low slash slash-sign b h), h)

pub byte-opening : (b : ℕ) → set_b slash b ≡ true → byte_does opening b ≡ unit_does (bits 6 (value_of slash b))
unfolding byte_does low_does
byte-opening b h = simp (lt-ltb b 128 (value_low slash slash-sign b h), h)

-- letters behind pending bits: "each full 16 bits are a unit", and the others are left over
abbrev Cut : Shift → List ℕ → List Bool → Type 0
Cut from ls bs = Walk utf7 from ls (full 16 bs) (run (left_over 16 bs))

-- a letter that completes the bits bs, with `more` behind them
cut-letter :
    (from : Shift) (b : ℕ) (ls : List ℕ) (bs more : List Bool) (t : Bool) → byte_does from b ≡ unit_does bs → ltb (length bs) 16 ≡ t → length bs < 32 →
    ((q : List Bool) → length q < 16 → Cut (run q) ls (q ++ more)) → Cut from (b ∷ ls) (bs ++ more)
unfolding unit_does
cut-letter from b ls bs more true e t l ih = goes (rw t at e) (ih bs (ltb-true _ _ t))
cut-letter from b ls bs more false e t l ih =
    let g : 16 ≤ length bs = ltb-false (length bs) 16 t in
    let h : length (take 16 bs) ≡ 16 = length-take-le 16 bs g in
    let w = ih (drop 16 bs) (simp length-drop (omega arith)) in
    let q : take 16 bs ++ (drop 16 bs ++ more) ≡ bs ++ more =
    sym (append_assoc (take 16 bs) (drop 16 bs) more) ∙ ap (λ (r : List Bool). r ++ more) (take-append-drop 16 bs) in
    rw (← q, full-more 16 (lit< tt) (take 16 bs) (drop 16 bs ++ more) h, left-more 16 (lit< tt) (take 16 bs) (drop 16 bs ++ more) h)
    (gives (rw t at e) w)

pub cut-run : (ls : List ℕ) (p : List Bool) → Letters slash ls → length p < 16 → Cut (run p) ls (p ++ bits_of 6 (map (value_of slash) ls))
unfolding bits_of
cut-run [] p h l = rw (append-nil p, full-few 16 (lit< tt) p l, left-few 16 (lit< tt) p l) stay
cut-run (b ∷ ls) p h l =
    rw (← append_assoc p (bits 6 (value_of slash b)) (bits_of 6 (map (value_of slash) ls)))
    (cut-letter (run p) b ls (p ++ bits 6 (value_of slash b)) (bits_of 6 (map (value_of slash) ls)) (ltb (length (p ++ bits 6 (value_of slash b))) 16)
    (byte-run p b h.0) refl (simp (length-append, length-bits) (omega arith)) (λ q k. cut-run ls q h.1 k))

sign-opens : byte_does outside 43 ≡ go opening
unfolding byte_does low_does outside_does
sign-opens = refl

-- "+ and a byte of B opens a run": the whole run, cut at once
pub whole_run :
    (ls : List ℕ) → 0 < length ls → Letters slash ls →
    Walk utf7 outside (43 ∷ ls) (full 16 (bits_of 6 (map (value_of slash) ls))) (run (left_over 16 (bits_of 6 (map (value_of slash) ls))))
unfolding bits_of
whole_run [] some h = absurd (omega arith)
whole_run (b ∷ ls) some h =
    goes sign-opens
    (cut-letter opening b ls (bits 6 (value_of slash b)) (bits_of 6 (map (value_of slash) ls)) (ltb (length (bits 6 (value_of slash b))) 16)
    (byte-opening b h.0) refl (rw (length-bits 6 (value_of slash b)) (lit< tt)) (λ q k. cut-run ls q h.1 k))

-- the letters of values are letters, and have those values
module _ (last : ℕ) (s : Sign last) where
  pub letters-values : (xs : List ℕ) → Each (λ x. x < 64) xs → map (value_of last) (map (letter_of last) xs) ≡ xs
  letters-values [] h = refl
  letters-values (x ∷ xs) h = rw (value-letter last s x h.0, letters-values xs h.1)

  pub letters-letters : (xs : List ℕ) → Each (λ x. x < 64) xs → Letters last (map (letter_of last) xs)
  unfolding set_b
  letters-letters [] h = tt
  letters-letters (x ∷ xs) h = (rw (value-letter last s x h.0) (lt-ltb x 64 h.0), letters-letters xs h.1)

pub close-run : (f : List Bool) → may_end f ≡ true → byte_does (run f) 45 ≡ go outside
unfolding byte_does low_does set_b value_of end_does
close-run f e = rw e

-- fewest zero bits are few enough
filler-ends : (bs : List Bool) → may_end (filler 6 bs) ≡ true
unfolding may_end
filler-ends bs =
    let few = filler-few 6 (lit< tt) bs in
    rw (filler-zero 6 bs) (lt-ltb (length (filler 6 bs)) _ (omega (arith, few)))

-- a run is read as its units
module _ (us : List ℕ) (some : 0 < length us) (h : Each IsUnit us) where
  abbrev pub b : List Bool
  b = bits_of 16 us

  abbrev pub xs : List ℕ
  xs = full 6 (b ++ filler 6 b)

  pub xs-bits : bits_of 6 xs ≡ b ++ filler 6 b
  unfolding full
  xs-bits = bits-groups 6 (length (b ++ filler 6 b) / 6) (b ++ filler 6 b) (filler-full b)

  pub xs-below : Each (λ x. x < 64) xs
  unfolding full
  xs-below = groups-below 6 (length (b ++ filler 6 b) / 6) (b ++ filler 6 b) (filler-full b)

  pub xs-some : (last : ℕ) → 0 < length (map (letter_of last) xs)
  unfolding full
  xs-some last = simp (length-map, length-groups, length-append, length-bits_of) (omega arith)

  pub few : length (filler 6 b) < 16
  few = omega (arith, filler-few 6 (lit< tt) b)

  pub stretch-walk : Walk utf7 outside (43 ∷ (letters slash b ++ 45 ∷ [])) us outside
  unfolding letters
  stretch-walk =
      let w = whole_run (map (letter_of slash) xs) (xs-some slash) (letters-letters slash slash-sign xs xs-below) in
      let v = rw (letters-values slash slash-sign xs xs-below, xs-bits, full-bits 16 (lit< tt) us (filler 6 b) h few, left-bits 16 (lit< tt) us (filler 6 b) few) at w in
      rw append-nil at (walk-on v (goes (close-run (filler 6 b) (filler-ends b)) stay))

-- what a piece stands for, and the pieces that units have
abbrev pub units_of : Style → Piece → List ℕ
units_of style (self u) = u ∷ []
units_of style sign = sign_of style ∷ []
units_of style (stretch us) = us

abbrev pub Shifted : Style → ℕ → Type 0
Shifted style u = IsUnit u × (own style u ≡ false) × (eqb u (sign_of style) ≡ false)

abbrev pub Good : Style → Piece → Type 0
Good style (self u) = own style u ≡ true
Good style sign = Unit
Good style (stretch us) = (0 < length us) × Each (Shifted style) us

pub shifted-units : (style : Style) (us : List ℕ) → Each (Shifted style) us → Each IsUnit us
shifted-units style [] h = tt
shifted-units style (u ∷ us) h = (h.0.0, shifted-units style us h.1)

pub self-walk : (u : ℕ) → direct u ≡ true → byte_does outside u ≡ give u outside
unfolding byte_does low_does outside_does
self-walk u e = simp (lt-ltb u 128 (direct-byte u e), direct-sign u e, e)

sign-closes : byte_does opening 45 ≡ give 43 outside
unfolding byte_does low_does set_b value_of
sign-closes = refl

pub piece-walk : (style : Style) → Mail style → (p : Piece) → Good style p → Walk utf7 outside (spell style p) (units_of style p) outside
unfolding spell
piece-walk style m (self u) g = gives (self-walk u (own-direct style m u g)) stay
piece-walk style m sign g = rw (mail-sign style m) (goes sign-opens (gives sign-closes stay))
piece-walk style m (stretch us) g = rw (mail-sign style m, mail-last style m) (stretch-walk us g.0 (shifted-units style us g.1))

module _ (style : Style) where
  abbrev pub flat : List Piece → List ℕ
  flat [] = []
  flat (p ∷ ps) = units_of style p ++ flat ps

  abbrev pub AllGood : List Piece → Type 0
  AllGood [] = Unit
  AllGood (p ∷ ps) = Good style p × AllGood ps

  all-walk : Mail style → (ps : List Piece) → AllGood ps → Walk utf7 outside (spell_all style ps) (flat ps) outside
  unfolding spell_all
  all-walk m [] g = stay
  all-walk m (p ∷ ps) g = walk-on (piece-walk style m p g.0) (all-walk m ps g.1)

  extend-good : (u : ℕ) (ps : List Piece) → Shifted style u → AllGood ps → AllGood (extend u ps)
  extend-good u [] h g = ((lit< tt, (h, tt)), tt)
  extend-good u (self v ∷ ps) h g = ((lit< tt, (h, tt)), g)
  extend-good u (sign ∷ ps) h g = ((lit< tt, (h, tt)), g)
  extend-good u (stretch us ∷ ps) h g = ((omega arith, (h, g.0.1)), g.1)

  extend-flat : (u : ℕ) (ps : List Piece) → flat (extend u ps) ≡ u ∷ flat ps
  extend-flat u [] = refl
  extend-flat u (self v ∷ ps) = refl
  extend-flat u (sign ∷ ps) = refl
  extend-flat u (stretch us ∷ ps) = refl

  pub pieces-good : (us : List ℕ) → Each IsUnit us → AllGood (pieces style us)
  unfolding pieces
  pieces-good [] h = tt
  pieces-good (u ∷ us) h =
      let ih = pieces-good us h.1 in
      cond-case AllGood (own style u) (λ t. (t, ih))
      (λ o. cond-case AllGood (eqb u (sign_of style)) (λ _. (tt, ih)) (λ n. extend-good u (pieces style us) (h.0, o, n) ih))

  pub pieces-flat : (us : List ℕ) → flat (pieces style us) ≡ us
  unfolding pieces
  pieces-flat [] = refl
  pieces-flat (u ∷ us) =
      let ih : flat (pieces style us) ≡ us = pieces-flat us in
      cond-case (λ (ps : List Piece). flat ps ≡ u ∷ us) (own style u) (λ _. ap (λ (r : List ℕ). u ∷ r) ih)
      (λ _.
      cond-case (λ (ps : List Piece). flat ps ≡ u ∷ us) (eqb u (sign_of style)) (λ t. rw (eqb-true u (sign_of style) t, ih))
      (λ _. extend-flat u (pieces style us) ∙ ap (λ (r : List ℕ). u ∷ r) ih))

-- reading leads through what is written, gives the units, and is outside a run at the end
pub writing-walk : (style : Style) → Mail style → (us : List ℕ) → Each IsUnit us → Walk utf7 outside (writing style us) us outside
unfolding writing
writing-walk style m us h = rw (pieces-flat style us) at (all-walk style m (pieces style us) (pieces-good style us h))

-- what is written reads back as the same cells, in both styles
pub round_trip : (style : Style) → Mail style → (us : List ℕ) → Each IsUnit us → reading utf7 (writing style us) ≡ record { cells = us; ending = accepted }
unfolding ends_in
round_trip style m us h = walk-whole (writing-walk style m us h) (λ size. refl)
