-- What is written in a style of UTF-7 is outside a run after each CR or LF and at its end. Assumes nothing.
use Prim.Native.Nat.{ℕ, ◌<◌}
use mathlib.Core.Path.{◌≡◌, refl, sym, ◌∙◌}
use mathlib.Core.Bool.{true, false, true≢false, not}
use mathlib.Core.List.{List, [], ◌∷◌, ◌++◌, map}
use borrow.Author.Tests.{not-true}
use Rattle.answer.specs.Lists.{Each}
use Rattle.answer.proofs.Below.{all_below, below}
use Rattle.alphabet.specs.Letters.{slash, letter_of}
use Rattle.reading.proofs.Walk.{Walk, stay, gives, goes}
use Rattle.utf7.specs.Sets.{Mail}
use Rattle.utf7.specs.Rule.{Shift, outside, utf7}
use Rattle.utf7.specs.Writing.{IsUnit, Piece, self, sign, stretch, pieces, letters, spell, spell_all, writing}
use Rattle.utf7.specs.Lines.{line_end, LinesClosed}
use Rattle.utf7.specs.declared.Style.{Style}
use Rattle.utf7.specs.declared.Style.TheVariants.{Header, Body, Name}
use Rattle.bits.specs.Bits.{bits_of}
use Rattle.utf7.proofs.Sets.{own-direct, mail-sign}
use Rattle.utf7.proofs.Round.{Good, AllGood, shifted-units, xs, xs-below, self-walk, piece-walk, pieces-good}

-- bytes that end no line
abbrev Inner : List ℕ → Type 0
Inner bs = Each (λ b. line_end b ≡ false) bs

no_end : {A : Type 0} (b : ℕ) → line_end b ≡ false → line_end b ≡ true → A
no_end b f t = absurd (true≢false (sym t ∙ f))

-- a walk over such bytes
walk-lines :
    {st end : Shift} {bs cs : List ℕ} → Walk utf7 st bs cs end → Inner bs → (rest : List ℕ) → LinesClosed rest end → LinesClosed (bs ++ rest) st
unfolding LinesClosed
walk-lines stay i rest h = h
walk-lines (gives {b = b} e w) i rest h = rw e (no_end b i.0, walk-lines w i.1 rest h)
walk-lines (goes {b = b} e w) i rest h = rw e (no_end b i.0, walk-lines w i.1 rest h)

inner-append : (a c : List ℕ) → Inner a → Inner c → Inner (a ++ c)
inner-append [] c h k = k
inner-append (b ∷ a) c h k = (h.0, inner-append a c h.1 k)

letter-inner : (x : ℕ) → x < 64 → line_end (letter_of slash x) ≡ false
unfolding letter_of all_below
letter-inner x h = not-true (line_end (letter_of slash x)) (below (λ k. not (line_end (letter_of slash k))) 64 refl x h)

letters-inner : (xs : List ℕ) → Each (λ x. x < 64) xs → Inner (map (letter_of slash) xs)
letters-inner [] h = tt
letters-inner (x ∷ xs) h = (letter-inner x h.0, letters-inner xs h.1)

stretch-inner : (style : Style) → Mail style → (us : List ℕ) → Inner (letters slash (bits_of 16 us) ++ 45 ∷ []) → Inner (spell style (stretch us))
unfolding spell
stretch-inner Header m us q = (refl, q)
stretch-inner Body m us q = (refl, q)
stretch-inner Name m us q = absurd m

module _ (style : Style) (m : Mail style) where
  piece-lines : (p : Piece) → Good style p → (rest : List ℕ) → LinesClosed rest outside → LinesClosed (spell style p ++ rest) outside
  unfolding LinesClosed spell letters
  piece-lines (self u) g rest h = rw (self-walk u (own-direct style m u g)) ((λ _. refl), h)
  piece-lines sign g rest h = walk-lines (piece-walk style m sign tt) (rw (mail-sign style m) (refl, (refl, tt))) rest h
  piece-lines (stretch us) g rest h =
      let ls = xs us g.0 (shifted-units style us g.1) in
      let i = letters-inner ls (xs-below us g.0 (shifted-units style us g.1)) in
      let q = inner-append (map (letter_of slash) ls) (45 ∷ []) i (refl, tt) in
      walk-lines (piece-walk style m (stretch us) g) (stretch-inner style m us q) rest h

  all_lines : (ps : List Piece) → AllGood style ps → LinesClosed (spell_all style ps) outside
  unfolding spell_all LinesClosed
  all_lines [] g = refl
  all_lines (p ∷ ps) g = piece-lines p g.0 (spell_all style ps) (all_lines ps g.1)

  pub lines-closed : (us : List ℕ) → Each IsUnit us → LinesClosed (writing style us) outside
  unfolding writing
  lines-closed us h = all_lines (pieces style us) (pieces-good style us h)
