-- Reading goes through what is written as a mailbox name, unit by unit, and is outside a run at its end. Assumes nothing.
use Prim.Native.Nat.{ℕ, ◌<◌, ◌≤◌}
use mathlib.Core.Path.{◌≡◌, refl, sym, ap, ◌∙◌}
use mathlib.Core.Bool.{Bool, true, false, not, and-true}
use mathlib.Core.List.{List, [], ◌∷◌, ◌++◌, append_assoc, append-nil, map}
use native.Mathlib.Omega.{arith}
use lib.ListN.{length, take, drop, length-append, length-drop, take-append-drop}
use lib.Seq.{length-take-le}
use lib.Dec.{ltb, eqb, lit<}
use borrow.Author.Tests.{ltb-true, ltb-false, lt-ltb, not-true}
use Rattle.answer.specs.Lists.{Each}
use Rattle.answer.proofs.Below.{both}
use Rattle.bits.specs.Bits.{bits, all_zero, bits_of, full, left_over, filler}
use Rattle.bits.proofs.Bits.{length-bits}
use Rattle.bits.proofs.Groups.{full-few, left-few, full-more, left-more, full-bits, left-bits, filler-few, filler-zero}
use Rattle.alphabet.specs.Letters.{value_of, set_b, comma, letter_of}
use Rattle.alphabet.proofs.Letters.{comma-sign, value_low}
use Rattle.reading.specs.Reading.{give, go, accepted, reading}
use Rattle.reading.proofs.Walk.{Walk, stay, gives, goes, walk-on, walk-whole, Arrives, arrives-on}
use Rattle.utf7.specs.Sets.{printable, own}
use Rattle.utf7.specs.Writing.{IsUnit, Piece, self, sign, stretch, pieces, letters, spell, spell_all, writing}
use Rattle.utf7.specs.declared.Style.TheVariants.{Name}
use Rattle.utf7.proofs.Sets.{own-byte}
use Rattle.utf7.proofs.Pieces.{Unstretched, Apart, pieces-apart}
use Rattle.utf7.proofs.Round.{Letters, letters-values, letters-letters, xs, xs-bits, xs-below, xs-some, Shifted, shifted-units, flat, AllGood, pieces-good, pieces-flat}
use Rattle.mailbox.specs.Rule.{Shift, outside, opening, run, outside_does, gives_unit, unit_does, close_does, low_does, byte_does, ends_in, mailbox}

-- the units that a run may hold
abbrev pub Other : ℕ → Type 0
Other u = printable u ≡ false

-- what a letter does in a run; after a '&' it does the same as in a run without pending bits
pub letter-runs : (p : List Bool) (b : ℕ) → set_b comma b ≡ true → byte_does (run p) b ≡ unit_does (p ++ bits 6 (value_of comma b))
unfolding byte_does low_does
letter-runs p b h = simp (lt-ltb b 128 (value_low comma comma-sign b h), h)

pub letter-opens : (b : ℕ) → set_b comma b ≡ true → byte_does (opening false) b ≡ byte_does (run []) b
unfolding byte_does low_does
letter-opens b h = simp (lt-ltb b 128 (value_low comma comma-sign b h), h)

-- letters behind pending bits: each full 16 bits are a unit, and the others are left over
abbrev Cut : List Bool → List ℕ → List Bool → Type 0
Cut p ls bs = Each Other (full 16 bs) → Walk mailbox (run p) ls (full 16 bs) (run (left_over 16 bs))

-- a letter that completes the bits bs, with `more` behind them
cut-letter :
    (p : List Bool) (b : ℕ) (ls : List ℕ) (bs more : List Bool) (t : Bool) → byte_does (run p) b ≡ unit_does bs → ltb (length bs) 16 ≡ t → length bs < 32 →
    ((q : List Bool) → length q < 16 → Cut q ls (q ++ more)) → Cut p (b ∷ ls) (bs ++ more)
unfolding unit_does gives_unit
cut-letter p b ls bs more true e t l ih = λ o. goes (rw t at e) (ih bs (ltb-true _ _ t) o)
cut-letter p b ls bs more false e t l ih =
    let g : 16 ≤ length bs = ltb-false (length bs) 16 t in
    let h : length (take 16 bs) ≡ 16 = length-take-le 16 bs g in
    let w = ih (drop 16 bs) (simp length-drop (omega arith)) in
    let q : take 16 bs ++ (drop 16 bs ++ more) ≡ bs ++ more =
    sym (append_assoc (take 16 bs) (drop 16 bs) more) ∙ ap (λ (r : List Bool). r ++ more) (take-append-drop 16 bs) in
    rw (← q, full-more 16 (lit< tt) (take 16 bs) (drop 16 bs ++ more) h, left-more 16 (lit< tt) (take 16 bs) (drop 16 bs ++ more) h)
    (λ o. gives (rw (t, o.0) at e) (w o.1))

cut-run : (ls : List ℕ) (p : List Bool) → Letters comma ls → length p < 16 → Cut p ls (p ++ bits_of 6 (map (value_of comma) ls))
unfolding bits_of
cut-run [] p h l = rw (append-nil p, full-few 16 (lit< tt) p l, left-few 16 (lit< tt) p l) (λ _. stay)
cut-run (b ∷ ls) p h l =
    rw (← append_assoc p (bits 6 (value_of comma b)) (bits_of 6 (map (value_of comma) ls)))
    (cut-letter p b ls (p ++ bits 6 (value_of comma b)) (bits_of 6 (map (value_of comma) ls)) (ltb (length (p ++ bits 6 (value_of comma b))) 16)
    (letter-runs p b h.0) refl (simp (length-append, length-bits) (omega arith)) (λ q k. cut-run ls q h.1 k))

pub sign-opens : (after : Bool) → byte_does (outside after) 38 ≡ go (opening after)
unfolding byte_does low_does outside_does
sign-opens after = refl

pub sign-closes : (after : Bool) → byte_does (opening after) 45 ≡ give 38 (outside false)
unfolding byte_does low_does set_b value_of
sign-closes after = refl

run-opens : (ls us : List ℕ) (end : Shift) → 0 < length ls → Letters comma ls → Walk mailbox (run []) ls us end → Walk mailbox (outside false) (38 ∷ ls) us end
run-opens [] us end some h w = absurd (omega arith)
run-opens (b ∷ ls) us end some h (gives e w) = goes (sign-opens false) (gives (letter-opens b h.0 ∙ e) w)
run-opens (b ∷ ls) us end some h (goes e w) = goes (sign-opens false) (goes (letter-opens b h.0 ∙ e) w)

pub run-closes : (f : List Bool) → all_zero f ≡ true → length f < 6 → byte_does (run f) 45 ≡ go (outside true)
unfolding byte_does low_does set_b value_of close_does
run-closes f z l = simp (z, lt-ltb (length f) 6 l)

-- letters after a '&', of whose units none is printable
pub whole_run :
    (ls : List ℕ) → 0 < length ls → Letters comma ls → Each Other (full 16 (bits_of 6 (map (value_of comma) ls))) →
    Walk mailbox (outside false) (38 ∷ ls) (full 16 (bits_of 6 (map (value_of comma) ls))) (run (left_over 16 (bits_of 6 (map (value_of comma) ls))))
whole_run ls some h o = run-opens ls _ _ some h (cut-run ls [] h (lit< tt) o)

-- what is neither itself nor the sign is not printable
shifted-other : (us : List ℕ) → Each (Shifted Name) us → Each Other us
unfolding own
shifted-other [] h = tt
shifted-other (u ∷ us) h = (simp (h.0.2, and-true) at h.0.1, shifted-other us h.1)

-- a run is read as its units
stretch-walk :
    (us : List ℕ) → 0 < length us → Each (Shifted Name) us → Walk mailbox (outside false) (38 ∷ (letters comma (bits_of 16 us) ++ 45 ∷ [])) us (outside true)
unfolding letters
stretch-walk us some g =
    let h = shifted-units Name us g in
    let x = xs us some h in
    let low = xs-below us some h in
    let ls = letters-letters comma comma-sign x low in
    let f = filler 6 (bits_of 16 us) in
    let few : length f < 6 = filler-few 6 (lit< tt) (bits_of 16 us) in
    let units : full 16 (bits_of 16 us ++ f) ≡ us = full-bits 16 (lit< tt) us f h (omega arith) in
    let w = cut-run (map (letter_of comma) x) [] ls (lit< tt) in
    let v = rw (letters-values comma comma-sign x low, xs-bits us some h, units, left-bits 16 (lit< tt) us f (omega arith)) at w in
    let r = run-opens (map (letter_of comma) x) us (run f) (xs-some us some h comma) ls (v (shifted-other us g)) in
    rw append-nil at (walk-on r (goes (run-closes f (filler-zero 6 (bits_of 16 us)) few) stay))

pub self-given : (after : Bool) (u : ℕ) → own Name u ≡ true → byte_does (outside after) u ≡ give u (outside false)
unfolding byte_does low_does outside_does own
self-given after u e =
    let h = both (printable u) (not (eqb u 38)) e in
    simp (lt-ltb u 128 (own-byte Name u e), not-true (eqb u 38) h.1, h.0)

-- directly after a run no run begins
abbrev pub Clear : Bool → List Piece → Type 0
Clear true ps = Unstretched ps
Clear false ps = Unit

abbrev Closed : Shift → Type 0
Closed shift = (size : ℕ) → ends_in size shift ≡ accepted

all-walk :
    (ps : List Piece) (after : Bool) → AllGood Name ps → Apart ps → Clear after ps →
    Arrives mailbox Closed (outside after) (spell_all Name ps) (flat Name ps)
unfolding spell_all spell ends_in
all-walk [] after g a c = record { end = outside after; walk = stay; last = λ size. refl }
all-walk (self u ∷ ps) after g a c = arrives-on (gives (self-given after u g.0) stay) (all-walk ps false g.1 a tt)
all-walk (sign ∷ ps) after g a c = arrives-on (goes (sign-opens after) (gives (sign-closes after) stay)) (all-walk ps false g.1 a tt)
all-walk (stretch us ∷ ps) true g a c = absurd c
all-walk (stretch us ∷ ps) false g a c = arrives-on (stretch-walk us g.0.0 g.0.1) (all-walk ps true g.1 a.1 a.0)

-- what is written reads back as the same units
pub round_trip : (us : List ℕ) → Each IsUnit us → reading mailbox (writing Name us) ≡ record { cells = us; ending = accepted }
unfolding writing
round_trip us h =
    let r = all-walk (pieces Name us) false (pieces-good Name us h) (pieces-apart Name us) tt in
    rw (pieces-flat Name us) at (walk-whole r.walk r.last)
