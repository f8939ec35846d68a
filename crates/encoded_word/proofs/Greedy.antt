-- The words of a line: each takes as many units as fit, none parts a surrogate pair, and together they hold all units.
-- Assumes nothing.
use Prim.Native.Nat.{ℕ, zero, suc, ◌+◌, ◌-◌, ◌*◌, ◌<◌, ◌≤◌}
use mathlib.Core.Path.{◌≡◌, refl, sym, ap, ◌∙◌, subst}
use mathlib.Core.Bool.{Bool, true, false, cond, not, ◌&&◌, ◌||◌, false≢true}
use mathlib.Core.List.{List, [], ◌∷◌, ◌++◌, append-nil, map}
use native.Mathlib.Omega.{arith}
use lib.ListN.{length, get_or, take, drop, length-append, length-take, length-drop, take-append-drop}
use lib.ListN.{get_or-eq_default}
use lib.Seq.{length-take-le}
use lib.Dec.{ltb, leb, eqb, lit<, lit≤}
use borrow.Author.Tests.{ltb-true, leb-true, leb-false, eqb-true, eqb-false, le-leb, lt-leb, not-true}
use Rattle.answer.specs.Answer.{numbered, limit}
use Rattle.answer.specs.Lists.{Each}
use Rattle.answer.proofs.Below.{cond-case, both, each_take, each-drop}
use Rattle.alphabet.specs.Letters.{within}
use Rattle.reading.specs.Reading.{accepted, reading, read_into}
use Rattle.reading.proofs.ReadsBack as whole
use Rattle.reading.proofs.ReadsBack.{Fills}
use Rattle.utf7.specs.Writing.{IsUnit, writing, first_over}
use Rattle.utf7.specs.declared.Style.TheVariants.{Header}
use Rattle.utf7.proofs.Pieces.{size-bound, units-all}
use Rattle.parsing.specs.Digits.{digits}
use Rattle.encoded_word.specs.Writing.{itself, spelled, q_text, word_start, word_end, joint, word_of, fits, is_high}
use Rattle.encoded_word.specs.Writing.{is_low, parts, may_take, greatest, share_of, shares, joined, line_of}
use Rattle.encoded_word.specs.Writing.{write_into}
use Rattle.encoded_word.specs.Rule.{subject}
use Rattle.encoded_word.proofs.Round.{Good, flat, line_reads}

module _ (test : ℕ → Bool) where
  -- the greatest number is within the bound, and passes unless it is 0
  pub greatest-few : (n : ℕ) → greatest test n ≤ n
  unfolding greatest
  greatest-few zero = omega arith
  greatest-few (suc n) =
      cond-case (λ (m : ℕ). m ≤ suc n) (test (suc n)) (λ _. omega arith) (λ _. omega (arith, greatest-few n))

  pub greatest-passes : (n : ℕ) → 0 < greatest test n → test (greatest test n) ≡ true
  unfolding greatest
  greatest-passes zero h = absurd (omega arith)
  greatest-passes (suc n) h =
      cond-case (λ (m : ℕ). 0 < m → test m ≡ true) (test (suc n)) (λ t _. t) (λ _. greatest-passes n) h

  -- none that passes is greater
  pub greatest-most : (n m : ℕ) → m ≤ n → test m ≡ true → m ≤ greatest test n
  unfolding greatest
  greatest-most zero m h t = h
  greatest-most (suc n) m h t =
      cond-case (λ (g : ℕ). m ≤ g) (test (suc n)) (λ _. h) (λ f. greatest-most n m (below (eqb m (suc n)) refl f) t)
    where
      below : (s : Bool) → eqb m (suc n) ≡ s → test (suc n) ≡ false → m ≤ n
      below true e f = absurd (false≢true (sym f ∙ ap test (sym (eqb-true m (suc n) e)) ∙ t))
      below false e f = omega (arith, eqb-false m (suc n) e)

-- two units always fit
pub spelled-few : (b : ℕ) → length (spelled b) ≤ 3
unfolding spelled digits
spelled-few b =
    cond-case (λ (l : List ℕ). length l ≤ 3) (eqb b 32) (λ _. lit≤ tt)
    (λ _. cond-case (λ (l : List ℕ). length l ≤ 3) (itself b) (λ _. lit≤ tt) (λ _. lit≤ tt))

q-few : (bs : List ℕ) → length (q_text bs) ≤ 3 * length bs
unfolding q_text
q-few [] = omega arith
q-few (b ∷ bs) = omega (arith, spelled-few b, q-few bs, length-append (spelled b) (q_text bs))

pub two-fit : (us : List ℕ) → length us ≤ 2 → fits us ≡ true
unfolding fits word_of
two-fit us h =
    le-leb (length (word_of us)) 75
    (omega (arith, q-few (writing Header us), size-bound Header us, length-append (q_text (writing Header us)) word_end))

not-both : (a b c : Bool) → b ≡ false → not ((a && b) && c) ≡ true
not-both true b c e = rw e
not-both false b c e = refl

low-not-high : (v : ℕ) (c : Bool) → is_low v ≡ true → not (is_high v && c) ≡ true
low-not-high v c e =
    let l = leb-true 0xDC00 v (both (leb 0xDC00 v) (leb v 0xDFFF) e).0 in
    not-both (leb 0xD800 v) (leb v 0xDBFF) c (lt-leb v 0xDBFF (omega arith))

-- where the first unit may not stand alone, the first two may
pair-taken : (u : ℕ) (us : List ℕ) → parts (u ∷ us) 1 ≡ true → (2 ≤ length (u ∷ us)) × (may_take (u ∷ us) 2 ≡ true)
pair-taken u [] e =
    absurd (omega (arith, leb-true 0xDC00 0 (both (leb 0xDC00 0) (leb 0 0xDFFF) (both (is_high u) (is_low 0) e).1).0))
pair-taken u (v ∷ vs) e =
    (omega arith, rw (two-fit (u ∷ v ∷ []) (lit≤ tt)) (low-not-high v (is_low (get_or vs 0 0)) (both (is_high u) (is_low v) e).1))

module _ (u : ℕ) (us : List ℕ) where
  abbrev all : List ℕ
  all = u ∷ us

  one-or-two : (t : Bool) → parts all 1 ≡ t → 0 < share_of all
  unfolding share_of
  one-or-two false e = greatest-most (may_take all) (length all) 1 (omega arith) (rw (two-fit (u ∷ []) (lit≤ tt), e))
  one-or-two true e =
      let p = pair-taken u us e in
      omega (arith, greatest-most (may_take all) (length all) 2 p.0 p.1)

  -- a word takes at least one unit, and they fit
  pub share-some : 0 < share_of all
  share-some = one-or-two (parts all 1) refl

  pub share-few : share_of all ≤ length all
  unfolding share_of
  share-few = greatest-few (may_take all) (length all)

  pub share-fits : fits (take (share_of all) all) ≡ true
  unfolding share_of
  share-fits =
      (both (fits (take (share_of all) all)) (not (parts all (share_of all)))
      (greatest-passes (may_take all) (length all) share-some)).0

  -- "a high surrogate directly before a low one shares its word"
  pub share-whole : parts all (share_of all) ≡ false
  unfolding share_of
  share-whole =
      not-true (parts all (share_of all))
      (both (fits (take (share_of all) all)) (not (parts all (share_of all)))
      (greatest-passes (may_take all) (length all) share-some)).1

  -- "Each word takes as many units as fit": no more of them that part no pair
  pub share-most : (n : ℕ) → n ≤ length all → fits (take n all) ≡ true → parts all n ≡ false → n ≤ share_of all
  unfolding share_of
  share-most n h f p = greatest-most (may_take all) (length all) n h (rw (f, p))

shares-good :
    (n : ℕ) (us : List ℕ) → length us ≤ n → Each IsUnit us → Each Good (shares n us) × (flat (shares n us) ≡ us)
unfolding shares
shares-good zero [] h g = (tt, refl)
shares-good zero (u ∷ us) h g = absurd (omega arith)
shares-good (suc n) [] h g = (tt, refl)
shares-good (suc n) (u ∷ us) h g =
    let k : ℕ = share_of (u ∷ us) in
    let some = share-some u us in
    let few = share-few u us in
    let ih =
    shares-good n (drop k (u ∷ us)) (omega (arith, length-drop k (u ∷ us))) (each-drop IsUnit (u ∷ us) k g) in (
      ((omega (arith, length-take-le k (u ∷ us) few), each_take IsUnit (u ∷ us) k g, share-fits u us), ih.0),
      ap (λ (l : List ℕ). take k (u ∷ us) ++ l) ih.1 ∙ take-append-drop k (u ∷ us),
    )

-- a line that is written reads back as its units
pub round_trip : (us : List ℕ) → Each IsUnit us → reading subject (line_of us) ≡ record { cells = us; ending = accepted }
unfolding line_of
round_trip us g =
    let s = shares-good (length us) us (omega arith) g in
    rw s.1 at (line_reads (shares (length us) us) s.0)

-- "a line written within the limit restores the units"
pub reads-back :
    (us out o room : List ℕ) (place : ℕ) → write_into us out ≡ record { verdict = numbered 0 place; out = o } →
    place ≤ limit →
    length us ≤ length room → read_into subject (take place o) room ≡ Fills us room
unfolding write_into
reads-back us out = whole.reads-back us (first_over us) (line_of us) out subject (λ h. round_trip us (units-all us h))

-- n units need at most 78 n bytes
joined-few : (shared : List (List ℕ)) → Each Good shared → length (joined (map word_of shared)) ≤ 78 * length shared
unfolding joined fits
joined-few [] g = omega arith
joined-few (us ∷ []) g = omega (arith, leb-true (length (word_of us)) 75 g.0.2)
joined-few (us ∷ vs ∷ rest) g =
    omega (
      arith,
      leb-true (length (word_of us)) 75 g.0.2,
      joined-few (vs ∷ rest) g.1,
      length-append (word_of us) (joint ++ joined (map word_of (vs ∷ rest))),
    )

shares-few : (shared : List (List ℕ)) → Each Good shared → length shared ≤ length (flat shared)
shares-few [] g = omega arith
shares-few (us ∷ rest) g = omega (arith, g.0.0, shares-few rest g.1, length-append us (flat rest))

pub line-few : (us : List ℕ) → Each IsUnit us → length (line_of us) ≤ 78 * length us
unfolding line_of
line-few us g =
    let s = shares-good (length us) us (omega arith) g in
    let n = shares-few (shares (length us) us) s.0 in
    omega (arith, joined-few (shares (length us) us) s.0, rw s.1 at n)
