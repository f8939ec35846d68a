-- The lengths that records lead to, and the texts before them as undoing gives these. Assumes nothing.
use Prim.Native.Nat.{ℕ, ◌+◌, ◌≤◌}
use mathlib.Core.Path.{◌≡◌, refl, sym, ap, ◌∙◌}
use mathlib.Core.Bool.{Bool, true, ◌&&◌, and_assoc}
use mathlib.Core.List.{List, [], ◌∷◌, ◌++◌, reverse, reverse-cons, reverse-reverse}
use native.Mathlib.Omega.{arith}
use lib.ListN.{length, length-append, length-take, length-drop}
use lib.Dec.{leb}
use borrow.Author.Tests.{leb-true}
use Rattle.answer.proofs.Below.{both}
use Rattle.editor.specs.Records.{Entry, applied, turned, text_before, length_after, reached, lengths_fit}

-- the lengths that records in two parts lead to
pub lengths-append :
    (room n : ℕ) (es fs : List Entry) →
    lengths_fit room n (es ++ fs) ≡ (lengths_fit room n es && lengths_fit room (reached n es) fs)
unfolding lengths_fit reached
lengths-append room n [] fs = refl
lengths-append room n (e ∷ es) fs = simp (lengths-append room (length_after n e) es fs, and_assoc)

pub reached-append : (n : ℕ) (es fs : List Entry) → reached n (es ++ fs) ≡ reached (reached n es) fs
unfolding reached
reached-append n [] fs = refl
reached-append n (e ∷ es) fs = reached-append (length_after n e) es fs

pub reached-fits : (room n : ℕ) (es : List Entry) → n ≤ room → lengths_fit room n es ≡ true → reached n es ≤ room
unfolding reached lengths_fit
reached-fits room n [] h f = h
reached-fits room n (e ∷ es) h f =
    let a : Bool = leb (e.place + length e.removed) n in
    let b : Bool = leb (length_after n e) room in
    let p = both (a && b) (lengths_fit room (length_after n e) es) f in
    reached-fits room (length_after n e) es (leb-true _ _ (both a b p.0).1) p.1

-- records that fit from a length on: the first of them, and the others
module _ (room n : ℕ) (e : Entry) (es : List Entry) (fits : lengths_fit room n (e ∷ es) ≡ true) where
  pub fits-here : e.place + length e.removed ≤ n
  unfolding lengths_fit
  fits-here =
      let a : Bool = leb (e.place + length e.removed) n in
      let b : Bool = leb (length_after n e) room in
      leb-true _ _ (both a b (both (a && b) (lengths_fit room (length_after n e) es) fits).0).0

  pub fits_next : lengths_fit room (length_after n e) es ≡ true
  unfolding lengths_fit
  fits_next =
      let a : Bool = leb (e.place + length e.removed) n in
      let b : Bool = leb (length_after n e) room in
      (both (a && b) (lengths_fit room (length_after n e) es) fits).1

-- the text before records in order
abbrev pub text_from : List Entry → List ℕ → List ℕ
text_from [] text = text
text_from (e ∷ es) text = applied (turned e) (text_from es text)

pub before-append : (a b : List Entry) (text : List ℕ) → text_before (a ++ b) text ≡ text_before b (text_before a text)
unfolding text_before
before-append [] b text = refl
before-append (e ∷ a) b text = before-append a b (applied (turned e) text)

before-reverse : (es : List Entry) (text : List ℕ) → text_before (reverse es) text ≡ text_from es text
unfolding text_before
before-reverse [] text = refl
before-reverse (e ∷ es) text =
    ap (λ (l : List Entry). text_before l text) (reverse-cons e es)
    ∙ before-append (reverse es) (e ∷ []) text
    ∙ ap (applied (turned e)) (before-reverse es text)

pub before-from : (back : List Entry) (text : List ℕ) → text_before back text ≡ text_from (reverse back) text
before-from back text =
    ap (λ (l : List Entry). text_before l text) (sym (reverse-reverse back)) ∙ before-reverse (reverse back) text

-- it has the length from which the records lead to the text's
pub length_from :
    (room n : ℕ) (es : List Entry) (text : List ℕ) → lengths_fit room n es ≡ true → length text ≡ reached n es →
    length (text_from es text) ≡ n
unfolding reached
length_from room n [] text fits h = h
length_from room n (e ∷ es) text fits h =
    let below = fits-here room n e es fits in
    let after : length (text_from es text) ≡ length_after n e =
    length_from room (length_after n e) es text (fits_next room n e es fits) h in
    simp (length-append, length-take, length-drop) (omega arith)
