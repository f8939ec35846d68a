-- The bytes before a word's text, one after another. Assumes nothing.
use Prim.Native.Nat.{ℕ, suc, ◌+◌, ◌<◌, ◌≤◌}
use mathlib.Core.Path.{◌≡◌, refl, ◌∙◌}
use mathlib.Core.Bool.{Bool, true, false}
use mathlib.Core.List.{◌∷◌}
use native.Mathlib.Omega.{arith}
use native.Mathlib.Numerals.{add-one}
use lib.ListN.{get_or, drop, drop_of_length-le}
use lib.Seq.{drop-cons}
use lib.Dec.{eqb}
use borrow.Author.Tests.{eq-eqb, ne_eqb, eqb-true, eqb-false}
use Rattle.reading.specs.Reading.{go, bad}
use Rattle.utf7.specs.Rule.{outside, utf7}
use Rattle.encoded_word.specs.Rule.{head, text, due_does, part_does}
use Rattle.encoded_word_read.specs.Line.{due, due_from}

pub head-none : (k b : ℕ) → 13 ≤ k → part_does utf7 (head (due_from k)) b ≡ bad 21
unfolding part_does
head-none k b h = rw (drop_of_length-le due h)

pub head-last : (b : ℕ) → part_does utf7 (head (due_from 12)) b ≡ due_does 63 b (text 0 outside)
unfolding part_does
head-last b = refl

pub head_more :
    (k b : ℕ) → k < 12 → part_does utf7 (head (due_from k)) b ≡ due_does (get_or due k 0) b (head (due_from (k + 1)))
unfolding part_does
head_more k b h =
    let one : drop k due ≡ get_or due k 0 ∷ drop (suc k) due = drop-cons due k 0 (omega arith) in
    let two : drop (suc k) due ≡ get_or due (suc k) 0 ∷ drop (suc (suc k)) due = drop-cons due (suc k) 0 (omega arith) in
    rw (one, two, add-one, two)

head-off-more : (k b : ℕ) → k < 12 → (b ≡ get_or due k 0 → ⊥) → part_does utf7 (head (due_from k)) b ≡ bad 21
head-off-more k b h e = head_more k b h ∙ rw (ne_eqb b (get_or due k 0) e)

-- another byte than the one due
pub head-off : (k b : ℕ) → k < 13 → (b ≡ get_or due k 0 → ⊥) → part_does utf7 (head (due_from k)) b ≡ bad 21
head-off k b h e = by_end (eqb k 12) refl
  where
    by_end : (t : Bool) → eqb k 12 ≡ t → part_does utf7 (head (due_from k)) b ≡ bad 21
    by_end true q =
        let z : k ≡ 12 = eqb-true k 12 q in
        rw z (head-last b ∙ rw (ne_eqb b 63 (λ x. e (x ∙ rw z))))
    by_end false q = head-off-more k b (omega (arith, eqb-false k 12 q)) e

-- the byte that is due: the last, and another
pub head-on-last : (k b : ℕ) → k ≡ 12 → b ≡ get_or due k 0 → go (text 0 outside) ≡ part_does utf7 (head (due_from k)) b
head-on-last k b h e =
    let z : b ≡ 63 = e ∙ rw h in
    rw (h, z, head-last 63)

pub head-on : (k b : ℕ) → k < 12 → b ≡ get_or due k 0 → go (head (due_from (k + 1))) ≡ part_does utf7 (head (due_from k)) b
head-on k b h e = rw (head_more k b h, eq-eqb b (get_or due k 0) e)
