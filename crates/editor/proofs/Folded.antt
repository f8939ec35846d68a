-- An editor that a layout may find is one still when it is squeezed, whether undoing and redoing restore its cells or
-- not. Assumes nothing.
use Prim.Native.Nat.{ℕ, ◌+◌, ◌-◌, ◌≤◌}
use mathlib.Core.Path.{◌≡◌, refl, sym, ap, ◌∙◌}
use mathlib.Core.Bool.{Bool, true, ◌&&◌, ◌||◌}
use mathlib.Core.List.{List, [], ◌∷◌, ◌++◌, map, reverse_aux, reverse, reverse_aux-eq, reverse_aux-append}
use native.Mathlib.Omega.{arith}
use lib.ListN.{length, take-append-drop}
use lib.Dec.{ltb, leb}
use borrow.Author.Tests.{le-leb}
use Rattle.answer.proofs.Below.{both, cond-case}
use Rattle.editor.specs.Marks.{folded_mark}
use Rattle.editor.specs.Ledger.{Step, weight_of}
use Rattle.editor.specs.Records.{Entry, step_of, text_before, length_after, reached, lengths_fit}
use Rattle.editor.specs.Editor.{Editor, Space, Turn, with_text, oldest, later, folded_to, words_in, squeeze_to}
use Rattle.editor.specs.Editor.{squeeze_oldest}
use Rattle.editor.proofs.Steps.{and-true}
use Rattle.editor.proofs.Lengths.{lengths-append, reached-append, reached-fits, before-append, before-from}
use Rattle.editor.proofs.Lengths.{length_from}
use Rattle.editor.proofs.Marks.{folded_fits}
use Rattle.editor.proofs.Ends.{entries}
use Rattle.editor.proofs.Held.{Legal}

steps-in-order : (a b : List Entry) → map step_of (reverse_aux a b) ≡ reverse_aux (map step_of a) (map step_of b)
steps-in-order [] b = refl
steps-in-order (x ∷ a) b = steps-in-order a (x ∷ b)

module _ (weigh : Step → ℕ) (n : ℕ) (e : Editor) (ok : Legal weigh n e) where
  module _ (new old : List Entry) (is : e.standing ≡ new ++ old) where
    -- the length after the oldest records, and the records that follow them
    abbrev between : ℕ
    between = reached n (reverse old)

    abbrev rest : List Entry
    rest = reverse_aux new e.undone

    in_order : entries e ≡ reverse_aux old rest
    in_order = ap (λ (l : List Entry). reverse_aux l e.undone) is ∙ reverse_aux-append new old e.undone

    fits-order : (lengths_fit e.room n (reverse old) && lengths_fit e.room between rest) ≡ true
    fits-order =
        sym (lengths-append e.room n (reverse old) rest)
        ∙ ap (lengths_fit e.room n) (sym (in_order ∙ reverse_aux-eq old rest))
        ∙ ok.fits

    pub fits-old : lengths_fit e.room n (reverse old) ≡ true
    fits-old = (both (lengths_fit e.room n (reverse old)) (lengths_fit e.room between rest) fits-order).0

    fits-rest : lengths_fit e.room between rest ≡ true
    fits-rest = (both (lengths_fit e.room n (reverse old)) (lengths_fit e.room between rest) fits-order).1

    pub fits-new : lengths_fit e.room between (reverse new) ≡ true
    fits-new =
        let first : Bool = lengths_fit e.room between (reverse new) in
        let second : Bool = lengths_fit e.room (reached between (reverse new)) e.undone in
        (both first second
        (sym (lengths-append e.room between (reverse new) e.undone)
        ∙ ap (lengths_fit e.room between) (sym (reverse_aux-eq new e.undone))
        ∙ fits-rest)
        ).0

    pub reach-new : length e.text ≡ reached between (reverse new)
    reach-new =
        sym ok.reach
        ∙ ap (λ (l : List Entry). reached n (reverse l)) is
        ∙ ap (reached n) (reverse_aux-append new old [] ∙ reverse_aux-eq old (reverse new))
        ∙ reached-append n (reverse old) (reverse new)

    -- both texts are as long as the records say, whatever cells they hold
    pub length-added : length (text_before new e.text) ≡ between
    length-added =
        ap length (before-from new e.text)
        ∙ length_from e.room between (reverse new) e.text fits-new reach-new

    pub length_removed : length (text_before e.standing e.text) ≡ n
    length_removed =
        ap (λ (l : List Entry). length (text_before l e.text)) is
        ∙ ap length (before-append new old e.text ∙ before-from old (text_before new e.text))
        ∙ length_from e.room n (reverse old) (text_before new e.text) fits-old length-added

    abbrev one : Entry
    one = record { place = 0; removed = text_before e.standing e.text; added = text_before new e.text }

    abbrev after : Editor
    after =
        with_text e e.text (new ++ one ∷ []) e.undone
        (folded_mark (weight_of weigh (map step_of old)) (weigh (step_of one)) e.saved)

    length-one : length_after n one ≡ between
    length-one = omega (arith, length_removed, length-added)

    legal-after : Legal weigh n after
    unfolding lengths_fit reached
    legal-after =
        let order : entries after ≡ one ∷ rest = reverse_aux-append new (one ∷ []) e.undone in
        let standing : reverse (new ++ one ∷ []) ≡ one ∷ reverse new = reverse_aux-append new (one ∷ []) [] in
        let whole : 0 + length one.removed ≤ n = omega (arith, length_removed) in
        let below : between ≤ e.room = reached-fits e.room n (reverse old) ok.opens fits-old in
        record {
          opens = ok.opens;
          room = ok.room;
          fits =
              rw (order, length-one)
              (and-true _ _
              (and-true _ _ (le-leb _ _ whole) (le-leb between e.room below)) fits-rest);
          reach = ap (reached n) standing ∙ ap (λ (m : ℕ). reached m (reverse new)) length-one ∙ sym reach-new;
          marked =
              rw order
              (folded_fits weigh (map step_of old) (map step_of rest) (step_of one) e.saved
              (rw (in_order, steps-in-order old rest) at ok.marked));
        }

  pub squeeze-legal :
      (space : Space) (k : ℕ) (work : List ℕ) → Legal weigh n (squeeze_oldest weigh space e k work).editor
  unfolding squeeze_oldest squeeze_to
  squeeze-legal space k work =
      let Is : Turn → Type 0 = λ t. Legal weigh n t.editor in
      let x : Entry = folded_to e k in
      cond-case Is (ltb k 2 || ltb (length e.standing) k) (λ _. ok)
      (λ _. cond-case Is (leb (words_in space (oldest k e.standing)) (length (space.laid x))) (λ _. ok)
      (λ _. cond-case Is (ltb (length work) (length (space.laid x))) (λ _. ok)
      (λ _.
      legal-after (later k e.standing) (oldest k e.standing)
      (sym (take-append-drop (length e.standing - k) e.standing)))))
