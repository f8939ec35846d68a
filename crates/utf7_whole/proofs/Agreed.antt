-- Comparing a text with cells a part at a time: whether the text reads as the cells is whether its rest does as theirs. Assumes nothing.
use Prim.Native.Nat.{ℕ, ◌+◌, ◌-◌, ◌<◌, ◌≤◌}
use mathlib.Core.Path.{◌≡◌, refl, sym, ap, ◌∙◌}
use mathlib.Core.Bool.{Bool, true, false, cond, ◌&&◌}
use mathlib.Core.List.{List, [], ◌∷◌, ◌++◌}
use native.Mathlib.Omega.{arith}
use lib.ListN.{length, get_or, take, drop, length-drop, take-append-drop}
use native.Mathlib.Numerals.{add-one}
use lib.Seq.{length-take-le, take-suc, get_or-drop, drop-drop}
use lib.Dec.{eqb}
use Rattle.reading.specs.Reading.{Does, give, go, bad, Ending, accepted, fault, Reading, on_read, read_from, reading}
use Rattle.reading.specs.Inner.{Left}
use Rattle.reading.specs.Matching.{same_cells, accepted_as, gave, reads_as}
use Rattle.utf7.specs.Rule.{Shift, outside, opening, run, may_end, byte_does, ends_in, utf7}
use Rattle.utf7_whole.specs.Quick.{Agrees}

-- one cell more on either side, and none on one
same_more : (e : Ending) (v c : ℕ) (read cells : List ℕ) → accepted_as e (v ∷ read) (c ∷ cells) ≡ cond (eqb v c) (accepted_as e read cells) false
unfolding same_cells
same_more accepted v c read cells = refl
same_more (fault k place) v c read cells = none (eqb v c)
  where
    none : (t : Bool) → false ≡ cond t false false
    none true = refl
    none false = refl

same_none : (e : Ending) (v : ℕ) (read : List ℕ) → accepted_as e (v ∷ read) [] ≡ false
unfolding same_cells
same_none accepted v read = refl
same_none (fault k place) v read = refl

-- as many cells on either side
pub joined : (e : Ending) (p q a b : List ℕ) → length p ≡ length q → accepted_as e (p ++ a) (q ++ b) ≡ cond (same_cells p q) (accepted_as e a b) false
unfolding same_cells
joined e [] [] a b h = refl
joined e [] (y ∷ q) a b h = absurd (omega arith)
joined e (x ∷ p) [] a b h = absurd (omega arith)
joined e (x ∷ p) (y ∷ q) a b h = same_more e x y (p ++ a) (q ++ b) ∙ by (joined e p q a b (omega arith)) (eqb x y)
  where
    by : accepted_as e (p ++ a) (q ++ b) ≡ cond (same_cells p q) (accepted_as e a b) false → (t : Bool) → cond t (accepted_as e (p ++ a) (q ++ b)) false ≡ cond (cond t (same_cells p q) false) (accepted_as e a b) false
    by f true = f
    by f false = refl

-- too few
shorter : (e : Ending) (p q : List ℕ) → length q < length p → accepted_as e p q ≡ false
shorter e [] q h = absurd (omega arith)
shorter e (x ∷ p) [] h = same_none e x p
shorter e (x ∷ p) (y ∷ q) h = same_more e x y p q ∙ by (shorter e p q (omega arith)) (eqb x y)
  where
    by : accepted_as e p q ≡ false → (t : Bool) → cond t (accepted_as e p q) false ≡ false
    by f true = f
    by f false = refl

-- where the bytes stand counts only for the place of a fault
ends-anywhere : (a b : ℕ) (st : Shift) (cells : List ℕ) → accepted_as (ends_in a st) [] cells ≡ accepted_as (ends_in b st) [] cells
unfolding ends_in
ends-anywhere a b outside cells = refl
ends-anywhere a b opening cells = refl
ends-anywhere a b (run pending) cells = by (may_end pending)
  where
    by : (t : Bool) → accepted_as (cond t accepted (fault 4 a)) [] cells ≡ accepted_as (cond t accepted (fault 4 b)) [] cells
    by true = refl
    by false = refl

anywhere : (bs : List ℕ) (a b : ℕ) (st : Shift) (cells : List ℕ) → gave (read_from utf7 bs a st) cells ≡ gave (read_from utf7 bs b st) cells
unfolding read_from
anywhere [] a b st cells = ends-anywhere a b st cells
anywhere (x ∷ bs) a b st cells = by (λ st' cells. anywhere bs (a + 1) (b + 1) st' cells) (byte_does st x) cells
  where
    by :
        ((st' : Shift) (cells : List ℕ) → gave (read_from utf7 bs (a + 1) st') cells ≡ gave (read_from utf7 bs (b + 1) st') cells) → (m : Does Shift) (cells : List ℕ) →
        gave (on_read m a (read_from utf7 bs (a + 1))) cells ≡ gave (on_read m b (read_from utf7 bs (b + 1))) cells
    by f (give v st') [] =
        same_none (read_from utf7 bs (a + 1) st').ending v (read_from utf7 bs (a + 1) st').cells
        ∙ sym (same_none (read_from utf7 bs (b + 1) st').ending v (read_from utf7 bs (b + 1) st').cells)
    by f (give v st') (c ∷ cs) =
        same_more (read_from utf7 bs (a + 1) st').ending v c (read_from utf7 bs (a + 1) st').cells cs
        ∙ ap (λ (t : Bool). cond (eqb v c) t false) (f st' cs)
        ∙ sym (same_more (read_from utf7 bs (b + 1) st').ending v c (read_from utf7 bs (b + 1) st').cells cs)
    by f (go st') cells = f st' cells
    by f (bad k) cells = refl

pub agrees_start : (s cells : List ℕ) → Agrees s cells 0 0
unfolding reads_as reading
agrees_start s cells = record { within = omega arith; few = omega arith; inside = omega arith; so = refl }

-- the rest of a text, of which a part was read
module _ {s cells : List ℕ} {at n : ℕ} (g : Agrees s cells at n) {to m : ℕ} (l : Left utf7 (drop at s) to outside m) where
  abbrev rest : Reading
  rest = reading utf7 (drop at s)

  whole : gave rest (drop n cells) ≡ reads_as utf7 s cells
  unfolding reading
  whole = anywhere (drop at s) 0 at outside (drop n cells) ∙ g.so

  pub agrees-less : length cells - n < m → false ≡ reads_as utf7 s cells
  agrees-less h =
      sym (shorter rest.ending rest.cells (drop n cells) (omega (arith, l.inside, length-drop n cells))) ∙ whole

  module _ (h : n + m ≤ length cells) where
    parted : cond (same_cells (take m rest.cells) (take m (drop n cells))) (gave (read_from utf7 (drop to (drop at s)) to outside) (drop m (drop n cells))) false ≡ reads_as utf7 s cells
    parted =
        let e : length (take m rest.cells) ≡ length (take m (drop n cells)) =
        length-take-le m rest.cells l.inside ∙ sym (length-take-le m (drop n cells) (omega (arith, length-drop n cells))) in
        let j = joined rest.ending (take m rest.cells) (take m (drop n cells)) (drop m rest.cells) (drop m (drop n cells)) e in
        let k : accepted_as rest.ending rest.cells (drop n cells) ≡ cond (same_cells (take m rest.cells) (take m (drop n cells))) (accepted_as rest.ending (drop m rest.cells) (drop m (drop n cells))) false =
        rw (take-append-drop m rest.cells, take-append-drop m (drop n cells)) at j in
        rw (l.cells, l.ending) at (sym k ∙ whole)

    pub agrees-other : same_cells (take m rest.cells) (take m (drop n cells)) ≡ false → false ≡ reads_as utf7 s cells
    agrees-other e = rw e at parted

    pub agrees_on : same_cells (take m rest.cells) (take m (drop n cells)) ≡ true → Agrees s cells (at + to) (n + m)
    agrees_on e =
        record {
          within = omega (arith, l.within, length-drop at s, g.within);
          few = omega (arith, l.few, g.few);
          inside = h;
          so =
              anywhere (drop (at + to) s) (at + to) to outside (drop (n + m) cells)
              ∙ rw (← drop-drop to at s, ← drop-drop m n cells) (rw e at parted);
        }

-- one cell more at the end of either
same-snoc : (p q : List ℕ) (x y : ℕ) → length p ≡ length q → same_cells (p ++ x ∷ []) (q ++ y ∷ []) ≡ (same_cells p q && eqb x y)
unfolding same_cells
same-snoc [] [] x y h = by (eqb x y)
  where
    by : (t : Bool) → cond t true false ≡ t
    by true = refl
    by false = refl
same-snoc [] (c ∷ q) x y h = absurd (omega arith)
same-snoc (a ∷ p) [] x y h = absurd (omega arith)
same-snoc (a ∷ p) (c ∷ q) x y h = by (same-snoc p q x y (omega arith)) (eqb a c)
  where
    by :
        same_cells (p ++ x ∷ []) (q ++ y ∷ []) ≡ (same_cells p q && eqb x y) → (t : Bool) →
        cond t (same_cells (p ++ x ∷ []) (q ++ y ∷ [])) false ≡ (cond t (same_cells p q) false && eqb x y)
    by f true = f
    by f false = refl

-- and of two lists from a place on
pub same_next :
    (a b : List ℕ) (from k : ℕ) → k < length a → from + k < length b →
    same_cells (take (k + 1) a) (take (k + 1) (drop from b)) ≡ (same_cells (take k a) (take k (drop from b)) && eqb (get_or a k 0) (get_or b (from + k) 0))
same_next a b from k h l =
    let d : length (drop from b) ≡ length b - from = length-drop from b in
    let e : length (take k a) ≡ length (take k (drop from b)) = length-take-le k a (omega arith) ∙ sym (length-take-le k (drop from b) (omega arith)) in
    rw (add-one k, take-suc a k 0 h, take-suc (drop from b) k 0 (omega arith), get_or-drop from b k 0) (same-snoc (take k a) (take k (drop from b)) (get_or a k 0) (get_or b (from + k) 0) e)
