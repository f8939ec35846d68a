-- What is still to be written from a cell on, and what each turn of the writer's loops takes off it. Assumes nothing.
use Prim.Native.Nat.{ℕ, zero, suc, ◌+◌, ◌*◌, ◌-◌, ◌<◌, ◌≤◌}
use mathlib.Core.Path.{◌≡◌, refl, sym, ap, ◌∙◌}
use mathlib.Core.Bool.{Bool, true, false, cond, ◌&&◌, and-false}
use mathlib.Core.List.{List, [], ◌∷◌, ◌++◌, append_assoc, map}
use native.Mathlib.Omega.{arith}
use native.Mathlib.Numerals.{add-one}
use native.Mathlib.Nat.{add-zero}
use lib.ListN.{length, get_or, take, drop, drop_of_length-le}
use lib.Seq.{drop-cons}
use lib.Dec.{eqb, lit<}
use borrow.Author.Tests.{eq-eqb, ne_eqb}
use Rattle.jp2.specs.Rule.{cell_of}
use Rattle.jp2.specs.Writable.{set_of, code_of, pair_set, shift_set}
use Rattle.jp2.specs.Writing.{Force, force, designating, spell, force_after, write_from}
use Rattle.jp2.proofs.Sets.{differs}
use Rattle.jp2_write.specs.Pieces.{designation_of, base_of, shifted_of, low_byte, after_cr, g2_after, Plain, Stretch}
use Rattle.jp2_write.proofs.Cells.{code_is, code_at, set_at, todo}

module _ (cells : List ℕ) (i : ℕ) (h : i < length cells) where
  cell-first :
      (f : Force) → write_from (drop i cells) f
      ≡ spell f (set_at cells i) (code_at cells i) ++ write_from (drop (i + 1) cells) (force_after f (set_at cells i) (code_at cells i))
  unfolding write_from
  cell-first f = rw (add-one, drop-cons cells i 0 h)

  module _ (g0 g2 : ℕ) where
    abbrev now : Force
    now = force g0 g2 (after_cr cells i)

    -- a cell of G0 whose set is in force
    after-base :
        set_at cells i ≡ g0 → shift_set (set_at cells i) ≡ false →
        force_after now (set_at cells i) (code_at cells i) ≡ force g0 (g2_after cells i g2) (after_cr cells (i + 1))
    unfolding force_after g2_after
    after-base e s =
        rw (s, code_is (get_or cells i 0) 10 (lit< tt), code_is (get_or cells i 0) 13 (lit< tt), add-one)
        (ap (λ (n : ℕ). force n (cond (after_cr cells i && eqb (get_or cells i 0) (cell_of 6 10)) 0 g2) (eqb (get_or cells i 0) (cell_of 6 13))) e)

    base-first :
        set_at cells i ≡ g0 → shift_set (set_at cells i) ≡ false →
        todo cells i g0 g2 ≡ base_of (set_at cells i) (code_at cells i) ++ todo cells (i + 1) g0 (g2_after cells i g2)
    unfolding spell designating base_of
    base-first e s = cell-first now ∙ rw (after-base e s, s, eq-eqb g0 (set_at cells i) (sym e))

    -- a cell of G2 whose set is in force
    after-shift :
        set_at cells i ≡ g2 → shift_set (set_at cells i) ≡ true →
        force_after now (set_at cells i) (code_at cells i) ≡ force g0 g2 (after_cr cells (i + 1))
    unfolding force_after
    after-shift e s =
        rw (s, add-one, ← code_is (get_or cells i 0) 13 (lit< tt), differs shift_set (set_at cells i) 6 s (unfold shift_set in refl))
        (ap (λ (n : ℕ). force g0 n false) e)

    shift-first :
        set_at cells i ≡ g2 → shift_set (set_at cells i) ≡ true →
        todo cells i g0 g2 ≡ shifted_of (code_at cells i) ++ todo cells (i + 1) g0 g2
    unfolding spell designating
    shift-first e s = cell-first now ∙ rw (after-shift e s, s, eq-eqb g2 (set_at cells i) (sym e))

    -- a set that is not in force: its designation, and then the cell
    designated :
        (f : Force) → spell now (set_at cells i) (code_at cells i) ≡ designation_of (set_at cells i) ++ spell f (set_at cells i) (code_at cells i) →
        force_after now (set_at cells i) (code_at cells i) ≡ force_after f (set_at cells i) (code_at cells i) →
        todo cells i g0 g2 ≡ designation_of (set_at cells i) ++ write_from (drop i cells) f
    designated f p q =
        let n = set_at cells i in
        cell-first now
        ∙ rw (p, q) (append_assoc (designation_of n) (spell f n (code_at cells i)) (write_from (drop (i + 1) cells) (force_after f n (code_at cells i))))
        ∙ ap (λ (l : List ℕ). designation_of n ++ l) (sym (cell-first f))

    g2-first :
        (set_at cells i ≡ g2 → ⊥) → shift_set (set_at cells i) ≡ true → todo cells i g0 g2 ≡ designation_of (set_at cells i) ++ todo cells i g0 (set_at cells i)
    unfolding spell designating force_after
    g2-first ne s =
        let n = set_at cells i in
        designated (force g0 n (after_cr cells i)) (rw (s, ne_eqb g2 n (λ e. ne (sym e)), eq-eqb n n refl)) (rw s)

    g0-first :
        (set_at cells i ≡ g0 → ⊥) → shift_set (set_at cells i) ≡ false → todo cells i g0 g2 ≡ designation_of (set_at cells i) ++ todo cells i (set_at cells i) g2
    unfolding spell designating force_after
    g0-first ne s =
        let n = set_at cells i in
        designated (force n g2 (after_cr cells i)) (rw (s, ne_eqb g0 n (λ e. ne (sym e)), eq-eqb n n refl)) (rw s)

-- a stretch of plain cells is their low bytes
module _ {v : ℕ} (p : Plain v) where
  plain-set : set_of v ≡ 6
  plain-set = omega arith

  plain-base : base_of (set_of v) (code_of v) ≡ low_byte v ∷ []
  unfolding base_of pair_set
  plain-base = let q : code_of v ≡ low_byte v = omega arith in rw (plain-set, q)

module _ (cells : List ℕ) (g2 : ℕ) where
  plain-first : (i : ℕ) → i < length cells → Plain (get_or cells i 0) → todo cells i 6 g2 ≡ low_byte (get_or cells i 0) ∷ todo cells (i + 1) 6 g2
  unfolding g2_after shift_set
  plain-first i h p =
      let lf : eqb (get_or cells i 0) (cell_of 6 10) ≡ false = ne_eqb (get_or cells i 0) (cell_of 6 10) (λ (e : get_or cells i 0 ≡ cell_of 6 10). omega arith) in
      base-first cells i h 6 g2 (plain-set p) (rw (plain-set p)) ∙ rw (plain-base p, lf, and-false (after_cr cells i))

  plain-on :
      (k i : ℕ) → i + k ≤ length cells → ((m : ℕ) → i ≤ m → m < i + k → Plain (get_or cells m 0)) →
      todo cells i 6 g2 ≡ map low_byte (take k (drop i cells)) ++ todo cells (i + k) 6 g2
  plain-on zero i h p = rw add-zero
  plain-on (suc k) i h p =
      let v = get_or cells i 0 in
      let q : i + 1 + k ≡ i + suc k = omega arith in
      let r : todo cells (i + 1) 6 g2 ≡ map low_byte (take k (drop (i + 1) cells)) ++ todo cells (i + 1 + k) 6 g2 =
      plain-on k (i + 1) (omega arith) (λ m a b. p m (omega arith) (omega arith)) in
      let d : drop i cells ≡ v ∷ drop (i + 1) cells = rw add-one (drop-cons cells i 0 (omega arith)) in
      plain-first i (omega arith) (p i (omega arith) (omega arith))
      ∙ ap (λ (l : List ℕ). low_byte v ∷ l) (rw q at r)
      ∙ ap (λ (l : List ℕ). map low_byte (take (suc k) l) ++ todo cells (i + suc k) 6 g2) (sym d)

  stretch-first :
      {i j g0 : ℕ} → Stretch cells g0 i j → i < j → todo cells i g0 g2 ≡ map low_byte (take (j - i) (drop i cells)) ++ todo cells j g0 g2
  stretch-first {i} {j} s h =
      let q : i + (j - i) ≡ j = omega arith in
      rw (s.ascii h) (rw q at (plain-on (j - i) i (omega arith) (λ m a b. s.plain m a (omega arith))))

-- 1 while the set of the i-th cell is not in force
unfoldable pub waits : List ℕ → ℕ → ℕ → ℕ → ℕ
waits cells i g0 g2 = cond (eqb (cond (shift_set (set_at cells i)) g2 g0) (set_at cells i)) 0 1

abbrev pub turns_left : List ℕ → ℕ → ℕ → ℕ → ℕ
turns_left cells i g0 g2 = 2 * (length cells - i) + waits cells i g0 g2

zero-or-one : (t : Bool) → cond t 0 1 ≤ 1
zero-or-one true = omega arith
zero-or-one false = omega arith

waits-most : (cells : List ℕ) (i g0 g2 : ℕ) → waits cells i g0 g2 ≤ 1
unfolding waits
waits-most cells i g0 g2 = zero-or-one (eqb (cond (shift_set (set_at cells i)) g2 g0) (set_at cells i))

-- a cell further on, whatever is then in force
pub cell-less : (cells : List ℕ) (i j g0 g2 g0' g2' : ℕ) → i < j → i < length cells → turns_left cells j g0' g2' < turns_left cells i g0 g2
cell-less cells i j g0 g2 g0' g2' a b = omega (arith, waits-most cells j g0' g2')

-- a turn of a loop: a piece of what is to be written, and the index and the sets in force after it
pub record Turn (cells : List ℕ) (i g0 g2 : ℕ) (piece : List ℕ) (i' g0' g2' : ℕ) : Type 0 where
  pub cut : todo cells i g0 g2 ≡ piece ++ todo cells i' g0' g2'
  pub within : i' ≤ length cells
  pub base : shift_set g0' ≡ false
  pub less : turns_left cells i' g0' g2' < turns_left cells i g0 g2

pub turn-stretch :
    {cells : List ℕ} {i j g0 : ℕ} (g2 : ℕ) → Stretch cells g0 i j → i < j → shift_set g0 ≡ false →
    Turn cells i g0 g2 (map low_byte (take (j - i) (drop i cells))) j g0 g2
turn-stretch {cells} {i} {j} {g0} g2 s h b =
    record { cut = stretch-first cells g2 s h; within = s.within; base = b; less = cell-less cells i j g0 g2 g0 g2 h (omega arith) }

module _ {cells : List ℕ} {i : ℕ} (g0 g2 : ℕ) (h : i < length cells) where
  pub turn-base :
      set_at cells i ≡ g0 → shift_set g0 ≡ false → Turn cells i g0 g2 (base_of (set_at cells i) (code_at cells i)) (i + 1) g0 (g2_after cells i g2)
  turn-base e b =
      record {
        cut = base-first cells i h g0 g2 e (rw e b);
        within = omega arith;
        base = b;
        less = cell-less cells i (i + 1) g0 g2 g0 (g2_after cells i g2) (omega arith) h;
      }

  pub turn-shift :
      set_at cells i ≡ g2 → shift_set (set_at cells i) ≡ true → shift_set g0 ≡ false → Turn cells i g0 g2 (shifted_of (code_at cells i)) (i + 1) g0 g2
  turn-shift e s b =
      record { cut = shift-first cells i h g0 g2 e s; within = omega arith; base = b; less = cell-less cells i (i + 1) g0 g2 g0 g2 (omega arith) h }

  pub turn-g2 :
      (set_at cells i ≡ g2 → ⊥) → shift_set (set_at cells i) ≡ true → shift_set g0 ≡ false → Turn cells i g0 g2 (designation_of (set_at cells i)) i g0 (set_at cells i)
  turn-g2 ne s b =
      let n = set_at cells i in
      let x : waits cells i g0 n ≡ 0 = unfold waits in rw (s, eq-eqb n n refl) in
      let y : waits cells i g0 g2 ≡ 1 = unfold waits in rw (s, ne_eqb g2 n (λ e. ne (sym e))) in
      record { cut = g2-first cells i h g0 g2 ne s; within = omega arith; base = b; less = omega arith }

  pub turn-g0 :
      (set_at cells i ≡ g0 → ⊥) → shift_set (set_at cells i) ≡ false → Turn cells i g0 g2 (designation_of (set_at cells i)) i (set_at cells i) g2
  turn-g0 ne s =
      let n = set_at cells i in
      let x : waits cells i n g2 ≡ 0 = unfold waits in rw (s, eq-eqb n n refl) in
      let y : waits cells i g0 g2 ≡ 1 = unfold waits in rw (s, ne_eqb g0 n (λ e. ne (sym e))) in
      record { cut = g0-first cells i h g0 g2 ne s; within = omega arith; base = s; less = omega arith }

-- the return to ASCII
pub last-first : (cells : List ℕ) (i g0 g2 : ℕ) → length cells ≤ i → todo cells i g0 g2 ≡ designating g0 6
unfolding write_from
last-first cells i g0 g2 h = rw (drop_of_length-le cells h)

pub last_none : (cells : List ℕ) (i g0 g2 : ℕ) → length cells ≤ i → g0 ≡ 6 → todo cells i g0 g2 ≡ []
unfolding designating
last_none cells i g0 g2 h e = last-first cells i g0 g2 h ∙ rw (eq-eqb g0 6 e)

pub last_some : (cells : List ℕ) (i g0 g2 : ℕ) → length cells ≤ i → (g0 ≡ 6 → ⊥) → todo cells i g0 g2 ≡ designation_of 6
unfolding designating
last_some cells i g0 g2 h ne = last-first cells i g0 g2 h ∙ rw (ne_eqb g0 6 ne)
