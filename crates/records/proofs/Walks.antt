-- Laws of the walk over records, a turn of its loop at a time. Assumes nothing.
use Prim.Native.Nat.{ℕ, zero, suc, ◌+◌, ◌-◌, ◌≤◌, ◌<◌}
use mathlib.Core.Path.{◌≡◌, refl, sym, ap, ◌∙◌}
use mathlib.Core.Bool.{Bool, true, false, cond, ◌&&◌}
use mathlib.Core.List.{List, [], ◌∷◌}
use Rattle.std.specs.Prelude.{Option, None, Some}
use native.Mathlib.Omega.{arith}
use native.Mathlib.Numerals.{add-one}
use lib.ListN.{length, get_or, take, drop, length-drop, drop_of_length-le}
use lib.Seq.{slice, slice-cons, length-slice, drop-drop, drop-cons, length-take-le}
use lib.Dec.{leb}
use lib.Bits.{bit_or, or_add_and, or_comm, and_le_r}
use borrow.Author.Tests.{le-leb, lt-leb, eq-eqb, ne_eqb}
use Rattle.ledger.specs.Words.{Entry, size_of, onto, records_in, length_after, lengths_fit, reached, zeros}
use Rattle.records.specs.Walking.{Walk, walk_of, walk_in}

-- elements that are all 0, from a place on
module _ (s : List ℕ) (i : ℕ) where
  pub zeros-next : i < length s → get_or s i 0 ≡ 0 → zeros (drop i s) ≡ zeros (drop (i + 1) s)
  unfolding zeros
  zeros-next h e = rw (add-one, drop-cons s i 0 h, eq-eqb _ _ e)

  pub zeros-stop : i < length s → (get_or s i 0 ≡ 0 → ⊥) → zeros (drop i s) ≡ false
  unfolding zeros
  zeros-stop h n = rw (drop-cons s i 0 h, ne_eqb _ _ n)

  pub zeros-end : length s ≤ i → zeros (drop i s) ≡ true
  unfolding zeros
  zeros-end h = rw (drop_of_length-le s h)

-- of two numbers joined, the first is 0 where both are
join-zero : (a b : ℕ) → bit_or a b ≡ 0 → a ≡ 0
join-zero a b e = omega (arith, or_add_and a b, and_le_r a b)

-- one element more of a block
pub block-turn :
    (s : List ℕ) (at k all : ℕ) → at + k < length s → (all ≡ 0 → zeros (drop at s) ≡ zeros (drop (at + k) s)) →
    bit_or all (get_or s (at + k) 0) ≡ 0 → zeros (drop at s) ≡ zeros (drop (at + (k + 1)) s)
block-turn s at k all h before e =
    let n : at + k + 1 ≡ at + (k + 1) = omega arith in
    let x : ℕ = get_or s (at + k) 0 in
    before (join-zero all x e) ∙ zeros-next s (at + k) h (join-zero x all (or_comm x all ∙ e)) ∙ ap (λ (j : ℕ). zeros (drop j s)) n

-- the bound on the number of records does not matter where it is enough
pub records-enough : (n m : ℕ) (ws : List ℕ) → length ws ≤ n → length ws ≤ m → records_in n ws ≡ records_in m ws
unfolding records_in
records-enough zero zero ws p q = refl
records-enough zero (suc m) [] p q = refl
records-enough zero (suc m) (x ∷ ws) p q = absurd (omega arith)
records-enough (suc n) zero [] p q = refl
records-enough (suc n) zero (x ∷ ws) p q = absurd (omega arith)
records-enough (suc n) (suc m) [] p q = refl
records-enough (suc n) (suc m) (x ∷ []) p q = refl
records-enough (suc n) (suc m) (x ∷ y ∷ []) p q = refl
records-enough (suc n) (suc m) (x ∷ r ∷ a ∷ ws) p q =
    rw (records-enough n m (drop (r + a) ws) (omega (arith, length-drop (r + a) ws)) (omega (arith, length-drop (r + a) ws)))

broken-both : (t : Bool) → ◌≡◌ {A = Walk} (cond t None None) None
broken-both true = refl
broken-both false = refl

cond-and : (t u : Bool) (x y : Walk) → cond (t && u) x y ≡ cond t (cond u x y) y
cond-and true u x y = refl
cond-and false u x y = refl

-- a record more at the front
onto-walk :
    (room at len last : ℕ) (e : Entry) (x : Option (List Entry)) →
    walk_of room at len last (onto e x)
    ≡ cond (leb (e.place + length e.removed) len && leb (length_after len e) room) (walk_of room (at + size_of e) (length_after len e) at x) None
unfolding lengths_fit reached
onto-walk room at len last e None = sym (broken-both (leb (e.place + length e.removed) len && leb (length_after len e) room))
onto-walk room at len last e (Some es) =
    cond-and (leb (e.place + length e.removed) len && leb (length_after len e) room) (lengths_fit room (length_after len e) es) _ _

-- fewer words than a record's first three
pub words-cut : (room at len last : ℕ) (ws : List ℕ) → 0 < length ws → length ws < 3 → walk_in room at len last ws ≡ None
unfolding records_in
words-cut room at len last [] p q = absurd (omega arith)
words-cut room at len last (x ∷ []) p q = refl
words-cut room at len last (x ∷ y ∷ []) p q = refl
words-cut room at len last (x ∷ y ∷ z ∷ ws) p q = absurd (omega arith)

module _ (room at len last p r a : ℕ) (ws : List ℕ) where
  pub words-past : length ws < r + a → walk_in room at len last (p ∷ r ∷ a ∷ ws) ≡ None
  unfolding records_in
  words-past q = rw (lt-leb (r + a) (length ws) q)

  pub words-here :
      r + a ≤ length ws →
      walk_in room at len last (p ∷ r ∷ a ∷ ws)
      ≡ cond (leb (p + r) len && leb (len - r + a) room) (walk_in room (at + (3 + r + a)) (len - r + a) at (drop (r + a) ws)) None
  unfolding records_in
  words-here q =
      let lr : length (take r ws) ≡ r = length-take-le r ws (omega arith) in
      let la : length (take a (drop r ws)) ≡ a = length-take-le a (drop r ws) (omega (arith, length-drop r ws)) in
      let n : ℕ = length (drop (r + a) ws) in
      let enough : records_in (suc (suc (length ws))) (drop (r + a) ws) ≡ records_in n (drop (r + a) ws) =
      records-enough (suc (suc (length ws))) n (drop (r + a) ws) (omega (arith, length-drop (r + a) ws)) (omega arith) in
      rw (le-leb (r + a) (length ws) q)
      (onto-walk room at len last (record { place = p; removed = take r ws; added = take a (drop r ws) }) (records_in (suc (suc (length ws))) (drop (r + a) ws))
      ∙ rw (lr, la, enough))

-- a turn of the loop, at a word of the history before `to`
module _ (h : List ℕ) (to room at len last : ℕ) (fits : to ≤ length h) where
  abbrev here : Walk
  here = walk_in room at len last (slice at to h)

  pub walk_end : to ≤ at → here ≡ Some (len, last)
  unfolding records_in lengths_fit reached
  walk_end q = rw (drop_of_length-le (take to h) {i = at} (omega (arith, length-take-le to h fits)))

  pub walk-cut : at < to → to - at < 3 → here ≡ None
  walk-cut p q = words-cut room at len last (slice at to h) (omega (arith, length-slice at to h fits)) (omega (arith, length-slice at to h fits))

  next_word : (k : ℕ) → k < to → slice k to h ≡ get_or h k 0 ∷ slice (k + 1) to h
  next_word k q = rw (add-one k) (slice-cons k to h 0 q fits)

  -- the three words that were read there
  module _ (place removed added : ℕ) (p : place ≡ get_or h at 0) (r : removed ≡ get_or h (at + 1) 0) (a : added ≡ get_or h (at + 2) 0) (three : 3 ≤ to - at) where
    abbrev rest : List ℕ
    rest = slice (at + 3) to h

    first_three : slice at to h ≡ place ∷ removed ∷ added ∷ rest
    first_three =
        let two : at + 1 + 1 ≡ at + 2 = omega arith in
        let all : at + 2 + 1 ≡ at + 3 = omega arith in
        rw (p, r, a, next_word at (omega arith), next_word (at + 1) (omega arith), two, next_word (at + 2) (omega arith), all)

    length_rest : length rest ≡ to - at - 3
    length_rest = omega (arith, length-slice (at + 3) to h fits)

    pub walk-past : to - at < 3 + removed + added → here ≡ None
    walk-past q = rw first_three (words-past room at len last place removed added rest (omega (arith, length_rest)))

    module _ (whole : 3 + removed + added ≤ to - at) where
      abbrev after : ℕ
      after = len - removed + added

      abbrev next : ℕ
      next = at + (3 + removed + added)

      rest-next : drop (removed + added) rest ≡ slice next to h
      rest-next =
          let n : at + 3 + (removed + added) ≡ next = omega arith in
          drop-drop (removed + added) (at + 3) (take to h) ∙ ap (λ (k : ℕ). slice k to h) n

      stepped : here ≡ cond (leb (place + removed) len && leb after room) (walk_in room next after at (slice next to h)) None
      stepped = rw (first_three, ← rest-next) (words-here room at len last place removed added rest (omega (arith, length_rest)))

      pub walk-beyond : len < place + removed → here ≡ None
      walk-beyond q = stepped ∙ rw (lt-leb (place + removed) len q)

      pub walk-long : place + removed ≤ len → room < after → here ≡ None
      walk-long q t = stepped ∙ rw (le-leb (place + removed) len q, lt-leb after room t)

      pub walk-next : place + removed ≤ len → after ≤ room → here ≡ walk_in room next after at (slice next to h)
      walk-next q t = stepped ∙ rw (le-leb (place + removed) len q, le-leb after room t)
