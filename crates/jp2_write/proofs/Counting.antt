-- The survey: cells are judged, and their bytes are counted. Assumes nothing.
use Prim.Native.Nat.{ℕ, zero, suc, ◌+◌, ◌*◌, ◌-◌, ◌/◌, ◌%◌, ◌^◌, ◌<◌, ◌≤◌}
use mathlib.Core.Path.{◌≡◌, refl, sym, ap, ◌∙◌}
use mathlib.Core.Bool.{Bool, true, false, cond, not, and-false}
use mathlib.Core.List.{List, [], ◌∷◌, ◌++◌, map}
use mathlib.Core.Logic.{inl, inr, ⊎_elim}
use native.Mathlib.Omega.{arith}
use native.Mathlib.Nat.{add-zero}
use lib.ListN.{length, get_or, take, drop, length-append, length-map, length-drop, get_or-eq_default}
use lib.Seq.{length-take-le}
use lib.Dec.{ltb, eqb, lit<}
use borrow.Author.Tests.{le-leb, ltb-true, ltb-false, eqb-true, eq-eqb, ne_eqb}
use Rattle.answer.proofs.Below.{cond-case}
use Rattle.jp2.specs.Table.{designations, no_row, row_at, sent, row_of_number}
use Rattle.jp2.specs.Rule.{cell_of}
use Rattle.jp2.specs.Writable.{set_of, code_of, ascii, pair_set, shift_set, codes, writable}
use Rattle.jp2.specs.Writing.{Force, force, designating, spell, force_after, write_from, writing}
use Rattle.jp2.proofs.Sets.{differs, codes-shift}
use Rattle.jp2.proofs.Search.{Passed, passed_on}
use Rattle.jp2.proofs.Table.{rows, row-size, row-most}
use Rattle.jp2_write.specs.Pieces.{designation_of, body_size, base_of, shifted_of, one_of, low_byte, after_cr, g2_after, Plain, Stretch, Ready, Run}
use Rattle.jp2_write.proofs.Cells.{base-length, code_is, code_at, set_at, todo}
use Rattle.jp2_write.proofs.Turns.{Turn, turn-base, turn-shift, turns_left, cell-less}

-- a turn, by its count of bytes alone
pub record Grows (cells : List ℕ) (i g0 g2 k i' g0' g2' : ℕ) : Type 0 where
  pub sum : length (todo cells i g0 g2) ≡ k + length (todo cells i' g0' g2')
  pub within : i' ≤ length cells
  pub base : shift_set g0' ≡ false
  pub less : turns_left cells i' g0' g2' < turns_left cells i g0 g2

pub grows :
    {cells : List ℕ} {i g0 g2 k : ℕ} {piece : List ℕ} {i' g0' g2' : ℕ} → Turn cells i g0 g2 piece i' g0' g2' → k ≡ length piece →
    Grows cells i g0 g2 k i' g0' g2'
grows {cells} {piece = piece} {i'} {g0'} {g2'} t e =
    record {
      sum = omega (arith, ap length t.cut, length-append piece (todo cells i' g0' g2'));
      within = t.within;
      base = t.base;
      less = t.less;
    }

pub stretch-length :
    {cells : List ℕ} {g0 i j : ℕ} → Stretch cells g0 i j → length (map low_byte (take (j - i) (drop i cells))) ≡ j - i
stretch-length {cells} {i = i} {j} s = simp length-map (length-take-le (j - i) (drop i cells) (omega (arith, length-drop i cells)))

-- a cell that is ready
module _ (v g0 g2 : ℕ) where
  abbrev pub ready_size : ℕ
  ready_size = cond (ltb 127 (code_of v)) 0 (cond (ltb (code_of v) 32) 0 (cond (eqb (set_of v) g2) 3 (cond (eqb (set_of v) 6) 1 0)))

  pub ready_by : g0 ≡ 6 → shift_set g2 ≡ true → 0 < ready_size → Ready v g0 g2 ready_size
  ready_by e s =
      let P : ℕ → Type 0 = λ r. 0 < r → Ready v g0 g2 r in
      cond-case P (ltb 127 (code_of v)) (λ _ h. absurd (omega arith))
      (λ a. cond-case P (ltb (code_of v) 32) (λ _ h. absurd (omega arith))
      (λ b. let most = ltb-false 127 (code_of v) a in
      let least = ltb-false (code_of v) 32 b in
      cond-case P (eqb (set_of v) g2)
      (λ q _. record { ascii = e; shift = s; least = least; most = most; stands = inr (eqb-true (set_of v) g2 q, refl) })
      (λ _. cond-case P (eqb (set_of v) 6)
      (λ q _. record { ascii = e; shift = s; least = least; most = most; stands = inl (eqb-true (set_of v) 6 q, refl) })
      (λ _ h. absurd (omega arith)))))

-- ASCII from the space to DEL is writable
ascii-writable : (v : ℕ) → set_of v ≡ 6 → 32 ≤ code_of v → code_of v ≤ 127 → writable v ≡ true
unfolding writable codes ascii
ascii-writable v n a b =
    rw (n, le-leb (code_of v) 127 b)
    (simp (ne_eqb (code_of v) 14 (λ (e : code_of v ≡ 14). omega arith), ne_eqb (code_of v) 15 (λ (e : code_of v ≡ 15). omega arith), ne_eqb (code_of v) 27 (λ (e : code_of v ≡ 27). omega arith)))

plain-writable : {v : ℕ} → Plain v → writable v ≡ true
plain-writable {v} p = ascii-writable v (omega arith) (omega arith) (omega arith)

pub ready-writable : {v g0 g2 k : ℕ} → Ready v g0 g2 k → writable v ≡ true
unfolding writable
ready-writable {v} {g2 = g2} r =
    ⊎_elim (λ q. ascii-writable v q.0 r.least r.most)
    (λ q. let s : shift_set (set_of v) ≡ true = rw q.0 r.shift in codes-shift (set_of v) (code_of v) s ∙ rw (le-leb 32 (code_of v) r.least) (le-leb (code_of v) 127 r.most))
    r.stands

g2-kept : (cells : List ℕ) (i g2 : ℕ) → 32 ≤ code_at cells i → g2_after cells i g2 ≡ g2
unfolding g2_after
g2-kept cells i g2 a =
    let lf : eqb (get_or cells i 0) (cell_of 6 10) ≡ false = ne_eqb (get_or cells i 0) (cell_of 6 10) (λ (e : get_or cells i 0 ≡ cell_of 6 10). omega arith) in
    rw (lf, and-false (after_cr cells i))

base-one : (n c k : ℕ) → n ≡ 6 → k ≡ 1 → k ≡ length (base_of n c)
unfolding base_of pair_set
base-one n c k e d = rw e d

pub ready-grows :
    {cells : List ℕ} {i : ℕ} (g0 g2 k : ℕ) → i < length cells → Ready (get_or cells i 0) g0 g2 k → shift_set g0 ≡ false →
    Grows cells i g0 g2 k (i + 1) g0 g2
ready-grows {cells = cells} {i = i} g0 g2 k h r b =
    ⊎_elim
    (λ (q : (set_at cells i ≡ 6) × (k ≡ 1)). let t : Grows cells i g0 g2 k (i + 1) g0 (g2_after cells i g2) =
    grows (turn-base g0 g2 h (q.0 ∙ sym r.ascii) b) (base-one (set_at cells i) (code_at cells i) k q.0 q.1) in
    rw (g2-kept cells i g2 r.least) at t)
    (λ (q : (set_at cells i ≡ g2) × (k ≡ 3)). grows (turn-shift g0 g2 h q.0 (rw q.0 r.shift) b) q.1)
    r.stands

-- a cell whose set is in force
shift_kept : (cells : List ℕ) (i g2 : ℕ) → shift_set (set_at cells i) ≡ true → g2_after cells i g2 ≡ g2
unfolding g2_after
shift_kept cells i g2 s =
    rw (← code_is (get_or cells i 0) 10 (lit< tt), differs shift_set (set_at cells i) 6 s (unfold shift_set in refl), and-false (after_cr cells i))

pub body-grows :
    {cells : List ℕ} {i : ℕ} (g0 g2 : ℕ) → i < length cells → shift_set g0 ≡ false → 0 < body_size (set_at cells i) g0 g2 →
    Grows cells i g0 g2 (body_size (set_at cells i) g0 g2) (i + 1) g0 (g2_after cells i g2)
unfolding body_size
body-grows {cells} {i} g0 g2 h b =
    let n = set_at cells i in
    let P : ℕ → Type 0 = λ k. 0 < k → Grows cells i g0 g2 k (i + 1) g0 (g2_after cells i g2) in
    cond-case P (shift_set n)
    (λ s. cond-case P (eqb n g2) (λ e _. rw (shift_kept cells i g2 s) (grows (turn-shift g0 g2 h (eqb-true n g2 e) s b) refl)) (λ _ k. absurd (omega arith)))
    (λ _. cond-case P (eqb n g0) (λ e _. grows (turn-base g0 g2 h (eqb-true n g0 e) b) (sym (base-length n (code_at cells i)))) (λ _ k. absurd (omega arith)))

-- a cell whose set is not in force
pub not-g2 : (n g0 g2 : ℕ) → shift_set n ≡ true → body_size n g0 g2 ≤ 0 → n ≡ g2 → ⊥
unfolding body_size
not-g2 n g0 g2 s h e = let k : body_size n g0 g2 ≡ 3 = rw (s, eq-eqb n g2 e) in omega arith

one-or-two : (t : Bool) → 0 < cond t 2 1
one-or-two true = omega arith
one-or-two false = omega arith

pub not-g0 : (n g0 g2 : ℕ) → shift_set n ≡ false → body_size n g0 g2 ≤ 0 → n ≡ g0 → ⊥
unfolding body_size
not-g0 n g0 g2 s h e = let k : body_size n g0 g2 ≡ cond (pair_set n) 2 1 = rw (s, eq-eqb n g0 e) in omega (arith, one-or-two (pair_set n))

-- every cell before an index is writable
abbrev pub Judged : List ℕ → ℕ → Type 0
Judged cells i = Passed (λ v. not (writable v)) cells i

pub judged-on : {cells : List ℕ} {i : ℕ} → Judged cells i → i < length cells → writable (get_or cells i 0) ≡ true → Judged cells (i + 1)
judged-on p h w = passed_on p 0 h (rw w)

judged-part :
    {cells : List ℕ} (k i : ℕ) → Judged cells i → i + k ≤ length cells → ((m : ℕ) → i ≤ m → m < i + k → writable (get_or cells m 0) ≡ true) → Judged cells (i + k)
judged-part zero i p h q = rw add-zero p
judged-part {cells} (suc k) i p h q =
    let e : i + 1 + k ≡ i + suc k = omega arith in
    rw e at
    (judged-part {cells = cells} k (i + 1) (judged-on p (omega arith) (q i (omega arith) (omega arith))) (omega arith)
    (λ m a b. q m (omega arith) (omega arith)))

pub judged-to : {cells : List ℕ} {i j : ℕ} → Judged cells i → i ≤ j → j ≤ length cells → ((m : ℕ) → i ≤ m → m < j → writable (get_or cells m 0) ≡ true) → Judged cells j
judged-to {cells} {i} {j} p h k q =
    let e : i + (j - i) ≡ j = omega arith in
    rw e at (judged-part (j - i) i p (omega arith) (λ m a b. q m a (omega arith)))

pub judged-stretch : {cells : List ℕ} {g0 i j : ℕ} → Judged cells i → Stretch cells g0 i j → Judged cells j
judged-stretch p s = judged-to p s.after s.within (λ m a b. plain-writable (s.plain m a b))

-- a run of cells that are ready
pub run-stay : (cells : List ℕ) (g0 g2 from : ℕ) → from ≤ length cells → Run cells g0 g2 from from 0
run-stay cells g0 g2 from h =
    record { after = omega arith; within = h; sum = omega arith; most = omega arith; may = λ k a b. absurd (omega arith) }

ready-base : {v g0 g2 k : ℕ} → Ready v g0 g2 k → shift_set g0 ≡ false
unfolding shift_set
ready-base r = rw r.ascii

base-six : (n c : ℕ) → n ≡ 6 → base_of n c ≡ c ∷ []
unfolding base_of pair_set
base-six n c e = rw e

pub ready-turn : {cells : List ℕ} {i g0 g2 k : ℕ} → i < length cells → Ready (get_or cells i 0) g0 g2 k → Turn cells i g0 g2 (one_of (code_at cells i) k) (i + 1) g0 g2
unfolding one_of
ready-turn {cells} {i} {g0} {g2} {k} h r =
    ⊎_elim
    (λ (q : (set_at cells i ≡ 6) × (k ≡ 1)).
    let t : Turn cells i g0 g2 (base_of (set_at cells i) (code_at cells i)) (i + 1) g0 (g2_after cells i g2) = turn-base g0 g2 h (q.0 ∙ sym r.ascii) (ready-base r) in
    rw q.1 (rw (g2-kept cells i g2 r.least, base-six (set_at cells i) (code_at cells i) q.0) at t))
    (λ (q : (set_at cells i ≡ g2) × (k ≡ 3)). rw q.1 (turn-shift g0 g2 h q.0 (rw q.0 r.shift) (ready-base r)))
    r.stands

pub ready-most : {v g0 g2 k : ℕ} → Ready v g0 g2 k → k ≤ 3
ready-most {v} {g2 = g2} {k} r = ⊎_elim (λ (q : (set_of v ≡ 6) × (k ≡ 1)). omega (arith, q.1)) (λ (q : (set_of v ≡ g2) × (k ≡ 3)). omega (arith, q.1)) r.stands

pub ready-some : {v g0 g2 k : ℕ} → Ready v g0 g2 k → 0 < k
ready-some {v} {g2 = g2} {k} r = ⊎_elim (λ (q : (set_of v ≡ 6) × (k ≡ 1)). omega (arith, q.1)) (λ (q : (set_of v ≡ g2) × (k ≡ 3)). omega (arith, q.1)) r.stands

pub run_on : {cells : List ℕ} {g0 g2 from i n k : ℕ} → Run cells g0 g2 from i n → i < length cells → Ready (get_or cells i 0) g0 g2 k → Run cells g0 g2 from (i + 1) (n + k)
run_on {cells} {g0} {g2} {from} {i} {n} {k} p h r =
    let g = ready-grows {cells = cells} {i = i} g0 g2 k h r (ready-base r) in
    record {
      after = omega (arith, p.after);
      within = omega arith;
      sum = omega (arith, p.sum, g.sum);
      most = omega (arith, p.most, p.after, ready-most r);
      may = λ m a b. by m a b (ltb m i) refl;
    }
  where
    by : (m : ℕ) → from ≤ m → m < i + 1 → (t : Bool) → ltb m i ≡ t → writable (get_or cells m 0) ≡ true
    by m a b true e = p.may m a (ltb-true m i e)
    by m a b false e =
        let q : m ≡ i = omega (arith, ltb-false m i e) in
        rw q (ready-writable r)

pub run-grows : {cells : List ℕ} {g0 g2 i k to n : ℕ} → Grows cells i g0 g2 k (i + 1) g0 g2 → Run cells g0 g2 (i + 1) to n → Grows cells i g0 g2 (k + n) to g0 g2
run-grows {cells} {g0} {g2} {i} {k} {to} {n} g r =
    record {
      sum = omega (arith, g.sum, r.sum);
      within = r.within;
      base = g.base;
      less = cell-less cells i to g0 g2 g0 g2 (omega (arith, r.after)) (omega (arith, g.within));
    }

-- any cells have a small writing
escape-most : (i : ℕ) → length (sent (row_at i)) ≤ 4
escape-most i = by (ltb i 9) refl
  where
    by : (t : Bool) → ltb i 9 ≡ t → length (sent (row_at i)) ≤ 4
    by true e = omega (arith, row-size (ltb-true i 9 e) refl, row-most (ltb-true i 9 e) refl)
    by false e =
        let n : row_at i ≡ no_row = get_or-eq_default designations no_row (omega (arith, ltb-false i 9 e, rows)) in
        rw n (omega arith)

designating-most : (now n : ℕ) → length (designating now n) ≤ 4
unfolding designating
designating-most now n =
    cond-case (λ (l : List ℕ). length l ≤ 4) (eqb now n) {a = []} {b = designation_of n} (λ _. omega arith) (λ _. escape-most (row_of_number n))

spell-most : (f : Force) (n c : ℕ) → length (spell f n c) ≤ 7
unfolding spell
spell-most f n c =
    cond-case (λ (l : List ℕ). length l ≤ 7) (shift_set n) {a = designating f.g2 n ++ shifted_of c}
    {b = designating f.g0 n ++ cond (pair_set n) (c / 256 ∷ c % 256 ∷ []) (c ∷ [])}
    (λ _. simp length-append (omega (arith, designating-most f.g2 n)))
    (λ _. simp length-append (omega (arith, designating-most f.g0 n, body-most)))
  where
    body-most : length (cond (pair_set n) (c / 256 ∷ c % 256 ∷ []) (c ∷ [])) ≤ 2
    body-most =
        cond-case (λ (l : List ℕ). length l ≤ 2) (pair_set n) {a = c / 256 ∷ c % 256 ∷ []} {b = c ∷ []} (λ _. omega arith) (λ _. omega arith)

from-most : (vs : List ℕ) (f : Force) → length (write_from vs f) ≤ 7 * length vs + 4
unfolding write_from
from-most [] f = designating-most f.g0 6
from-most (v ∷ vs) f =
    simp length-append (omega (arith, spell-most f (set_of v) (code_of v), from-most vs (force_after f (set_of v) (code_of v))))

pub writing-most : (cells : List ℕ) → length (writing cells) ≤ 7 * length cells + 4
unfolding writing
writing-most cells = from-most cells (force 6 0 false)

-- the cells judged and the bytes counted so far
pub record Counted (cells : List ℕ) (i g0 g2 total : ℕ) : Type 0 where
  pub judged : Judged cells i
  pub sum : total + length (todo cells i g0 g2) ≡ length (writing cells)
  pub within : i ≤ length cells
  pub base : shift_set g0 ≡ false
  pub small : length (writing cells) < 2 ^ 35

module _ {cells : List ℕ} {i g0 g2 total k i' g0' g2' : ℕ} (p : Counted cells i g0 g2 total) (t : Grows cells i g0 g2 k i' g0' g2') where
  pub counted-on : Judged cells i' → Counted cells i' g0' g2' (total + k)
  counted-on j = record { judged = j; sum = omega (arith, p.sum, t.sum); within = t.within; base = t.base; small = p.small }

  pub counted-fits : total + k < 2 ^ 35
  counted-fits = omega (arith, p.sum, t.sum, p.small)
