-- Designations, found by one search of the table, and the step past them. Assumes nothing.
use Prim.Native.Nat.{ℕ, zero, suc, ◌+◌, ◌*◌, ◌/◌, ◌%◌, ◌<◌, ◌≤◌}
use mathlib.Core.Path.{◌≡◌, refl, sym, ap, ◌∙◌}
use mathlib.Core.Bool.{Bool, true, false, cond, ◌&&◌, false≢true}
use mathlib.Core.List.{List, [], ◌∷◌, ◌++◌}
use mathlib.Core.Logic.{◌⊎◌, ⊎_elim, inl, inr}
use native.Mathlib.Omega.{arith}
use native.Mathlib.Numerals.{add-one}
use lib.ListN.{length, get_or, drop}
use lib.Seq.{drop-cons, drop-drop, drop_at}
use lib.Dec.{leb, eqb, lit<}
use borrow.Author.Tests.{eqb-true, eqb-false, eq-eqb, ne_eqb, le-leb, leb-true, lt-leb}
use Rattle.answer.proofs.Below.{both, cond-case, all_below, below}
use Rattle.reading.specs.Stepping.{next_from}
use Rattle.reading.proofs.Walk.{Walk, stay, gives, goes}
use Rattle.jp2.specs.Table.{designations, no_row, row_at, sent, begins}
use Rattle.jp2.specs.Rule.{State, plain, state, jp2}
use Rattle.jp2.specs.Spans.{span_in}
use Rattle.jp2.specs.declared.Designation.{Designation}
use Rattle.jp2.proofs.Search.{at-any}
use Rattle.jp2.proofs.Table.{rows, row-walk, table-rule, row-size}
use Rattle.jp2_read.specs.Escapes.{code_of, code_among, code_at, four_at, to_g2, g0_after, g2_after, sends}
use Rattle.reading.specs.Decoding.{step_from, Leads}
use Rattle.jp2_read.specs.Cursor.{jp2_code}
use Rattle.jp2_read.specs.Passing as between

-- the state between cells
abbrev pub at_rest : ℕ → ℕ → State
at_rest g0 g2 = state g0 g2 plain

-- ESC and these bytes start with what a row sends
pub record Designates (a b c r : ℕ) : Type 0 where
  pub row : ℕ
  pub known : row < 9
  pub code : r ≡ code_of (row_at row)
  pub bytes : begins (sent (row_at row)) (27 ∷ a ∷ b ∷ c ∷ []) ≡ true

-- a row stands at a place
abbrev pub Stands : List ℕ → ℕ → ℕ → Type 0
Stands s at r = (get_or s at 0 ≡ 27) × ((at + 4 ≤ length s) × Designates (get_or s (at + 1) 0) (get_or s (at + 2) 0) (get_or s (at + 3) 0) r)

begins-front : (l m r : List ℕ) → begins l m ≡ true → m ++ r ≡ l ++ drop (length l) (m ++ r)
unfolding begins
begins-front [] m r e = refl
begins-front (a ∷ l) [] r e = absurd (false≢true e)
begins-front (a ∷ l) (b ∷ m) r e =
    let q = guard (eqb a b) (begins l m) e in
    rw (eqb-true a b q.0) (ap (λ (z : List ℕ). b ∷ z) (begins-front l m r q.1))
  where
    guard : (s t : Bool) → cond s t false ≡ true → (s ≡ true) × (t ≡ true)
    guard true t e = (refl, e)
    guard false t e = absurd (false≢true e)

-- the code of a row says its length, where it goes, and its number
abbrev decoded : ℕ → Bool
decoded i =
    eqb (code_of (row_at i) % 8) (length (sent (row_at i)))
    && (eqb (code_of (row_at i) / 8 % 8) (row_at i).to && eqb (code_of (row_at i) / 64) (row_at i).number)

code-says : (i : ℕ) → i < 9 → (code_of (row_at i) % 8 ≡ length (sent (row_at i))) × ((code_of (row_at i) / 8 % 8 ≡ (row_at i).to) × (code_of (row_at i) / 64 ≡ (row_at i).number))
unfolding all_below designations
code-says i h =
    let q = both (eqb (code_of (row_at i) % 8) (length (sent (row_at i)))) _ (below decoded 9 refl i h) in
    let r = both (eqb (code_of (row_at i) / 8 % 8) (row_at i).to) _ q.1 in
    (eqb-true _ _ q.0, (eqb-true _ _ r.0, eqb-true _ _ r.1))

four_bytes :
    (s : List ℕ) (at : ℕ) → at + 4 ≤ length s →
    drop at s ≡ (get_or s at 0 ∷ get_or s (at + 1) 0 ∷ get_or s (at + 2) 0 ∷ get_or s (at + 3) 0 ∷ []) ++ drop (at + 4) s
four_bytes s at h =
    let one : (i j : ℕ) → i + 1 ≡ j → j ≤ length s → drop i s ≡ get_or s i 0 ∷ drop j s =
    λ i j e k. rw (← e, add-one i) (drop-cons s i 0 (omega arith)) in
    one at (at + 1) refl (omega arith)
    ∙ ap (λ (z : List ℕ). get_or s at 0 ∷ z)
    (one (at + 1) (at + 2) (omega arith) (omega arith)
    ∙ ap (λ (z : List ℕ). get_or s (at + 1) 0 ∷ z)
    (one (at + 2) (at + 3) (omega arith) (omega arith)
    ∙ ap (λ (z : List ℕ). get_or s (at + 2) 0 ∷ z) (one (at + 3) (at + 4) (omega arith) (omega arith))))

-- the sets after a row, by its code
after-row : (t : Bool) (g0 g2 n : ℕ) → cond t (at_rest g0 n) (at_rest n g2) ≡ at_rest (cond t g0 n) (cond t n g2)
after-row true g0 g2 n = refl
after-row false g0 g2 n = refl

-- the numbers are small
small-number : (i : ℕ) → i < 9 → code_of (row_at i) / 64 % 65536 ≡ code_of (row_at i) / 64
unfolding all_below designations
small-number i h = eqb-true _ _ (below (λ i. eqb (code_of (row_at i) / 64 % 65536) (code_of (row_at i) / 64)) 9 refl i h)

pub code-length : {a b c r : ℕ} → Designates a b c r → (3 ≤ r % 8) × (r % 8 ≤ 4)
code-length d =
    let q = (code-says d.row d.known).0 in
    let z = row-size d.known refl in
    let t = table-rule d.row d.known in
    rw (d.code, q, z) (t.least, t.most)

-- the step goes along a walk that gives no cell
next-walk :
    {st end : State} {bs cs : List ℕ} (size : ℕ) → Walk jp2 st bs cs end → cs ≡ [] → (rest : List ℕ) (at at' handed : ℕ) → at + length bs ≡ at' →
    next_from jp2 span_in size (bs ++ rest) (record { at = at; handed = handed; state = st }) ≡ next_from jp2 span_in size rest (record { at = at'; handed = handed; state = end })
unfolding next_from
next-walk size stay z rest at at' handed e =
    let q : at ≡ at' = omega arith in
    rw q
next-walk size (gives q w) z rest at at' handed e = absurd (omega (arith, ap length z))
next-walk size (goes q w) z rest at at' handed e = rw q (next-walk size w z rest (at + 1) at' handed (omega arith))

-- its length
pub row-says : {a b c r : ℕ} (d : Designates a b c r) → r % 8 ≡ length (sent (row_at d.row))
row-says d = rw d.code (code-says d.row d.known).0

-- a row's bytes, where it stands, and the rest of the text; the sets after it are the table's
pub row-bytes : (s : List ℕ) (at r : ℕ) (d : Stands s at r) → drop at s ≡ sent (row_at d.1.1.row) ++ drop (r % 8) (four_at s at ++ drop (at + 4) s)
row-bytes s at r d =
    let w = d.1.1 in
    rw (w.code, (code-says w.row w.known).0, four_bytes s at d.1.0, d.0) (begins-front (sent (row_at w.row)) _ (drop (at + 4) s) w.bytes)

pub row-sets :
    {a b c r : ℕ} (g0 g2 : ℕ) (d : Designates a b c r) →
    at_rest (g0_after g0 r) (g2_after g2 r) ≡ cond (eqb (row_at d.row).to 2) (at_rest g0 (row_at d.row).number) (at_rest (row_at d.row).number g2)
row-sets {a} {b} {c} {r} g0 g2 d =
    let q = code-says d.row d.known in
    rw (← after-row (to_g2 r) g0 g2 (r / 64 % 65536), d.code, small-number d.row d.known, q.1.0, q.1.1)

pub designation-passes :
    {s : List ℕ} {at r : ℕ} (g0 g2 : ℕ) → Stands s at r → Leads jp2_code s at (between.at_rest g0 g2) (at + r % 8) (between.at_rest (g0_after g0 r) (g2_after g2 r))
unfolding step_from
designation-passes {s} {at} {r} g0 g2 h =
    let d = h.1.1 in
    let bs = sent (row_at d.row) in
    let f = row-bytes s at r h in
    let l = code-length d in
    let z = sym (row-says d) in
    let g = sym (drop-drop (r % 8) at s) ∙ ap (drop (r % 8)) f ∙ drop_at bs (drop (r % 8) (four_at s at ++ drop (at + 4) s)) (r % 8) z in
    record {
      on = omega arith;
      settled = tt;
      same = λ handed.
          rw (row-sets g0 g2 d, f, g)
          (next-walk (length s) (row-walk g0 g2 d.row d.known false) refl _ at (at + r % 8) handed (rw z));
    }

-- a row of the whole table
pub row_of : {t : List Designation} {i : ℕ} (e : Designation) → t ≡ designations → i < 9 → get_or t i e ≡ row_at i
row_of {t} {i} e q h = rw q (at-any designations i e no_row (rw rows h))

-- the search: two bytes in one number
joined_same : (x y a b : ℕ) → y < 256 → b < 256 → eqb (x * 256 + y) (a * 256 + b) ≡ (eqb x a && eqb y b)
joined_same x y a b h k = go-by (eqb x a) (eqb y b) refl refl
  where
    go-by : (t u : Bool) → eqb x a ≡ t → eqb y b ≡ u → eqb (x * 256 + y) (a * 256 + b) ≡ (eqb x a && eqb y b)
    go-by true true e f = rw (e, f) (eq-eqb (x * 256 + y) (a * 256 + b) (omega (arith, eqb-true x a e, eqb-true y b f)))
    go-by true false e f = rw (e, f) (ne_eqb (x * 256 + y) (a * 256 + b) (λ q. eqb-false y b f (omega arith)))
    go-by false u e f = rw e (ne_eqb (x * 256 + y) (a * 256 + b) (λ q. eqb-false x a e (omega arith)))

-- an escape of three bytes, and one of four
sends-three :
    (x y z a b c : ℕ) → y < 256 → b < 256 → (y ≡ 40 → ⊥) →
    (eqb (x * 256 + y) (a * 256 + b) && cond (eqb b 40) (eqb z c) true) ≡ cond (eqb x a) (cond (eqb y b) true false) false
sends-three x y z a b c h k n = rw (joined_same x y a b h k) (go-by (eqb x a) (eqb y b) refl)
  where
    go-by : (t u : Bool) → eqb y b ≡ u → ((t && u) && cond (eqb b 40) (eqb z c) true) ≡ cond t (cond u true false) false
    go-by true true e = rw (← eqb-true y b e, ne_eqb y 40 n)
    go-by true false e = refl
    go-by false u e = refl

sends-four :
    (x z a b c : ℕ) → b < 256 →
    (eqb (x * 256 + 40) (a * 256 + b) && cond (eqb b 40) (eqb z c) false) ≡ cond (eqb x a) (cond (eqb 40 b) (cond (eqb z c) true false) false) false
sends-four x z a b c k = rw (joined_same x 40 a b (lit< tt) k) (go-by (eqb x a) (eqb 40 b) (eqb z c) refl)
  where
    go-by : (t u v : Bool) → eqb 40 b ≡ u → ((t && u) && cond (eqb b 40) v false) ≡ cond t (cond u (cond v true false) false) false
    go-by true true true e = rw (← eqb-true 40 b e)
    go-by true true false e = rw (← eqb-true 40 b e)
    go-by true false v e = refl
    go-by false u v e = refl

sends-row : (a b c i : ℕ) → i < 9 → b < 256 → sends (row_at i) (a * 256 + b) c (eqb b 40) ≡ begins (sent (row_at i)) (27 ∷ a ∷ b ∷ c ∷ [])
unfolding designations begins
sends-row a b c zero h k = sends-three 40 66 0 a b c (lit< tt) k (λ e. absurd (omega arith))
sends-row a b c (suc zero) h k = sends-three 40 74 0 a b c (lit< tt) k (λ e. absurd (omega arith))
sends-row a b c (suc (suc zero)) h k = sends-three 36 64 0 a b c (lit< tt) k (λ e. absurd (omega arith))
sends-row a b c (suc (suc (suc zero))) h k = sends-three 36 66 0 a b c (lit< tt) k (λ e. absurd (omega arith))
sends-row a b c (suc (suc (suc (suc zero)))) h k = sends-three 36 65 0 a b c (lit< tt) k (λ e. absurd (omega arith))
sends-row a b c (suc (suc (suc (suc (suc zero))))) h k = sends-four 36 67 a b c k
sends-row a b c (suc (suc (suc (suc (suc (suc zero)))))) h k = sends-four 36 68 a b c k
sends-row a b c (suc (suc (suc (suc (suc (suc (suc zero))))))) h k = sends-three 46 65 0 a b c (lit< tt) k (λ e. absurd (omega arith))
sends-row a b c (suc (suc (suc (suc (suc (suc (suc (suc zero)))))))) h k = sends-three 46 70 0 a b c (lit< tt) k (λ e. absurd (omega arith))
sends-row a b c (suc (suc (suc (suc (suc (suc (suc (suc (suc i))))))))) h k = absurd (omega arith)

-- one row more
pub found-more :
    (a b c : ℕ) {i r r' v : ℕ} {t : Bool} → i < 9 → b < 256 → v ≡ code_of (row_at i) → t ≡ sends (row_at i) (a * 256 + b) c (eqb b 40) →
    r ≡ code_among i (27 ∷ a ∷ b ∷ c ∷ []) → r' ≡ cond t v r → r' ≡ code_among (i + 1) (27 ∷ a ∷ b ∷ c ∷ [])
unfolding code_among
found-more a b c {i} h k g f e q = rw (add-one i, q, f, g, e, sends-row a b c i h k)

-- where nothing is found
pub code-short : (s : List ℕ) (at : ℕ) → length s < at + 4 → code_at s at ≡ 0
code-short s at h = rw (lt-leb (at + 4) (length s) h)

no-escape : (x : ℕ) (l : List ℕ) → eqb 27 x ≡ false → code_among 9 (x ∷ l) ≡ 0
unfolding code_among designations begins
no-escape x l e = rw e

cond-none : (t : Bool) {x : ℕ} → x ≡ 0 → cond t x 0 ≡ 0
cond-none true e = e
cond-none false e = refl

pub code_other : (s : List ℕ) (at : ℕ) → (get_or s at 0 ≡ 27 → ⊥) → code_at s at ≡ 0
code_other s at h = cond-none (leb (at + 4) (length s)) (no-escape (get_or s at 0) _ (ne_eqb 27 _ (λ e. h (sym e))))

pub code_here :
    (s : List ℕ) (at : ℕ) → at + 4 ≤ length s → get_or s at 0 ≡ 27 →
    code_at s at ≡ code_among 9 (27 ∷ get_or s (at + 1) 0 ∷ get_or s (at + 2) 0 ∷ get_or s (at + 3) 0 ∷ [])
code_here s at h e = rw (le-leb (at + 4) (length s) h, e)

-- what is found stands there
among : (a b c i : ℕ) → i ≤ 9 → (code_among i (27 ∷ a ∷ b ∷ c ∷ []) ≡ 0) ⊎ Designates a b c (code_among i (27 ∷ a ∷ b ∷ c ∷ []))
unfolding code_among
among a b c zero h = inl refl
among a b c (suc i) h =
    cond-case (λ r. (r ≡ 0) ⊎ Designates a b c r) (begins (sent (row_at i)) (27 ∷ a ∷ b ∷ c ∷ []))
    (λ e. inr (record { row = i; known = omega arith; code = refl; bytes = e }))
    (λ e. among a b c i (omega arith))

pub row-stands : (s : List ℕ) (at : ℕ) {r : ℕ} → r ≡ code_at s at → (r ≡ 0 → ⊥) → Stands s at r
row-stands s at {r} w h = go-by (leb (at + 4) (length s)) (eqb (get_or s at 0) 27) refl refl
  where
    go-by : (t u : Bool) → leb (at + 4) (length s) ≡ t → eqb (get_or s at 0) 27 ≡ u → Stands s at r
    go-by false u e f = absurd (h (w ∙ rw e))
    go-by true false e f = absurd (h (w ∙ code_other s at (eqb-false _ _ f)))
    go-by true true e f =
        let k = leb-true (at + 4) (length s) e in
        let z = eqb-true (get_or s at 0) 27 f in
        let q = w ∙ code_here s at k z in
        (z, (k, ⊎_elim (λ n. absurd (h (q ∙ n))) (λ d. rw q d) (among _ _ _ 9 (omega arith))))
