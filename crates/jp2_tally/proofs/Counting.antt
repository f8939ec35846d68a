-- The cells of a list counted one by one, each for its own set. Assumes nothing.
use Prim.Native.Nat.{ℕ, zero, suc, ◌+◌, ◌<◌, ◌≤◌, ◌^◌}
use mathlib.Core.Path.{◌≡◌, refl, sym, ap, ◌∙◌}
use mathlib.Core.Bool.{true, false, cond, not}
use mathlib.Core.List.{List, [], ◌∷◌, ◌++◌, map}
use native.Mathlib.Omega.{arith}
use native.Mathlib.Numerals.{add-one}
use lib.ListN.{length, get_or, take, set, length-set}
use lib.Seq.{take-suc, take-length, length-take-le, get_or-set_same, get_or-set_other, ext_get_or}
use lib.Dec.{eqb, lit<}
use borrow.Author.Tests.{eqb-true, eqb-false, lt-ltb, le-ltb}
use Rattle.answer.specs.Answer.{numbered, limit}
use Rattle.answer.proofs.Once.{limit-small}
use Rattle.answer.proofs.Below.{cond-case, all_below, below}
use Rattle.jp2.specs.Table.{first_where}
use Rattle.jp2.specs.Writable.{set_of, code_of, writable, first_foreign}
use Rattle.jp2.specs.Tally.{sets, count_of, counts_of, no_counts, tally_of}
use Rattle.jp2.proofs.Search.{Passed, passed_start, passed_here, passed_on, passed-end, found-passes}
use Rattle.jp2.proofs.Sets.{Kind, of-ascii, of-roman, of_pair, of_shift, kind-of, pair-case, shift-case}

-- the place of a set's count
abbrev place : ℕ → ℕ
place n = first_where (λ s. eqb s n) sets

has-place : {n c : ℕ} → Kind n c → place n < 9
unfolding first_where
has-place (of-ascii e) = lit< tt
has-place (of-roman e) = lit< tt
has-place {n} (of_pair e f g) = pair-case (λ n. place n < 9) n (lit< tt) (lit< tt) (lit< tt) (lit< tt) (lit< tt) e
has-place {n} (of_shift e f g) = shift-case (λ n. place n < 9) n (lit< tt) (lit< tt) e

place-known : (v : ℕ) → writable v ≡ true → place (set_of v) < 9
unfolding writable
place-known v w = has-place (kind-of (set_of v) (code_of v) w)

-- the set of a place; no set has two
set-at-place : (n : ℕ) → place n < 9 → get_or sets (place n) 0 ≡ n
set-at-place n h = eqb-true _ n (found-passes (λ s. eqb s n) sets 0 h)

place-once : (k : ℕ) → k < 9 → place (get_or sets k 0) ≡ k
unfolding first_where all_below
place-once k h = eqb-true _ k (below (λ k. eqb (place (get_or sets k 0)) k) 9 refl k h)

at-mapped : (f : ℕ → ℕ) (xs : List ℕ) (k : ℕ) → k < length xs → get_or (map f xs) k 0 ≡ f (get_or xs k 0)
at-mapped f [] k h = absurd (omega arith)
at-mapped f (x ∷ xs) zero h = refl
at-mapped f (x ∷ xs) (suc k) h = at-mapped f xs k (omega arith)

-- a cell more
one_more : (set : ℕ) (l : List ℕ) (v : ℕ) → count_of set (l ++ v ∷ []) ≡ cond (eqb (set_of v) set) 1 0 + count_of set l
unfolding count_of
one_more set [] v = refl
one_more set (x ∷ xs) v = omega (arith, one_more set xs v)

count-within : (set : ℕ) (l : List ℕ) → count_of set l ≤ length l
unfolding count_of
count-within set [] = omega arith
count-within set (v ∷ vs) =
    let one : cond (eqb (set_of v) set) 1 0 ≤ 1 = cond-case (λ (x : ℕ). x ≤ 1) (eqb (set_of v) set) {a = 1} {b = 0} (λ _. omega arith) (λ _. omega arith) in
    omega (arith, count-within set vs)

raised_at :
    (counts : List ℕ) (n k : ℕ) → length counts ≡ 9 → place n < 9 → k < 9 →
    get_or (set counts (place n) (get_or counts (place n) 0 + 1)) k 0 ≡ cond (eqb n (get_or sets k 0)) 1 0 + get_or counts k 0
raised_at counts n k size h b =
    let x = get_or counts (place n) 0 + 1 in
    cond-case (λ (y : ℕ). get_or (set counts (place n) x) k 0 ≡ y + get_or counts k 0) (eqb n (get_or sets k 0)) {a = 1} {b = 0}
    (λ e.
    let q : place n ≡ k = rw (eqb-true n (get_or sets k 0) e) (place-once k b) in
    rw (q, get_or-set_same counts k (get_or counts k 0 + 1) 0 (omega arith)) (omega arith))
    (λ e. get_or-set_other counts (place n) k x 0 (λ q. eqb-false n (get_or sets k 0) e (rw q (sym (set-at-place n h)))) ∙ omega arith)

-- the first i cells of a list are counted, all of them writable
pub record Counted (cells counts : List ℕ) (i : ℕ) : Type 0 where
  pub few : length cells ≤ limit
  pub within : i ≤ length cells
  pub size : length counts ≡ 9
  pub each : (k : ℕ) → k < 9 → get_or counts k 0 ≡ count_of (get_or sets k 0) (take i cells)
  pub passed : Passed (λ v. not (writable v)) cells i

pub count-start : (cells : List ℕ) → length cells ≤ limit → Counted cells (counts_of []) 0
unfolding count_of all_below
count-start cells h =
    record {
      few = h;
      within = omega arith;
      size = refl;
      each = λ k b. eqb-true _ _ (below (λ k. eqb (get_or (counts_of []) k 0) 0) 9 refl k b);
      passed = passed_start _ cells;
    }

module _ {cells counts : List ℕ} {i : ℕ} (d : Counted cells counts i) where
  module _ (h : i < length cells) (w : writable (get_or cells i 0) ≡ true) {k : ℕ} (e : k ≡ place (set_of (get_or cells i 0))) where
    -- its count has a place, and room
    pub count_room : (k < 9) × (get_or counts k 0 + 1 < 2 ^ 32)
    count_room =
        let q : k < 9 = rw e (place-known (get_or cells i 0) w) in
        (q, omega (arith, d.each k q, count-within (get_or sets k 0) (take i cells), length-take-le i cells d.within, d.few, limit-small))

    pub count_next : Counted cells (set counts k (get_or counts k 0 + 1)) (i + 1)
    count_next =
        let v = get_or cells i 0 in
        record {
          few = d.few;
          within = omega arith;
          size = length-set counts k (get_or counts k 0 + 1) ∙ d.size;
          each =
              λ j b.
              rw (e, raised_at counts (set_of v) j d.size (place-known v w) b, d.each j b, add-one, take-suc cells i 0 h)
              (sym (one_more (get_or sets j 0) (take i cells) v));
          passed = passed_on d.passed 0 h (ap not w);
        }

  -- the answers at the first cell that is not writable, and at the end
  pub tally-bad : i < length cells → writable (get_or cells i 0) ≡ false → tally_of cells ≡ no_counts (numbered 10 i)
  unfolding tally_of first_foreign
  tally-bad h w =
      let q : i ≡ first_foreign cells = passed_here d.passed 0 h (ap not w) in
      rw (le-ltb _ _ d.few, ← q, lt-ltb i (length cells) h)

  pub tally-done : length cells ≤ i → tally_of cells ≡ record { verdict = numbered 0 i; counts = counts }
  unfolding tally_of first_foreign
  tally-done h =
      let n : i ≡ length cells = omega (arith, d.within) in
      let q : i ≡ first_foreign cells = passed-end d.passed h in
      let e : counts ≡ counts_of cells =
      ext_get_or 0 counts (counts_of cells) d.size
      (λ k b. let l : k < 9 = rw d.size at b in rw (d.each k l, n, take-length cells) (sym (at-mapped (λ set. count_of set cells) sets k l)))
      in
      rw (le-ltb _ _ d.few, ← q, e, le-ltb i (length cells) h, n)
