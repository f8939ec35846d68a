-- Marks of cells, and how many come before one that is 1. Assumes nothing.
use Prim.Native.Nat.{ℕ, zero, suc, ◌+◌, ◌-◌, ◌*◌, ◌/◌, ◌%◌, ◌<◌, ◌≤◌}
use mathlib.Core.Path.{◌≡◌, refl, sym, ap, ◌∙◌}
use mathlib.Core.Logic.{◌≢◌}
use mathlib.Core.Bool.{Bool, true, false, cond}
use mathlib.Core.List.{List, [], ◌∷◌, ◌++◌, append_assoc}
use native.Mathlib.Omega.{arith}
use native.Mathlib.Nat.{zero-add, add-zero}
use native.Mathlib.Numerals.{add-one}
use lib.ListN.{length, get_or, take, drop, set, length-drop, get_or-append}
use lib.Seq.{paste, length-take-le, drop-cons, get_or-take, get_or-drop, get_or-set_same, get_or-set_other, get_or-append-add, ext_get_or}
use lib.Count.{count_trailing_zeros, trailing_of_zero}
use lib.Dec.{eqb, ltb}
use borrow.Author.Tests.{eqb-true, eqb-false, ltb-true, ltb-false}
use Rattle.answer.specs.Ahead.{Ahead}
use Rattle.answer.proofs.Ahead.{ahead-next}
use Rattle.utf7.specs.Sets.{own}
use Rattle.utf7.specs.declared.Style.{Style}
use Rattle.utf7.proofs.Sets.{own-byte}
use Rattle.utf7_write.specs.Ahead.{Own, narrow, Narrowed, mark_of, Turned, Marked, Bit, Zero, word_of, word_at, Low}
use Rattle.utf7_write.proofs.Blocks.{own-narrow}

-- the zeros below the lowest mark of a word
tz-even : (k x : ℕ) → count_trailing_zeros (suc k) (2 * x) ≡ suc (count_trailing_zeros k x)
unfolding count_trailing_zeros
tz-even k x =
    let r : 2 * x % 2 ≡ 0 = omega arith in
    let q : 2 * x / 2 ≡ x = omega arith in
    rw (r, q)

tz_odd : (k x : ℕ) → x % 2 ≡ 1 → count_trailing_zeros (suc k) x ≡ 0
unfolding count_trailing_zeros
tz_odd k x e = rw e

abbrev eight : ℕ → ℕ
eight k = suc (suc (suc (suc (suc (suc (suc (suc k)))))))

tz-byte : (k x : ℕ) → count_trailing_zeros (eight k) (256 * x) ≡ eight (count_trailing_zeros k x)
tz-byte k x =
    let e : 256 * x ≡ 2 * (2 * (2 * (2 * (2 * (2 * (2 * (2 * x))))))) = omega arith in
    rw (e, tz-even, tz-even, tz-even, tz-even, tz-even, tz-even, tz-even, tz-even)

-- the first mark of a word that is 1
abbrev pub First : List ℕ → ℕ → Type 0
First ms r = (r ≤ length ms) × ((j : ℕ) → j < r → get_or ms j 0 ≡ 0) × (r < length ms → get_or ms r 0 ≡ 1)

abbrev pub Bits : List ℕ → Type 0
Bits ms = (j : ℕ) → j < length ms → get_or ms j 0 < 2

first_more : (ms : List ℕ) (r : ℕ) → First ms r → First (0 ∷ ms) (suc r)
first_more ms r f = (omega (arith, f.0), before, λ h. f.2 (omega arith))
  where
    before : (j : ℕ) → j < suc r → get_or (0 ∷ ms) j 0 ≡ 0
    before zero h = refl
    before (suc j) h = f.1 j (omega arith)

first-here : (m : ℕ) (ms : List ℕ) → m < 2 → First ms (count_trailing_zeros (8 * length ms) (word_of ms) / 8) →
    First (m ∷ ms) (count_trailing_zeros (8 * length (m ∷ ms)) (word_of (m ∷ ms)) / 8)
unfolding word_of
first-here m ms b ih = told (eqb m 0) refl
  where
    n : 8 * length (m ∷ ms) ≡ eight (8 * length ms)
    n = omega arith

    told : (t : Bool) → eqb m 0 ≡ t → First (m ∷ ms) (count_trailing_zeros (8 * length (m ∷ ms)) (word_of (m ∷ ms)) / 8)
    told true e =
        let z = eqb-true m 0 e in
        let q : eight (count_trailing_zeros (8 * length ms) (word_of ms)) / 8 ≡ suc (count_trailing_zeros (8 * length ms) (word_of ms) / 8) = omega arith in
        rw (z, n, zero-add (256 * word_of ms), tz-byte (8 * length ms) (word_of ms), q) (first_more ms _ ih)
    told false e =
        let z : m ≡ 1 = omega (arith, b, eqb-false m 0 e) in
        let o : (1 + 256 * word_of ms) % 2 ≡ 1 = omega arith in
        rw (z, n, tz_odd _ (1 + 256 * word_of ms) o) (omega arith, λ j h. absurd (omega arith), λ h. refl)

first_of : (ms : List ℕ) → Bits ms → First ms (count_trailing_zeros (8 * length ms) (word_of ms) / 8)
unfolding count_trailing_zeros word_of
first_of [] b = (omega arith, λ j h. absurd (omega arith), λ h. absurd (omega arith))
first_of (m ∷ ms) b = first-here m ms (b 0 (omega arith)) (first_of ms (λ j h. b (suc j) (omega arith)))

-- marks as numbers
cut : (ms : List ℕ) (n j j' : ℕ) → j' ≡ j + 1 → j < length ms → word_at ms j (suc n) ≡ get_or ms j 0 + 256 * word_at ms j' n
unfolding word_of
cut ms n j j' e h = rw (drop-cons ms j 0 h, e, add-one j)

pub word-four :
    (ms : List ℕ) (j : ℕ) → j + 4 ≤ length ms →
    word_at ms j 4 ≡ get_or ms j 0 + 256 * (get_or ms (j + 1) 0 + 256 * (get_or ms (j + 2) 0 + 256 * (get_or ms (j + 3) 0 + 256 * 0)))
unfolding word_of
word-four ms j h =
    rw (
      cut ms 3 j (j + 1) (omega arith) (omega arith),
      cut ms 2 (j + 1) (j + 2) (omega arith) (omega arith),
      cut ms 1 (j + 2) (j + 3) (omega arith) (omega arith),
      cut ms 0 (j + 3) (j + 4) (omega arith) (omega arith),
    )

pub word-eight : (ms : List ℕ) (j : ℕ) → j + 8 ≤ length ms → word_at ms j 8 ≡ word_at ms j 4 + 4294967296 * word_at ms (j + 4) 4
word-eight ms j h =
    let q : (a b c d w : ℕ) → a + 256 * (b + 256 * (c + 256 * (d + 256 * w))) ≡ a + 256 * (b + 256 * (c + 256 * (d + 256 * 0))) + 4294967296 * w
    = λ a b c d w. omega arith in
    rw (
      word-four ms j (omega arith),
      cut ms 7 j (j + 1) (omega arith) (omega arith),
      cut ms 6 (j + 1) (j + 2) (omega arith) (omega arith),
      cut ms 5 (j + 2) (j + 3) (omega arith) (omega arith),
      cut ms 4 (j + 3) (j + 4) (omega arith) (omega arith),
    ) (q _ _ _ _ _)

-- where the first of eight marks stands that is 1
module _ (ms : List ℕ) (j : ℕ) (h : j + 8 ≤ length ms) (b : Ahead Bit ms j 8) where
  eight-long : length (take 8 (drop j ms)) ≡ 8
  eight-long = length-take-le 8 (drop j ms) (omega (arith, length-drop j ms))

  at : (m : ℕ) → m < 8 → get_or (take 8 (drop j ms)) m 0 ≡ get_or ms (j + m) 0
  at m q = get_or-take 8 (drop j ms) m 0 q ∙ get_or-drop j ms m 0

  first : First (take 8 (drop j ms)) (count_trailing_zeros 64 (word_at ms j 8) / 8)
  first =
      let n : 8 * length (take 8 (drop j ms)) ≡ 64 = omega (arith, eight-long) in
      rw n at (first_of (take 8 (drop j ms)) (λ m q. rw (at m (omega (arith, eight-long))) (b m (omega (arith, eight-long)))))

  pub first-zeros : (count_trailing_zeros 64 (word_at ms j 8) / 8 ≤ 8) × Ahead Zero ms j (count_trailing_zeros 64 (word_at ms j 8) / 8)
      × (count_trailing_zeros 64 (word_at ms j 8) / 8 < 8 → get_or ms (j + count_trailing_zeros 64 (word_at ms j 8) / 8) 0 ≡ 1)
  first-zeros =
      let f = first in
      let l = eight-long in
      let r : count_trailing_zeros 64 (word_at ms j 8) / 8 ≤ 8 = omega (arith, f.0, l) in
      (r, λ m q. sym (at m (omega arith)) ∙ f.1 m q, λ q. sym (at _ q) ∙ f.2 (omega (arith, l)))

pub no-mark : (ms : List ℕ) (j : ℕ) → j + 8 ≤ length ms → Ahead Bit ms j 8 → word_at ms j 8 ≡ 0 → Ahead Zero ms j 8
no-mark ms j h b e =
    let z : count_trailing_zeros 64 (word_at ms j 8) / 8 ≡ 8 = ap (λ (w : ℕ). count_trailing_zeros 64 w / 8) e ∙ ap (λ (t : ℕ). t / 8) (trailing_of_zero 64) in
    rw z at (first-zeros ms j h b).1

zero_word : (ms : List ℕ) (n j : ℕ) → j + n ≤ length ms → Ahead Zero ms j n → word_at ms j n ≡ 0
unfolding word_of
zero_word ms zero j h z = refl
zero_word ms (suc n) j h z =
    let a : get_or ms j 0 ≡ 0 = rw (add-zero j) at (z 0 (omega arith)) in
    let ih = zero_word ms n (j + 1) (omega arith) (ahead-next Zero ms j n z) in
    omega (arith, cut ms n j (j + 1) refl (omega arith), a, ih)

-- how many of sixteen marks come before one that is 1
abbrev Before : List ℕ → ℕ → ℕ → Type 0
Before ms j r = (r ≤ 16) × Ahead Zero ms j r × (r < 16 → get_or ms (j + r) 0 ≡ 1)

module _ (ms : List ℕ) (j : ℕ) (h : j + 16 ≤ length ms) (b : Ahead Bit ms j 16) where
  pub before-first : word_at ms j 8 ≢ 0 → Before ms j (count_trailing_zeros 64 (word_at ms j 8) / 8)
  before-first e =
      let t = count_trailing_zeros 64 (word_at ms j 8) / 8 in
      let f = first-zeros ms j (omega arith) (λ m q. b m (omega arith)) in
      let n : t ≢ 8 = λ q. e (zero_word ms 8 j (omega arith) (rw q at f.1)) in
      (omega (arith, f.0), f.1, λ q. f.2 (omega (arith, f.0, n)))

  later : Ahead Bit ms (j + 8) 8
  later m q =
      let e : j + 8 + m ≡ j + (8 + m) = omega arith in
      rw e (b (8 + m) (omega arith))

  pub before-second : word_at ms j 8 ≡ 0 → Before ms j (8 + count_trailing_zeros 64 (word_at ms (j + 8) 8) / 8)
  before-second e =
      let t = count_trailing_zeros 64 (word_at ms (j + 8) 8) / 8 in
      let f = first-zeros ms (j + 8) (omega arith) later in
      let y : j + (8 + t) ≡ j + 8 + t = omega arith in
      (omega (arith, f.0), λ m q. told m q (ltb m 8) refl, λ q. rw y (f.2 (omega arith)))
    where
      told : (m : ℕ) → m < 8 + count_trailing_zeros 64 (word_at ms (j + 8) 8) / 8 → (t : Bool) → ltb m 8 ≡ t → get_or ms (j + m) 0 ≡ 0
      told m q true t = no-mark ms j (omega arith) (λ m q. b m (omega arith)) e m (ltb-true m 8 t)
      told m q false t =
          let k = ltb-false m 8 t in
          let x : j + m ≡ j + 8 + (m - 8) = omega arith in
          rw x ((first-zeros ms (j + 8) (omega arith) later).1 (m - 8) (omega arith))

-- a list with a block put into it
module _ (d s : List ℕ) (at n : ℕ) (h : at + n ≤ length d) (l : n ≤ length s) where
  front : length (take at d) ≡ at
  front = length-take-le at d (omega arith)

  paste-before : (m : ℕ) → m < at → get_or (paste d at s n) m 0 ≡ get_or d m 0
  paste-before m q =
      rw (append_assoc (take at d) (take n s) (drop (at + n) d))
      (get_or-append (take at d) (take n s ++ drop (at + n) d) 0 m (omega (arith, front)) ∙ get_or-take at d m 0 q)

  paste-here : (m : ℕ) → m < n → get_or (paste d at s n) (at + m) 0 ≡ get_or s m 0
  paste-here m q =
      rw (append_assoc (take at d) (take n s) (drop (at + n) d))
      (rw front at (get_or-append-add (take at d) (take n s ++ drop (at + n) d) m 0)
      ∙ get_or-append (take n s) (drop (at + n) d) 0 m (omega (arith, length-take-le n s l)) ∙ get_or-take n s m 0 q)

-- sixteen cells more are made narrow
module _ (us : List ℕ) (i : ℕ) (out bs : List ℕ) (n : ℕ) (h : n + 16 ≤ length out) (l : length bs ≡ 16) where
  pub narrowed-block : Narrowed us i out n → Narrowed us (i + n) bs 16 → {out' : List ℕ} → out' ≡ paste out n bs 16 → Narrowed us i out' (n + 16)
  narrowed-block w b e m q = rw e (told (ltb m n) refl)
    where
      told : (t : Bool) → ltb m n ≡ t → get_or (paste out n bs 16) m 0 ≡ narrow (get_or us (i + m) 0)
      told true t = paste-before out bs n 16 h (omega arith) m (ltb-true m n t) ∙ w m (ltb-true m n t)
      told false t =
          let k = ltb-false m n t in
          let x : n + (m - n) ≡ m = omega arith in
          let y : i + n + (m - n) ≡ i + m = omega arith in
          rw x at (paste-here out bs n 16 h (omega arith) (m - n) (omega arith)) ∙ b (m - n) (omega arith) ∙ rw y

-- one byte more is turned into a mark
module _ (style : Style) (bs ms : List ℕ) (k x : ℕ) (h : k < length ms) where
  pub turned_more :
      Turned style bs ms k → ((m : ℕ) → k ≤ m → get_or ms m 0 ≡ get_or bs m 0) → x ≡ mark_of style (get_or ms k 0) → Turned style bs (set ms k x) (k + 1)
  turned_more t o e m q = told (eqb m k) refl
    where
      told : (s : Bool) → eqb m k ≡ s → get_or (set ms k x) m 0 ≡ mark_of style (get_or bs m 0)
      told true s = rw (eqb-true m k s) (get_or-set_same ms k x 0 h ∙ e ∙ ap (mark_of style) (o k (omega arith)))
      told false s = get_or-set_other ms k m x 0 (eqb-false m k s) ∙ t m (omega (arith, eqb-false m k s))

  pub left-more : ((m : ℕ) → k ≤ m → get_or ms m 0 ≡ get_or bs m 0) → (m : ℕ) → k + 1 ≤ m → get_or (set ms k x) m 0 ≡ get_or bs m 0
  left-more o m q =
      let n : m ≢ k = λ e. omega arith in
      get_or-set_other ms k m x 0 n ∙ o m (omega arith)

-- bytes that are turned into marks are those of the cells
pub marked-of : (style : Style) (us : List ℕ) (i : ℕ) (bs ms : List ℕ) (n : ℕ) → Narrowed us i bs n → Turned style bs ms n → Marked style us i ms n
marked-of style us i bs ms n w t m h = t m h ∙ rw (w m h, own-narrow style (get_or us (i + m) 0))

-- what a mark says
mark-bit : (t : Bool) → cond {A = ℕ} t 0 1 < 2
mark-bit true = omega arith
mark-bit false = omega arith

mark-own : (t : Bool) → cond {A = ℕ} t 0 1 ≡ 0 → t ≡ true
mark-own true e = refl
mark-own false e = absurd (omega arith)

mark-other : (t : Bool) → cond {A = ℕ} t 0 1 ≡ 1 → t ≡ false
mark-other true e = absurd (omega arith)
mark-other false e = refl

module _ (style : Style) (us : List ℕ) (base : ℕ) (ms : List ℕ) (count i : ℕ) (w : Marked style us base ms count) (h : base ≤ i) where
  place : (m : ℕ) → base + (i - base + m) ≡ i + m
  place m = omega arith

  pub marked-bits : i + 16 ≤ base + count → Ahead Bit ms (i - base) 16
  marked-bits q m k = rw (w (i - base + m) (omega arith)) (mark-bit (own style (get_or us (base + (i - base + m)) 0)))

  pub marked-own : (k : ℕ) → i + k ≤ base + count → Ahead Zero ms (i - base) k → Ahead (Own style) us i k
  marked-own k q z m l =
      rw (place m) at (mark-own (own style (get_or us (base + (i - base + m)) 0)) (sym (w (i - base + m) (omega arith)) ∙ z m l))

  pub marked_other : (k : ℕ) → i + k < base + count → get_or ms (i - base + k) 0 ≡ 1 → own style (get_or us (i + k) 0) ≡ false
  marked_other k q e =
      rw (place k) at (mark-other (own style (get_or us (base + (i - base + k)) 0)) (sym (w (i - base + k) (omega arith)) ∙ e))

-- low bytes of cells that are written as themselves are those cells
pub low-cells :
    (style : Style) (us : List ℕ) (i : ℕ) (bs : List ℕ) (n : ℕ) → i + n ≤ length us → length bs ≡ n → Low us i bs n → (k : ℕ) → k ≤ n →
    Ahead (Own style) us i k → take k bs ≡ take k (drop i us)
low-cells style us i bs n h l w k q a =
    let e : length (take k bs) ≡ k = length-take-le k bs (omega arith) in
    ext_get_or 0 (take k bs) (take k (drop i us)) (e ∙ sym (length-take-le k (drop i us) (omega (arith, length-drop i us))))
    (λ m z.
    let y : m < k = omega arith in
    let u = get_or us (i + m) 0 in
    let b = own-byte style u (a m y) in
    let s : u % 256 ≡ u = omega arith in
    get_or-take k bs m 0 y ∙ w m (omega arith) ∙ s ∙ rw (get_or-take k (drop i us) m 0 y, get_or-drop i us m 0))

-- the mark of a byte by its bit
pub mark-zero : (t : Bool) → cond {A = ℕ} t 1 0 ≡ 1 → 0 ≡ cond {A = ℕ} t 0 1
mark-zero true e = refl
mark-zero false e = absurd (omega arith)

pub mark-one : (t : Bool) → cond {A = ℕ} t 1 0 ≢ 1 → 1 ≡ cond {A = ℕ} t 0 1
mark-one true e = absurd (e refl)
mark-one false e = refl
