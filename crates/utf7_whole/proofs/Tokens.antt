-- What whole stretches and runs read as, and the bits of runs. Assumes nothing.
use Prim.Native.Nat.{ℕ, zero, suc, ◌+◌, ◌-◌, ◌*◌, ◌/◌, ◌%◌, ◌^◌, ◌<◌, ◌≤◌}
use mathlib.Core.Path.{◌≡◌, refl, sym, ap, ◌∙◌}
use mathlib.Core.Bool.{Bool, true, false, cond, ◌&&◌, false≢true}
use mathlib.Core.List.{List, [], ◌∷◌, ◌++◌, append_assoc, append-nil, map}
use native.Mathlib.Omega.{arith}
use native.Mathlib.Nat.{mod-eq_of_lt, add-zero}
use native.Mathlib.Numerals.{add-one}
use lib.ListN.{length, get_or, take, drop, set, length-append, length-map, take-append-drop, drop_of_length-le, get_or-eq_default}
use lib.Seq.{slice, slice-cons, length-slice, take-suc, get_or-take, get_or-drop, drop-cons, drop-append-add, drop-append-le, length-take-le, get_or-set_same, get_or-set_other}
use lib.Pow.{pow_pos}
use lib.Dec.{leb, ltb, eqb, lit<}
use borrow.Author.Tests.{ltb-true, ltb-false, eqb-true, eqb-false, leb-true, leb-false, lt-ltb, le-ltb}
use Rattle.answer.specs.Lists.{Each}
use Rattle.answer.proofs.Below.{cond-case}
use Rattle.bits.specs.Bits.{bits, all_zero, bits_of, full, left_over}
use Rattle.bits.proofs.Bits.{length-bits, number-bits, bits-append, parted, bits-drop}
use Rattle.bits.proofs.Groups.{length-bits_of, length-groups, full-more, full-few}
use Rattle.alphabet.specs.Letters.{value_of, set_b, slash}
use Rattle.reading.specs.Reading.{go, read_from}
use Rattle.reading.proofs.Walk.{Walk, stay, gives}
use Rattle.reading.proofs.Strides.{Stride, stride-go, stride_on, stride-as, stride-to, stride-walk}
use Rattle.utf7.specs.Sets.{direct}
use Rattle.utf7.specs.Rule.{outside, run, may_end, end_does, low_does, byte_does, ends_in, utf7}
use Rattle.utf7.specs.Writing.{sign, spell}
use Rattle.utf7.specs.declared.Style.TheVariants.{Body}
use Rattle.utf7.proofs.Round.{whole_run, self-walk, close-run, piece-walk}
use Rattle.utf7_whole.specs.Quick.{Span, Ahead, Run, Values, bits_in, units_between, closes, past, first_of, second_of, third_of, three_of, units_of, lows}
use Rattle.utf7_read.proofs.Moves.{may-end}

-- the rule of the letters, one kind before another, as the code puts it
pub by-rule :
    (last b : ℕ) →
    cond (leb 65 b && leb b 90) (b - 65 + 0)
    (cond (leb 97 b && leb b 122) (b - 97 + 26) (cond (leb 48 b && leb b 57) (b - 48 + 52) (cond (eqb b 43) 62 (cond (eqb b last) 63 64))))
    ≡ value_of last b
unfolding value_of
by-rule last b = rw (add-zero (b - 65))

-- how far a test holds in a block: nothing is looked at, and one place more
module _ {test : ℕ → Bool} where
  pub ahead-start : Ahead test 0 32
  ahead-start = record { upto = omega arith; each = λ j h l. absurd (omega arith); over = λ h. absurd (omega arith) }

  pub ahead_more : {k m : ℕ} → Ahead test k m → k < 32 → Ahead test (k + 1) (cond (ltb (cond (test k) 32 k) m) (cond (test k) 32 k) m)
  ahead_more {k} {m} p h = by (test k) refl
    where
      holds : (t : Bool) → test k ≡ t → (j : ℕ) → (b : Bool) → eqb j k ≡ b → (k < m → t ≡ true) → j < k + 1 → j < m → test j ≡ true
      holds t e j true q g l n = rw (eqb-true j k q) (e ∙ g (omega (arith, eqb-true j k q)))
      holds t e j false q g l n = p.each j (omega (arith, eqb-false j k q)) n

      near : (t : Bool) → ltb k m ≡ t → test k ≡ false → Ahead test (k + 1) (cond t k m)
      near true q e =
          record {
            upto = omega arith;
            each = λ j l n. p.each j n (omega (arith, ltb-true k m q));
            over = λ _. e;
          }
      near false q e =
          record {
            upto = p.upto;
            each = λ j l n. p.each j (omega (arith, ltb-false k m q)) n;
            over = p.over;
          }

      by : (t : Bool) → test k ≡ t → Ahead test (k + 1) (cond (ltb (cond t 32 k) m) (cond t 32 k) m)
      by true e =
          rw (le-ltb 32 m p.upto)
          (record { upto = p.upto; each = λ j l n. holds true e j (eqb j k) refl (λ _. refl) l n; over = p.over })
      by false e = near (ltb k m) refl e

  pub ahead-as : {test' : ℕ → Bool} {m : ℕ} → Ahead test 32 m → ((j : ℕ) → j < 32 → test' j ≡ test j) → Ahead test' 32 m
  ahead-as {m = m} p f =
      record {
        upto = p.upto;
        each = λ j h l. f j h ∙ p.each j h l;
        over = λ h. f m h ∙ p.over h;
      }

-- bytes of a set side by side: none, one more, and further ones
module _ {set : ℕ → Bool} {s : List ℕ} where
  pub span-stay : (at : ℕ) → at ≤ length s → Span set s at at
  span-stay at h = record { ordered = omega arith; within = h; each = λ i l m. absurd (omega arith) }

  pub span_more : {from to : ℕ} → Span set s from to → to < length s → set (get_or s to 0) ≡ true → Span set s from (to + 1)
  span_more {from} {to} p h e =
      record { ordered = omega (arith, p.ordered); within = omega arith; each = λ i l m. at i l m (eqb i to) refl }
    where
      at : (i : ℕ) → from ≤ i → i < to + 1 → (t : Bool) → eqb i to ≡ t → set (get_or s i 0) ≡ true
      at i l m true q = rw (eqb-true i to q) e
      at i l m false q = p.each i l (omega (arith, eqb-false i to q))

  pub span-on : {a b c : ℕ} → Span set s a b → Span set s b c → Span set s a c
  span-on {a} {b} {c} p q =
      record { ordered = omega (arith, p.ordered, q.ordered); within = q.within; each = λ i l m. at i l m (ltb i b) refl }
    where
      at : (i : ℕ) → a ≤ i → i < c → (t : Bool) → ltb i b ≡ t → set (get_or s i 0) ≡ true
      at i l m true e = p.each i l (ltb-true i b e)
      at i l m false e = q.each i (ltb-false i b e) m

  pub span-to-as : {from to end : ℕ} → Span set s from to → to ≡ end → Span set s from end
  span-to-as p e = rw (← e) p

  -- its parts
  pub span_to : {from to : ℕ} (at : ℕ) → Span set s from to → from ≤ at → at ≤ to → Span set s from at
  span_to at p h k = record { ordered = h; within = omega (arith, p.within); each = λ i l m. p.each i l (omega arith) }

  pub span-from : {from to : ℕ} (at : ℕ) → Span set s from to → from ≤ at → at ≤ to → Span set s at to
  span-from at p h k = record { ordered = k; within = p.within; each = λ i l m. p.each i (omega arith) m }

pub span-ahead : (set : ℕ → Bool) {s : List ℕ} {at m : ℕ} → Ahead (λ j. set (get_or s (at + j) 0)) 32 m → at + 32 ≤ length s → Span set s at (at + m)
span-ahead set {s} {at} {m} p h =
    record {
      ordered = omega arith;
      within = omega (arith, p.upto);
      each = λ i l k.
          let e : at + (i - at) ≡ i = omega arith in
          rw e at (p.each (i - at) (omega (arith, p.upto)) (omega arith));
    }

pub each-by : (P : ℕ → Type 0) (l : List ℕ) → ((i : ℕ) → i < length l → P (get_or l i 0)) → Each P l
each-by P [] f = tt
each-by P (x ∷ l) f = (f 0 (omega arith), each-by P l (λ i h. f (suc i) (omega arith)))

pub slice_at : (s : List ℕ) (from to i : ℕ) → from + i < to → get_or (slice from to s) i 0 ≡ get_or s (from + i) 0
slice_at s from to i h = get_or-drop from (take to s) i 0 ∙ get_or-take to s (from + i) 0 h

pub span-each : {set : ℕ → Bool} {s : List ℕ} {from to : ℕ} → Span set s from to → Each (λ b. set b ≡ true) (slice from to s)
span-each {set} {s} {from} {to} p =
    each-by (λ b. set b ≡ true) (slice from to s)
    (λ i h.
    let k : from + i < to = omega (arith, length-slice from to s p.within) in
    rw (slice_at s from to i k) (p.each (from + i) (omega arith) k))

pub slice-rest : (s : List ℕ) (from to : ℕ) → from ≤ to → to ≤ length s → drop from s ≡ slice from to s ++ drop to s
slice-rest s from to h k =
    ap (drop from) (sym (take-append-drop to s)) ∙ drop-append-le from (take to s) (drop to s) (omega (arith, length-take-le to s k))

pub at-cons : (s : List ℕ) (at : ℕ) → at < length s → drop at s ≡ get_or s at 0 ∷ drop (at + 1) s
at-cons s at h = rw (add-one at) (drop-cons s at 0 h)

-- bytes that stand for themselves
direct-walk : (bs : List ℕ) → Each (λ b. direct b ≡ true) bs → Walk utf7 outside bs bs outside
direct-walk [] h = stay
direct-walk (b ∷ bs) h = gives (self-walk b h.0) (direct-walk bs h.1)

pub direct-stride : {s : List ℕ} {from to : ℕ} → Span direct s from to → Stride utf7 s from outside to (slice from to s) outside
direct-stride {s} {from} {to} p =
    stride-to (stride-walk (drop to s) (direct-walk (slice from to s) (span-each p)) (slice-rest s from to p.ordered p.within) (omega (arith, p.ordered, p.within)))
    (omega (arith, length-slice from to s p.within, p.ordered))

-- the sign by itself
pub sign-stride : {s : List ℕ} {at : ℕ} → at + 1 < length s → get_or s at 0 ≡ 43 → get_or s (at + 1) 0 ≡ 45 → Stride utf7 s at outside (at + 2) (43 ∷ []) outside
unfolding spell
sign-stride {s} {at} h a b =
    let q = at-cons s at (omega arith) ∙ ap (λ (r : List ℕ). get_or s at 0 ∷ r) (at-cons s (at + 1) h) in
    let two : at + 1 + 1 ≡ at + 2 = omega arith in
    stride-walk (drop (at + 2) s) (piece-walk Body tt sign tt) (rw (a, b, two) at q) (omega arith)

-- a byte that is no letter and no '-' is read as outside the run that it ends
ended : (b : ℕ) (f : List Bool) → set_b slash b ≡ false → eqb b 45 ≡ false → may_end f ≡ true → byte_does (run f) b ≡ byte_does outside b
unfolding byte_does low_does end_does
ended b f o n m = rw (o, m, n)

-- a byte that is not 0 stands in the text
pub some_at : (s : List ℕ) (i : ℕ) → 0 < get_or s i 0 → i < length s
some_at s i h = by (ltb i (length s)) refl
  where
    by : (t : Bool) → ltb i (length s) ≡ t → i < length s
    by true e = ltb-true i (length s) e
    by false e = absurd (omega (arith, get_or-eq_default s 0 (ltb-false i (length s) e)))

-- a run that may end reads as the outside does, by the byte that ends it or at the text's end
ended_at :
    (s : List ℕ) (to : ℕ) (f : List Bool) → set_b slash (get_or s to 0) ≡ false → eqb (get_or s to 0) 45 ≡ false → may_end f ≡ true → (t : Bool) →
    ltb to (length s) ≡ t → read_from utf7 (drop to s) to (run f) ≡ read_from utf7 (drop to s) to outside
unfolding read_from ends_in
ended_at s to f o n m true l = rw (at-cons s to (ltb-true to (length s) l), ended (get_or s to 0) f o n m)
ended_at s to f o n m false l = rw (drop_of_length-le s (ltb-false to (length s) l), m)

-- the bits that a run's letters leave over
abbrev left_in : List ℕ → ℕ → ℕ → List Bool
left_in s from to = left_over 16 (bits_in slash s from to)

-- a run: its letters, and what stands behind them
module _ {s : List ℕ} {at to : ℕ} (sign : get_or s at 0 ≡ 43) (r : Run slash s (at + 1) to) where
  letters-stride : Stride utf7 s at outside to (units_between slash s (at + 1) to) (run (left_in s (at + 1) to))
  letters-stride =
      let ls = slice (at + 1) to s in
      let w = r.letters.within in
      let n : length ls ≡ to - (at + 1) = length-slice (at + 1) to s w in
      let d : drop at s ≡ 43 ∷ (ls ++ drop to s) =
      at-cons s at (omega (arith, r.some, w)) ∙ rw (sign, slice-rest s (at + 1) to (omega (arith, r.some)) w) in
      stride-to (stride-walk (drop to s) (whole_run ls (omega (arith, r.some)) (span-each r.letters)) d (omega (arith, r.some, w)))
      (omega (arith, r.some))

  ends_at : (t : Bool) → eqb (get_or s to 0) 45 ≡ t → Stride utf7 s at outside (cond t (to + 1) to) (units_between slash s (at + 1) to) outside
  ends_at true e =
      let q = eqb-true (get_or s to 0) 45 e in
      let c : byte_does (run (left_in s (at + 1) to)) (get_or s to 0) ≡ go outside = rw q (close-run _ r.ends) in
      rw append-nil at (stride_on letters-stride (stride-go (some_at s to (omega arith)) c))
  ends_at false e = stride-as letters-stride (ended_at s to _ r.over e r.ends (ltb to (length s)) refl)

  pub run-stride : Stride utf7 s at outside (past s to) (units_between slash s (at + 1) to) outside
  run-stride = ends_at (eqb (get_or s to 0) 45) refl

pub past-on : (s : List ℕ) (to : ℕ) → to ≤ past s to
past-on s to = cond-case (λ (k : ℕ). to ≤ k) (eqb (get_or s to 0) 45) (λ _. omega arith) (λ _. omega arith)

-- how many units letters hold
pub length-units : (last : ℕ) (s : List ℕ) (from to : ℕ) → to ≤ length s → length (units_between last s from to) ≡ (to - from) * 6 / 16
unfolding full
length-units last s from to h =
    length-groups 16 _ (bits_in last s from to) ∙ simp (length-bits_of, length-map, length-slice from to s h)

-- bits behind bits, before others
join : (m n x y : ℕ) (rest : List Bool) → x < 2 ^ m → y < 2 ^ n → bits m x ++ (bits n y ++ rest) ≡ bits (m + n) (x * 2 ^ n + y) ++ rest
join m n x y rest h k = sym (append_assoc (bits m x) (bits n y) rest) ∙ ap (λ (b : List Bool). b ++ rest) (bits-append m n x y h k)

-- the first unit of bits
unit-first : (u : ℕ) (rest : List Bool) → u < 2 ^ 16 → full 16 (bits 16 u ++ rest) ≡ u ∷ full 16 rest
unit-first u rest h = full-more 16 (lit< tt) (bits 16 u) rest (length-bits 16 u) ∙ rw (number-bits 16 u h)

-- the three units of eight letters
module _ (a b c : ℕ) (rest : List Bool) (ha : a < 64) (hb : b < 64) (hc : c < 64) where
  abbrev pub one : ℕ
  one = (a * 64 + b) * 16 + c / 4

  pub first-bits : bits 6 a ++ (bits 6 b ++ (bits 6 c ++ rest)) ≡ bits 16 one ++ (bits 2 (c % 4) ++ rest)
  first-bits =
      join 6 6 a b (bits 6 c ++ rest) ha hb
      ∙ rw (parted 4 2 c hc, append_assoc (bits 4 (c / 4)) (bits 2 (c % 4)) rest)
      (join 12 4 (a * 64 + b) (c / 4) (bits 2 (c % 4) ++ rest) (omega arith) (omega arith))

module _ (c d e f : ℕ) (rest : List Bool) (hd : d < 64) (he : e < 64) (hf : f < 64) where
  abbrev pub two : ℕ
  two = ((c % 4 * 64 + d) * 64 + e) * 4 + f / 16

  pub second-bits : bits 2 (c % 4) ++ (bits 6 d ++ (bits 6 e ++ (bits 6 f ++ rest))) ≡ bits 16 two ++ (bits 4 (f % 16) ++ rest)
  second-bits =
      join 2 6 (c % 4) d (bits 6 e ++ (bits 6 f ++ rest)) (omega arith) hd
      ∙ join 8 6 (c % 4 * 64 + d) e (bits 6 f ++ rest) (omega arith) he
      ∙ rw (parted 2 4 f hf, append_assoc (bits 2 (f / 16)) (bits 4 (f % 16)) rest)
      (join 14 2 ((c % 4 * 64 + d) * 64 + e) (f / 16) (bits 4 (f % 16) ++ rest) (omega arith) (omega arith))

module _ (f g h : ℕ) (rest : List Bool) (hg : g < 64) (hh : h < 64) where
  abbrev pub three : ℕ
  three = (f % 16 * 64 + g) * 64 + h

  pub third-bits : bits 4 (f % 16) ++ (bits 6 g ++ (bits 6 h ++ rest)) ≡ bits 16 three ++ rest
  third-bits =
      join 4 6 (f % 16) g (bits 6 h ++ rest) (omega arith) hg
      ∙ join 10 6 (f % 16 * 64 + g) h rest (omega arith) hh

-- the value of a letter
letter-low : (last b : ℕ) → set_b last b ≡ true → value_of last b < 64
unfolding set_b
letter-low last b h = ltb-true (value_of last b) 64 h

-- the values of the letters from one place to another
pub record Known (last : ℕ) (s : List ℕ) (at to : ℕ) (x : ℕ → ℕ) : Type 0 where
  pub so : (k : ℕ) → at + k < to → x k ≡ value_of last (get_or s (at + k) 0)

pub known : {last : ℕ} {s : List ℕ} {at to : ℕ} {xs : List ℕ} → Span (set_b last) s at to → to ≤ at + 32 → Values last s at xs → Known last s at to (lows xs)
known {last} {s} {at} {to} {xs} p h v =
    record {
      so = λ k l.
          let e = v.so k (omega arith) in
          let b : value_of last (get_or s (at + k) 0) < 64 = letter-low last _ (p.each (at + k) (omega arith) l) in
          rw e (mod-eq_of_lt b);
    }

-- letters from a place on, whose values are known
module _ {last : ℕ} {s : List ℕ} {at to : ℕ} (p : Span (set_b last) s at to) {x : ℕ → ℕ} (v : Known last s at to x) where
  value_low : (k : ℕ) → at + k < to → x k < 64
  value_low k l = rw (v.so k l) (letter-low last _ (p.each (at + k) (omega arith) l))

  bits-step : (k j : ℕ) → k + 1 ≡ j → at + k < to → bits_in last s (at + k) to ≡ bits 6 (x k) ++ bits_in last s (at + j) to
  unfolding bits_of
  bits-step k j e l =
      let q : suc (at + k) ≡ at + j = omega arith in
      let c : slice (at + k) to s ≡ get_or s (at + k) 0 ∷ slice (at + j) to s = rw q at (slice-cons (at + k) to s 0 l p.within) in
      ap (λ (r : List ℕ). bits_of 6 (map (value_of last) r)) c ∙ ap (λ (v : ℕ). bits 6 v ++ bits_in last s (at + j) to) (sym (v.so k l))

  bits-start : at < to → bits_in last s at to ≡ bits 6 (x 0) ++ bits_in last s (at + 1) to
  bits-start l =
      let z : at + 0 ≡ at = omega arith in
      rw z at (bits-step 0 1 refl (omega arith))

  module _ (h : at + 3 ≤ to) where
    after_one : units_between last s at to ≡ first_of x ∷ full 16 (bits 2 (x 2 % 4) ++ bits_in last s (at + 3) to)
    after_one =
        let a = value_low 0 (omega arith) in
        let b = value_low 1 (omega arith) in
        let c = value_low 2 (omega arith) in
        rw (bits-start (omega arith), bits-step 1 2 refl (omega arith), bits-step 2 3 refl (omega arith), first-bits (x 0) (x 1) (x 2) (bits_in last s (at + 3) to) a b c)
        (unit-first (first_of x) _ (omega arith))

    pub one_unit : to < at + 6 → units_between last s at to ≡ first_of x ∷ []
    one_unit k =
        let f : full 16 (bits 2 (x 2 % 4) ++ bits_in last s (at + 3) to) ≡ [] =
        full-few 16 (lit< tt) _ (simp (length-append, length-bits, length-bits_of, length-map, length-slice (at + 3) to s p.within) (omega arith)) in
        after_one ∙ rw f

    module _ (h6 : at + 6 ≤ to) where
      after_two : units_between last s at to ≡ first_of x ∷ second_of x ∷ full 16 (bits 4 (x 5 % 16) ++ bits_in last s (at + 6) to)
      after_two =
          let d = value_low 3 (omega arith) in
          let e = value_low 4 (omega arith) in
          let f = value_low 5 (omega arith) in
          let q : full 16 (bits 2 (x 2 % 4) ++ bits_in last s (at + 3) to) ≡ second_of x ∷ full 16 (bits 4 (x 5 % 16) ++ bits_in last s (at + 6) to) =
          rw (bits-step 3 4 refl (omega arith), bits-step 4 5 refl (omega arith), bits-step 5 6 refl (omega arith), second-bits (x 2) (x 3) (x 4) (x 5) (bits_in last s (at + 6) to) d e f)
          (unit-first (second_of x) _ (omega arith)) in
          after_one ∙ rw q

      pub two-units : to < at + 8 → units_between last s at to ≡ first_of x ∷ second_of x ∷ []
      two-units k =
          let f : full 16 (bits 4 (x 5 % 16) ++ bits_in last s (at + 6) to) ≡ [] =
          full-few 16 (lit< tt) _ (simp (length-append, length-bits, length-bits_of, length-map, length-slice (at + 6) to s p.within) (omega arith)) in
          after_two ∙ rw f

      pub three-units : at + 8 ≤ to → units_between last s at to ≡ first_of x ∷ second_of x ∷ third_of x ∷ units_between last s (at + 8) to
      three-units h8 =
          let g = value_low 6 (omega arith) in
          let h = value_low 7 (omega arith) in
          let q : full 16 (bits 4 (x 5 % 16) ++ bits_in last s (at + 6) to) ≡ third_of x ∷ units_between last s (at + 8) to =
          rw (bits-step 6 7 refl (omega arith), bits-step 7 8 refl (omega arith), third-bits (x 5) (x 6) (x 7) (bits_in last s (at + 8) to) g h)
          (unit-first (third_of x) _ (omega arith)) in
          after_two ∙ rw q

pub no-unit : (last : ℕ) {s : List ℕ} {at to : ℕ} → Span (set_b last) s at to → to < at + 3 → units_between last s at to ≡ []
no-unit last {s} {at} {to} p k = full-few 16 (lit< tt) _ (simp (length-bits_of, length-map, length-slice at to s p.within) (omega arith))

-- the bits of so many letters that make no unit, counted from the last letter's first
left-none : (l q : ℕ) → l ≡ 8 * q → 0 < l → l * 6 / 16 * 16 ≡ (l - 1) * 6 + 6
left-none l q e p = rw e (omega (arith, e))

left-two : (l q : ℕ) → l ≡ 8 * q + 3 → l * 6 / 16 * 16 ≡ (l - 1) * 6 + 4
left-two l q e = rw e (omega arith)

left-four : (l q : ℕ) → l ≡ 8 * q + 6 → l * 6 / 16 * 16 ≡ (l - 1) * 6 + 2
left-four l q e = rw e (omega arith)

-- the bits that letters leave over: those of the last one
bits-snoc : (last : ℕ) (ls : List ℕ) (b : ℕ) → bits_of 6 (map (value_of last) (ls ++ b ∷ [])) ≡ bits_of 6 (map (value_of last) ls) ++ bits 6 (value_of last b)
unfolding bits_of
bits-snoc last [] b = append-nil (bits 6 (value_of last b))
bits-snoc last (l ∷ ls) b =
    rw (bits-snoc last ls b) (sym (append_assoc (bits 6 (value_of last l)) (bits_of 6 (map (value_of last) ls)) (bits 6 (value_of last b))))

module _ (last : ℕ) {s : List ℕ} {from to : ℕ} (p : Span (set_b last) s from to) (some : from < to) where
  abbrev final : ℕ
  final = value_of last (get_or s (to - 1) 0)

  slice_snoc : slice from to s ≡ slice from (to - 1) s ++ get_or s (to - 1) 0 ∷ []
  slice_snoc =
      let e : suc (to - 1) ≡ to = omega arith in
      let w = p.within in
      let t : take to s ≡ take (to - 1) s ++ (get_or s (to - 1) 0 ∷ []) = rw e at (take-suc s (to - 1) 0 (omega arith)) in
      ap (drop from) t ∙ drop-append-le from (take (to - 1) s) (get_or s (to - 1) 0 ∷ []) (omega (arith, length-take-le (to - 1) s (omega arith)))

  left-last : (m : ℕ) → (to - from) * 6 / 16 * 16 ≡ (to - from - 1) * 6 + m → left_over 16 (bits_in last s from to) ≡ drop m (bits 6 final)
  unfolding left_over
  left-last m e =
      let w = p.within in
      let f = bits_in last s from (to - 1) in
      let l : length (bits_in last s from to) ≡ (to - from) * 6 = simp (length-bits_of, length-map, length-slice from to s w) in
      let c : to - 1 - from ≡ to - from - 1 = omega arith in
      let k : length f ≡ (to - from - 1) * 6 = simp (length-bits_of, length-map, length-slice from (to - 1) s (omega arith), c) in
      let b : bits_in last s from to ≡ f ++ bits 6 final = rw slice_snoc (bits-snoc last (slice from (to - 1) s) (get_or s (to - 1) 0)) in
      rw (l, e, ← k, b) (drop-append-add f (bits 6 final) m)

  -- a run may end: by how many letters stand behind the last eight, and by the last
  pub ends-even : (to - from) % 8 ≡ 0 → may_end (left_over 16 (bits_in last s from to)) ≡ true
  unfolding may_end all_zero bits
  ends-even h = rw (left-last 6 (left-none (to - from) ((to - from) / 8) (omega arith) (omega arith)))

  ends_by : (m n : ℕ) → m + n ≡ 6 → n < 6 → (to - from) * 6 / 16 * 16 ≡ (to - from - 1) * 6 + m → final % 2 ^ n ≡ 0 → may_end (left_over 16 (bits_in last s from to)) ≡ true
  ends_by m n e k l z =
      let f : final < 2 ^ (m + n) = rw e (letter-low last _ (p.each (to - 1) (omega arith) (omega arith))) in
      let b : drop m (bits 6 final) ≡ bits n 0 = rw (e, z) at (bits-drop m n final f) in
      rw (left-last m l, b) (may-end n 0 (pow_pos n) ∙ rw (lt-ltb n 6 k))

  pub ends-three : (to - from) % 8 ≡ 3 → final % 4 ≡ 0 → may_end (left_over 16 (bits_in last s from to)) ≡ true
  ends-three h z = ends_by 4 2 refl (lit< tt) (left-two (to - from) ((to - from) / 8) (omega arith)) z

  pub ends-six : (to - from) % 8 ≡ 6 → final % 16 ≡ 0 → may_end (left_over 16 (bits_in last s from to)) ≡ true
  ends-six h z = ends_by 2 4 refl (lit< tt) (left-four (to - from) ((to - from) / 8) (omega arith)) z

  pub ends-closed : closes (to - from) final ≡ true → may_end (left_over 16 (bits_in last s from to)) ≡ true
  ends-closed e = by (eqb ((to - from) % 8) 0) (eqb ((to - from) % 8) 3) (eqb ((to - from) % 8) 6) refl refl refl e
    where
      by :
          (a b c : Bool) → eqb ((to - from) % 8) 0 ≡ a → eqb ((to - from) % 8) 3 ≡ b → eqb ((to - from) % 8) 6 ≡ c →
          cond a true (cond b (eqb (final % 4) 0) (cond c (eqb (final % 16) 0) false)) ≡ true → may_end (left_over 16 (bits_in last s from to)) ≡ true
      by true b c ea eb ec e = ends-even (eqb-true _ 0 ea)
      by false true c ea eb ec e = ends-three (eqb-true _ 3 eb) (eqb-true _ 0 e)
      by false false true ea eb ec e = ends-six (eqb-true _ 6 ec) (eqb-true _ 0 e)
      by false false false ea eb ec e = absurd (false≢true e)

-- only what stands behind the last eight counts, and the last letter where something does
pub closed-by : (l m v w : ℕ) → l % 8 ≡ m % 8 → (0 < m % 8 → w ≡ v) → closes m w ≡ true → closes l v ≡ true
closed-by l m v w e f h = by (eqb (m % 8) 0) refl
  where
    by : (a : Bool) → eqb (m % 8) 0 ≡ a → closes l v ≡ true
    by true a = rw (e, a)
    by false a =
        let q : w ≡ v = f (omega (arith, eqb-false (m % 8) 0 a)) in
        rw (e, ← q) h

-- three letters, and a byte that is none
pub three-run :
    {last : ℕ} (s : List ℕ) (from : ℕ) → from + 3 < length s → set_b last (get_or s from 0) ≡ true → set_b last (get_or s (from + 1) 0) ≡ true →
    set_b last (get_or s (from + 2) 0) ≡ true → set_b last (get_or s (from + 3) 0) ≡ false → value_of last (get_or s (from + 2) 0) % 4 ≡ 0 → Run last s from (from + 3)
three-run {last} s from h a b c o z =
    let two : from + 1 + 1 ≡ from + 2 = omega arith in
    let three : from + 2 + 1 ≡ from + 3 = omega arith in
    let final : from + 3 - 1 ≡ from + 2 = omega arith in
    let p = span_more (span_more (span-stay {set = set_b last} {s = s} from (omega arith)) (omega arith) a) (omega arith) b in
    let q : Span (set_b last) s from (from + 3) = rw three at (span_more (rw two at p) (omega arith) c) in
    record {
      some = omega arith;
      letters = q;
      over = o;
      ends = ends-three last q (omega arith) (omega arith) (rw final z);
    }

-- units of letters: those of their first eights, and the rest
known-shift : {last : ℕ} {s : List ℕ} {at to : ℕ} {x : ℕ → ℕ} → Known last s at to x → Known last s (at + 8) to (λ k. x (8 + k))
known-shift {s = s} {at} {to} {x} v =
    record {
      so = λ k l.
          let e : at + (8 + k) ≡ at + 8 + k = omega arith in
          rw e at (v.so (8 + k) (omega arith));
    }

pub units-split :
    (last : ℕ) (s : List ℕ) (from to q : ℕ) → Span (set_b last) s from to → from + 8 * q ≤ to →
    units_between last s from to ≡ units_between last s from (from + 8 * q) ++ units_between last s (from + 8 * q) to
units-split last s from to zero p h =
    let e : from + 8 * 0 ≡ from = omega arith in
    rw (e, no-unit last (span-stay {set = set_b last} {s = s} from (omega (arith, p.ordered, p.within))) (omega arith))
units-split last s from to (suc q) p h =
    let e : from + 8 + 8 * q ≡ from + 8 * suc q = omega arith in
    let v : (b : ℕ) → Known last s from b (λ k. value_of last (get_or s (from + k) 0)) = λ b. record { so = λ k l. refl } in
    let r : units_between last s (from + 8) to ≡ units_between last s (from + 8) (from + 8 * suc q) ++ units_between last s (from + 8 * suc q) to =
    rw e at (units-split last s (from + 8) to q (span-from (from + 8) p (omega arith) (omega arith)) (omega arith)) in
    rw (
      three-units p (v to) (omega arith) (omega arith) (omega arith),
      three-units (span_to (from + 8 * suc q) p (omega arith) h) (v (from + 8 * suc q)) (omega arith) (omega arith) (omega arith),
      r,
    )

-- units of letters stand first among those of eights that cover them
pub units-front :
    {last : ℕ} {s : List ℕ} {at to : ℕ} {x : ℕ → ℕ} (m : ℕ) → Span (set_b last) s at to → to ≤ at + 8 * m → Known last s at to x →
    take (length (units_between last s at to)) (units_of m x) ≡ units_between last s at to
units-front {last = last} zero p h v = rw (no-unit last p (omega arith))
units-front {last} {s} {at} {to} {x} (suc m) p h v =
    eight (λ g. units-front {at = at + 8} m (span-from (at + 8) p (omega arith) g) (omega arith) (known-shift v)) (leb (at + 8) to) refl
  where
    three : (t : Bool) → leb (at + 3) to ≡ t → to < at + 6 → take (length (units_between last s at to)) (units_of (suc m) x) ≡ units_between last s at to
    three true e l = rw (one_unit p v (leb-true (at + 3) to e) l)
    three false e l = rw (no-unit last p (leb-false (at + 3) to e))

    six : (t : Bool) → leb (at + 6) to ≡ t → to < at + 8 → take (length (units_between last s at to)) (units_of (suc m) x) ≡ units_between last s at to
    six true e l =
        let g = leb-true (at + 6) to e in
        rw (two-units p v (omega arith) g l)
    six false e l = three (leb (at + 3) to) refl (leb-false (at + 6) to e)

    eight :
        (at + 8 ≤ to → take (length (units_between last s (at + 8) to)) (units_of m (λ k. x (8 + k))) ≡ units_between last s (at + 8) to) → (t : Bool) → leb (at + 8) to ≡ t →
        take (length (units_between last s at to)) (units_of (suc m) x) ≡ units_between last s at to
    eight f true e =
        let g = leb-true (at + 8) to e in
        rw (three-units p v (omega arith) (omega arith) g)
        (ap (λ (r : List ℕ). three_of x ++ r) (f g))
    eight f false e = six (leb (at + 6) to) refl (leb-false (at + 8) to e)

-- one more element of an array
pub set_more :
    (xs : List ℕ) (k v : ℕ) (Q : ℕ → ℕ → Type 0) → k < length xs → ((j : ℕ) → j < k → Q j (get_or xs j 0)) → Q k v →
    (j : ℕ) → j < k + 1 → Q j (get_or (set xs k v) j 0)
set_more xs k v Q h f g j l = at (eqb j k) refl
  where
    at : (t : Bool) → eqb j k ≡ t → Q j (get_or (set xs k v) j 0)
    at true e = rw (eqb-true j k e, get_or-set_same xs k v 0 h) g
    at false e = rw (get_or-set_other xs k j v 0 (eqb-false j k e)) (f j (omega (arith, eqb-false j k e)))
