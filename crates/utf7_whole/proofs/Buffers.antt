-- The buffer of units on its way: what a run and each other kind of token lay into it. Assumes nothing.
use Prim.Native.Nat.{ℕ, zero, suc, ◌+◌, ◌-◌, ◌*◌, ◌/◌, ◌%◌, ◌<◌, ◌≤◌}
use mathlib.Core.Path.{◌≡◌, refl, sym, ap, ◌∙◌}
use mathlib.Core.Bool.{Bool, true, false, cond, false≢true}
use mathlib.Core.List.{List, [], ◌∷◌, ◌++◌, append-nil}
use native.Mathlib.Nat.{add-zero, zero-add}
use native.Mathlib.Omega.{arith}
use lib.ListN.{length, get_or, take, drop, set, length-append, length-drop, length-take, replicate, get_or-eq_default}
use lib.Seq.{slice, length-slice, length-take-le, take-take, take_at, take-add, take-length, ext_get_or, get_or-set_other}
use lib.Dec.{ltb}
use borrow.Author.Tests.{ltb-true, ltb-false, lt-ltb, ne_eqb}
use Rattle.answer.proofs.Laid.{Laid, laid_none, laid_one, laid_on, laid-front}
use Rattle.marks.specs.Marks.{ahead_in}
use Rattle.marks.proofs.Counting.{ahead-le, ahead-zero}
use Rattle.alphabet.specs.Letters.{value_of, set_b, slash}
use Rattle.reading.specs.Reading.{Rule, Reading, give, go, read_from, reading}
use Rattle.reading.proofs.Laws.{left-start, left-more, left-go}
use Rattle.reading.proofs.Strides.{Stride, stride-give, left-stride}
use Rattle.utf7.specs.Sets.{alphanumeric, set_d, set_o, direct}
use Rattle.utf7.specs.Rule.{outside, utf7}
use Rattle.utf7_whole.specs.Quick.{Padded, FilledBy, Filled, Fills, Marked, Span, Ahead, Letters, Run, Values, One, Went, Last, units_between, past, units_of, lows, closes, stops}
use Rattle.utf7_whole.proofs.Tokens.{span-stay, span-on, span-ahead, ahead-as, length-units, no-unit, units-split, units-front, set_more, known, Known, ends-closed, closed-by, three-run, one_unit, slice_at, slice-rest, some_at, direct-stride, sign-stride, run-stride}

-- a front that is all
pub all-front : {xs ys : List ℕ} → length xs ≡ length ys → take (length ys) xs ≡ ys → xs ≡ ys
all-front {xs} {ys} e h = sym (take-length xs) ∙ ap (λ (k : ℕ). take k xs) e ∙ h

-- zeros
pub zero-at : (n i : ℕ) → ◌≡◌ {A = ℕ} (get_or (replicate n 0) i 0) 0
zero-at zero i = refl
zero-at (suc n) zero = refl
zero-at (suc n) (suc i) = zero-at n i

pub laid-all : {cs a b : List ℕ} → Laid cs 0 a b → length b ≡ length cs → b ≡ cs
laid-all {cs} {a} {b} l e = all-front {xs = b} {ys = cs} e (rw (zero-add (length cs)) at l.front)

-- what is laid has room
pub laid-room : {cs a b : List ℕ} {n : ℕ} → Laid cs n a b → n ≤ length a → n + length cs ≤ length b
laid-room {cs} {a} {b} {n} l h =
    omega (arith, ap length l.front, length-append (take n a) cs, length-take-le n a h, length-take (n + length cs) b)

-- letters among 32 bytes, by their values
ahead-letters : {last : ℕ} {s : List ℕ} {at m : ℕ} {xs : List ℕ} → Values last s at xs → Ahead (λ k. ltb (get_or xs k 0) 64) 32 m → Ahead (λ k. set_b last (get_or s (at + k) 0)) 32 m
unfolding set_b
ahead-letters v p = ahead-as p (λ j h. rw (v.so j h))

-- a run on its way: its letters so far are eights, and their units are laid
pub record Going (last : ℕ) (s : List ℕ) (from start : ℕ) (out₀ : List ℕ) (at n : ℕ) (out : List ℕ) : Type 0 where
  pub letters : Span (set_b last) s from at
  pub eights : (at - from) % 8 ≡ 0
  pub laid : Laid (units_between last s from at) start out₀ out
  pub count : n ≡ start + (at - from) * 6 / 16

pub going_start : {last : ℕ} (s : List ℕ) (from start : ℕ) (out : List ℕ) → from ≤ length s → Going last s from start out from start out
going_start {last} s from start out h =
    let p = span-stay {set = set_b last} {s = s} from h in
    let z : from - from ≡ 0 = omega arith in
    record {
      letters = p;
      eights = rw z;
      laid = rw (no-unit last p (omega arith)) (laid_none start out);
      count = rw z (omega arith);
    }

-- no run: the places before it are kept
pub went-none : {last : ℕ} {s : List ℕ} {from start : ℕ} {out out' : List ℕ} (n : ℕ) → Laid [] start out out' → Went last s from start out out' from n
went-none n l = record { kept = l; run = λ f. absurd (f refl); laid = λ f. absurd (f refl); count = λ f. absurd (f refl) }

pub going-kept : {last : ℕ} {s : List ℕ} {from start : ℕ} {out₀ : List ℕ} {at n : ℕ} {out : List ℕ} → Going last s from start out₀ at n out → start ≤ length out₀ → Laid [] start out₀ out
going-kept g h = laid-front 0 g.laid h (omega arith)

count_add : (n q m : ℕ) → n + 8 * q * 6 / 16 + m * 6 / 16 ≡ n + (8 * q + m) * 6 / 16
count_add n q m = omega arith

-- letters more, whose units are laid
module _ {last : ℕ} {s : List ℕ} {from start : ℕ} {out₀ : List ℕ} {at n : ℕ} {out : List ℕ} (g : Going last s from start out₀ at n out) (h : start ≤ length out₀) where
  size-so-far : n ≡ start + length (units_between last s from at)
  size-so-far = rw (length-units last s from at g.letters.within) g.count

  pub going-none : {cs out' : List ℕ} → Laid cs n out out' → Laid [] start out₀ out'
  going-none l = laid-front 0 (laid_on g.laid size-so-far l) h (omega arith)

  module _ (m : ℕ) {out' : List ℕ} (here : Span (set_b last) s at (at + m)) (q : Laid (units_between last s at (at + m)) n out out') where
    letters-on : Span (set_b last) s from (at + m)
    letters-on = span-on g.letters here

    size-on : length (units_between last s from (at + m)) ≡ (at + m - from) * 6 / 16
    size-on = length-units last s from (at + m) letters-on.within

    count-on : n + m * 6 / 16 ≡ start + (at + m - from) * 6 / 16
    count-on =
        let q = (at - from) / 8 in
        let a : at - from ≡ 8 * q = omega (arith, g.eights) in
        let b : at + m - from ≡ 8 * q + m = omega (arith, g.letters.ordered, a) in
        rw (g.count, a, b) (count_add start q m)

    laid-letters : Laid (units_between last s from (at + m)) start out₀ out'
    laid-letters =
        let e : from + 8 * ((at - from) / 8) ≡ at = omega (arith, g.eights, g.letters.ordered) in
        let u : units_between last s from (at + m) ≡ units_between last s from at ++ units_between last s at (at + m) =
        rw e at (units-split last s from (at + m) ((at - from) / 8) letters-on (omega (arith, g.eights, g.letters.ordered))) in
        rw u (laid_on g.laid size-so-far q)

    pub going_more : m ≡ 32 → Going last s from start out₀ (at + 32) (n + 12) out'
    going_more e =
        record {
          letters = rw e at letters-on;
          eights = omega (arith, g.eights, g.letters.ordered);
          laid = rw e at laid-letters;
          count = rw e at count-on;
        }

    pub going_end :
        set_b last (get_or s (at + m) 0) ≡ false → closes m (value_of last (get_or s (at + m - 1) 0)) ≡ true → Went last s from start out₀ out' (at + m) (n + m * 6 / 16)
    going_end o e =
        let j : (at + m - from) % 8 ≡ m % 8 = omega (arith, g.eights, g.letters.ordered) in
        record {
          kept = going-none q;
          run = λ f.
              let r : from < at + m = omega (arith, letters-on.ordered, f) in
              record { some = r; letters = letters-on; over = o; ends = ends-closed last letters-on r (closed-by (at + m - from) m (value_of last (get_or s (at + m - 1) 0)) (value_of last (get_or s (at + m - 1) 0)) j (λ z. refl) e) };
          laid = λ f. laid-letters;
          count = λ f. rw size-on count-on;
        }

-- 32 values, of which letters stand in front
module _ {last : ℕ} {s : List ℕ} {at : ℕ} {xs : List ℕ} (v : Values last s at xs) {m : ℕ} (few : m ≤ 32) where
  pub closed_in : stops xs m ≡ true → closes m (value_of last (get_or s (at + m - 1) 0)) ≡ true
  closed_in e =
      closed-by m m (value_of last (get_or s (at + m - 1) 0)) (get_or xs (m - 1) 0) refl
      (λ z.
      let q : at + (m - 1) ≡ at + m - 1 = omega arith in
      rw q at (v.so (m - 1) (omega arith)))
      e

  pub units_in : Span (set_b last) s at (at + m) → take (m * 6 / 16) (units_of 4 (lows xs)) ≡ units_between last s at (at + m)
  units_in here =
      let k : at + m ≤ at + 32 = omega arith in
      let e : length (units_between last s at (at + m)) ≡ m * 6 / 16 = length-units last s at (at + m) here.within ∙ ap (λ (l : ℕ). l * 6 / 16) (omega arith) in
      rw e at (units-front 4 here k (known here k v))

  pub laid_in : {n : ℕ} {out out' : List ℕ} → Span (set_b last) s at (at + m) → n ≤ length out → Laid (units_of 4 (lows xs)) n out out' → Laid (units_between last s at (at + m)) n out out'
  laid_in here k l = rw (units_in here) at (laid-front (m * 6 / 16) l k (omega arith))

-- 32 values more, and their units laid, of which those count that the letters in front hold
module _ {last : ℕ} {s : List ℕ} {from start : ℕ} {out₀ : List ℕ} {at n : ℕ} {out : List ℕ} (g : Going last s from start out₀ at n out) (h : start ≤ length out₀) (k : n ≤ length out) (w : at + 32 ≤ length s) where
  module _ (xs : List ℕ) {out' : List ℕ} (l : Laid (units_of 4 (lows xs)) n out out') (v : Values last s at xs) {m : ℕ} (p : Ahead (λ k. ltb (get_or xs k 0) 64) 32 m) where
    here_in : Span (set_b last) s at (at + m)
    here_in = span-ahead (set_b last) (ahead-letters v p) w

    pub going_on : m ≡ 32 → Going last s from start out₀ (at + 32) (n + 12) out'
    going_on e = going_more g h m here_in (laid_in v p.upto here_in k l) e

    pub going-went : m < 32 → stops xs m ≡ true → Went last s from start out₀ out' (at + m) (n + m * 6 / 16)
    going-went z e = going_end g h m here_in (laid_in v p.upto here_in k l) ((ahead-letters v p).over z) (closed_in v p.upto e)

-- the last letters
pub going-last :
    {last : ℕ} {s : List ℕ} {from start : ℕ} {out₀ : List ℕ} {at n : ℕ} {out out' : List ℕ} {end m : ℕ} → Going last s from start out₀ at n out → start ≤ length out₀ →
    Last last s from at n out out' end m → Went last s from start out₀ out' end m
going-last {last} {s} {from} {start} {out₀} {at} {n} {out} {out'} {end} {m} g h l =
    record { kept = going-none g h l.kept; run = λ f. (went f).run f; laid = λ f. (went f).laid f; count = λ f. rw (l.count f) ((went f).count f) }
  where
    went : (end ≡ from → ⊥) → Went last s from start out₀ out' end (n + (end - at) * 6 / 16)
    went f =
        let e : at + (end - at) ≡ end = omega (arith, (l.letters f).letters.ordered) in
        rw e at (going_end g h (end - at) {out' = out'} (rw e (l.letters f).letters) (rw e (l.laid f)) (rw e (l.letters f).over) (rw e (l.closed f)))

pub last_none : {last : ℕ} {s : List ℕ} {from : ℕ} (at n : ℕ) (out : List ℕ) (m : ℕ) → Last last s from at n out out from m
last_none at n out m =
    record { kept = laid_none n out; letters = λ f. absurd (f refl); closed = λ f. absurd (f refl); laid = λ f. absurd (f refl); count = λ f. absurd (f refl) }

pub last_done :
    {last : ℕ} {s : List ℕ} (from : ℕ) {at end n u : ℕ} {out out' xs ys : List ℕ} → Letters last s at end → end - at ≤ 31 → Values last s at xs → stops xs (end - at) ≡ true → u ≡ (end - at) * 6 / 16 →
    ys ≡ units_of 4 (lows xs) → Laid (take u ys) n out out' → n ≤ length out → Last last s from at n out out' end (n + u)
last_done {last} {s} from {at} {end} {n} {u} {out} {out'} {xs} {ys} l few v e q y d h =
    let z : at + (end - at) ≡ end = omega (arith, l.letters.ordered) in
    let k : end - at ≤ 32 = omega arith in
    let here : Span (set_b last) s at (at + (end - at)) = rw z l.letters in
    let t : take u ys ≡ units_between last s at end = rw (q, y, units_in v k here, z) in
    record {
      kept = laid-front 0 d h (omega arith);
      letters = λ _. l;
      closed = λ _. rw z at (closed_in v k e);
      laid = λ _. rw t at d;
      count = λ _. rw q;
    }

pub one-made :
    {last : ℕ} {s : List ℕ} {from a b c u : ℕ} → a ≡ value_of last (get_or s from 0) → b ≡ value_of last (get_or s (from + 1) 0) → c ≡ value_of last (get_or s (from + 2) 0) →
    (a < 64) × (b < 64) × (c < 64) × (get_or s (from + 3) 0 ≡ 45) × (c % 4 ≡ 0) → u ≡ (a * 64 + b) * 16 + c / 4 → One last s from u
unfolding set_b
one-made e f g o q =
    record {
      first = rw (← e) (lt-ltb _ 64 o.0);
      second = rw (← f) (lt-ltb _ 64 o.1);
      third = rw (← g) (lt-ltb _ 64 o.2);
      ends = rw (← g) o.4;
      over = o.3;
      so = rw (← e, ← f, ← g) q;
    }

-- three letters and '-'
pub slash-dash : set_b slash 45 ≡ false
unfolding set_b value_of
slash-dash = refl

module _ {last : ℕ} (dash : set_b last 45 ≡ false) {s : List ℕ} {from unit : ℕ} (o : One last s from unit) where
  pub one-run : Run last s from (from + 3)
  one-run = three-run s from (some_at s (from + 3) (omega (arith, o.over))) o.first o.second o.third (rw o.over dash) o.ends

  pub one-units : units_between last s from (from + 3) ≡ unit ∷ []
  one-units =
      let z : from + 0 ≡ from = omega arith in
      let x : Known last s from (from + 3) (λ k. value_of last (get_or s (from + k) 0)) = record { so = λ k l. refl } in
      let e = one_unit one-run.letters x (omega arith) (omega arith) in
      rw o.so (rw z at e)

pub one-past : {last : ℕ} {s : List ℕ} {from unit : ℕ} → One last s from unit → past s (from + 3) ≡ from + 4
one-past o = rw o.over (omega arith)

-- slices side by side
slice-join : (s : List ℕ) (from at to : ℕ) → from ≤ at → at ≤ to → to ≤ length s → slice from to s ≡ slice from at s ++ slice at to s
slice-join s from at to h k l =
    let t = slice-rest (take to s) from at h (omega (arith, length-take-le to s l)) in
    rw (take-take at to s k) at t

module _ (s : List ℕ) (from at to : ℕ) (h : from ≤ at) (k : at ≤ to) (l : to ≤ length s) {n : ℕ} {a b : List ℕ} where
  pub laid-slices : {m : ℕ} {c : List ℕ} → Laid (slice from at s) n a b → m ≡ n + (at - from) → Laid (slice at to s) m b c → Laid (slice from to s) n a c
  laid-slices p e q =
      let w : length (slice from at s) ≡ at - from = length-slice from at s (omega arith) in
      rw (slice-join s from at to h k l) (laid_on p (omega (arith, w)) q)

  pub laid-slice : Laid (slice from to s) n a b → n ≤ length a → Laid (slice from at s) n a b
  laid-slice p q =
      let e : take (length (slice from at s)) (slice from to s) ≡ slice from at s =
      rw (slice-join s from at to h k l) (take_at (slice from at s) (slice at to s) (length (slice from at s)) refl) in
      let w : length (slice from at s) ≤ length (slice from to s) = omega (arith, length-slice from at s (omega arith), length-slice from to s l) in
      rw e at (laid-front (length (slice from at s)) p q w)

-- a room of zeros that has the first k bytes of a text
pub record Padding (s : List ℕ) (k : ℕ) (room : List ℕ) : Type 0 where
  pub upto : (i : ℕ) → i < k → get_or room i 0 ≡ get_or s i 0
  pub behind : (i : ℕ) → k ≤ i → get_or room i 0 ≡ 0

pub padding-start : (s room : List ℕ) → ((i : ℕ) → get_or room i 0 ≡ 0) → Padding s 0 room
padding-start s room z = record { upto = λ i h. absurd (omega arith); behind = λ i h. z i }

pub padding-more : {s room : List ℕ} {k : ℕ} → Padding s k room → k < length room → Padding s (k + 1) (set room k (get_or s k 0))
padding-more {s} {room} {k} p h =
    record {
      upto = set_more room k (get_or s k 0) (λ i x. x ≡ get_or s i 0) h p.upto refl;
      behind = λ i l. get_or-set_other room k i (get_or s k 0) 0 (λ e. omega arith) ∙ p.behind i (omega arith);
    }

pub padding-done : {s room : List ℕ} {k : ℕ} → Padding s k room → k ≡ length s → Padded s room
padding-done {s} {room} {k} p e = record { same = λ i. by i (ltb i k) refl }
  where
    by : (i : ℕ) (t : Bool) → ltb i k ≡ t → get_or room i 0 ≡ get_or s i 0
    by i true q = p.upto i (ltb-true i k q)
    by i false q = p.behind i (ltb-false i k q) ∙ sym (get_or-eq_default s 0 (omega (arith, ltb-false i k q)))

pub padded-self : (s : List ℕ) → Padded s s
padded-self s = record { same = λ i. refl }

-- the rest of a text, as it is lent
pub padded-part : (s : List ℕ) (at : ℕ) → Padded (drop at s) (take (length s - at) (drop at s))
padded-part s at = rw (← length-drop at s, take-length (drop at s)) (padded-self (drop at s))

-- what stands in a text that is lent with zeros behind it stands in the text
zero-direct : direct 0 ≡ false
unfolding direct set_d set_o alphanumeric
zero-direct = refl

slash-zero : set_b slash 0 ≡ false
unfolding set_b value_of
slash-zero = refl

-- the values of the bytes up to the text's end, and 64
zero-value : (last : ℕ) → 0 < last → value_of last 0 ≡ 64
unfolding value_of
zero-value last h = rw (ne_eqb 0 last (omega arith))

pub zero-letter : (last : ℕ) → 0 < last → set_b last 0 ≡ false
unfolding set_b
zero-letter last h = rw (zero-value last h)

pub near-done :
    {last : ℕ} {s : List ℕ} {at k : ℕ} (xs : List ℕ) → ((j : ℕ) → j < k → get_or xs j 0 ≡ value_of last (get_or s (at + j) 0)) → ((j : ℕ) → k ≤ j → j < 32 → get_or xs j 0 ≡ 64) →
    length s ≤ at + k → 0 < last → Values last s at xs
near-done {last} {s} {at} {k} xs f g h o = record { so = λ j l. by j l (ltb j k) refl }
  where
    by : (j : ℕ) → j < 32 → (t : Bool) → ltb j k ≡ t → get_or xs j 0 ≡ value_of last (get_or s (at + j) 0)
    by j l true e = f j (ltb-true j k e)
    by j l false e =
        let z : get_or s (at + j) 0 ≡ 0 = get_or-eq_default s 0 (omega (arith, ltb-false j k e)) in
        g j (ltb-false j k e) l ∙ rw (z, zero-value last o)

module _ {s room : List ℕ} (p : Padded s room) where
  -- bytes of a set that has no 0
  pub span-padded : (set : ℕ → Bool) {from to : ℕ} → set 0 ≡ false → Span set room from to → from ≤ length s → Span set s from to
  span-padded set {from} {to} z q h =
      record { ordered = q.ordered; within = by (ltb (length s) to) refl; each = λ i l m. rw (p.same i) at (q.each i l m) }
    where
      by : (t : Bool) → ltb (length s) to ≡ t → to ≤ length s
      by true e =
          let b = q.each (length s) h (ltb-true (length s) to e) in
          let d : get_or room (length s) 0 ≡ 0 = p.same (length s) ∙ get_or-eq_default s 0 (omega arith) in
          absurd (false≢true (sym z ∙ rw d at b))
      by false e = ltb-false (length s) to e

  pub slice-padded : (from to : ℕ) → to ≤ length s → to ≤ length room → slice from to room ≡ slice from to s
  slice-padded from to h k =
      ext_get_or 0 _ _ (length-slice from to room k ∙ sym (length-slice from to s h))
      (λ i l.
      let m : from + i < to = omega (arith, length-slice from to room k) in
      slice_at room from to i m ∙ p.same (from + i) ∙ sym (slice_at s from to i m))

  pub run-padded : {last from to : ℕ} → set_b last 0 ≡ false → Run last room from to → from ≤ length s → Run last s from to
  run-padded {last} {from} {to} z r h =
      let q = span-padded (set_b last) z r.letters h in
      record {
        some = r.some;
        letters = q;
        over = rw (p.same to) at r.over;
        ends = rw (slice-padded from to q.within r.letters.within) at r.ends;
      }

-- a buffer with the cells so far: what is laid behind them
module _ {S : Type 0} {rule : Rule S} {s : List ℕ} {at : ℕ} {st : S} {n : ℕ} {a : List ℕ} (f : FilledBy rule s at st n a) where
  pub filled-stride : {to : ℕ} {cs : List ℕ} {st' : S} {b : List ℕ} → Stride rule s at st to cs st' → Laid cs n a b → FilledBy rule s to st' (n + length cs) b
  filled-stride {to} {cs} {st'} q l =
      let c = f.left.cells ∙ ap (λ (x : Reading). x.cells) q.same in
      record {
        left = left-stride q f.left;
        front =
            l.front
            ∙ rw (f.front, take-add n (length cs) (reading rule s).cells, c, take_at cs (read_from rule (drop to s) to st').cells (length cs) refl);
      }

  -- places further on are written
  pub filled-kept : {b : List ℕ} → Laid [] n a b → FilledBy rule s at st n b
  filled-kept l = record { left = f.left; front = rw (add-zero, append-nil) at l.front ∙ f.front }

  pub filled_in : n ≤ length a
  filled_in = omega (arith, ap length f.front, length-take n a, length-take-le n (reading rule s).cells f.left.inside)

  pub filled-done : n ≡ length (reading rule s).cells → take (length (reading rule s).cells) a ≡ (reading rule s).cells
  filled-done e = ap (λ (k : ℕ). take k a) (sym e) ∙ f.front ∙ rw (e, take-length (reading rule s).cells)

  pub filled-as : {to m : ℕ} → at ≡ to → n ≡ m → FilledBy rule s to st m a
  filled-as e q = rw (← e, ← q) f

  -- a byte
  module _ (h : at < length s) where
    pub filled-place : {v : ℕ} {st' : S} → rule.byte st (get_or s at 0) ≡ give v st' → length (reading rule s).cells ≤ length a → n < length a
    filled-place e k = omega (arith, left-more f.left h e)

    pub filled-give : {v : ℕ} {st' : S} → rule.byte st (get_or s at 0) ≡ give v st' → n < length a → FilledBy rule s (at + 1) st' (n + 1) (set a n v)
    filled-give {v} e k = filled-stride (stride-give h e) (laid_one n v a k)

    pub filled-go : {st' : S} → rule.byte st (get_or s at 0) ≡ go st' → FilledBy rule s (at + 1) st' n a
    filled-go e = record { left = left-go f.left h e; front = f.front }

-- what each kind of token adds
module _ {s : List ℕ} {at n : ℕ} {a : List ℕ} (f : Filled s at outside n a) {room : List ℕ} (p : Padded s room) where
  pub filled-direct : (k : ℕ) {b : List ℕ} → Span direct room at (at + k) → Laid (slice at (at + k) room) n a b → Filled s (at + k) outside (n + k) b
  filled-direct k q l =
      let d = span-padded p direct zero-direct q f.left.within in
      let e : length (slice at (at + k) s) ≡ k = length-slice at (at + k) s d.within ∙ omega arith in
      rw e at (filled-stride f (direct-stride d) (rw (slice-padded p at (at + k) d.within q.within) at l))

  module _ (sign : get_or room at 0 ≡ 43) where
    sign-here : get_or s at 0 ≡ 43
    sign-here = rw (p.same at) at sign

    pub filled-sign : n < length a → get_or room (at + 1) 0 ≡ 45 → Filled s (at + 2) outside (n + 1) (set a n 43)
    filled-sign h g =
        let e : get_or s (at + 1) 0 ≡ 45 = rw (p.same (at + 1)) at g in
        filled-stride f (sign-stride (some_at s (at + 1) (omega arith)) sign-here e) (laid_one n 43 a h)

    pub filled-run :
        {to m : ℕ} {b : List ℕ} → Run slash room (at + 1) to → Laid (units_between slash room (at + 1) to) n a b → m ≡ n + length (units_between slash room (at + 1) to) →
        Filled s (past room to) outside m b
    filled-run {to} r l q =
        let h : at < length s = some_at s at (omega (arith, sign-here)) in
        let d = run-padded p slash-zero r (omega arith) in
        let e = slice-padded p (at + 1) to d.letters.within r.letters.within in
        rw (q, e, p.same to) (filled-stride f (run-stride sign-here d) (rw e at l))

    pub filled-one : {unit : ℕ} → n < length a → One slash room (at + 1) unit → Filled s (at + 5) outside (n + 1) (set a n unit)
    filled-one {unit} g o =
        let q : past room (at + 1 + 3) ≡ at + 5 = one-past o ∙ omega arith in
        let f : Filled s (past room (at + 1 + 3)) outside (n + 1) (set a n unit) = filled-run (one-run slash-dash o) (rw (one-units slash-dash o) (laid_one n unit a g)) (rw (one-units slash-dash o)) in
        rw q at f

-- as far as there are marks of 0
marked-direct : (b : Bool) → ◌≡◌ {A = ℕ} (cond b 0 255) 0 → b ≡ true
marked-direct true e = refl
marked-direct false e = absurd (omega arith)

pub span-marked :
    {s xs : List ℕ} {from : ℕ} → Marked s from xs → (j : ℕ) {at r : ℕ} → r ≡ ahead_in xs j → at ≡ from + j → j + 16 ≤ 144 → at + 16 ≤ length s → Span direct s at (at + r)
span-marked {s} {xs} {from} m j {at} {r} e p h l =
    record { ordered = omega arith; within = omega (arith, ahead-le xs j); each = by }
  where
    by : (i : ℕ) → at ≤ i → i < at + r → direct (get_or s i 0) ≡ true
    by i a b =
        let k = i - at in
        let q : from + (j + (i - at)) ≡ i = omega arith in
        let z = ahead-zero xs j (i - at) (omega arith) in
        let t = m.so (j + (i - at)) (omega (arith, ahead-le xs j)) in
        rw q at (marked-direct (direct (get_or s (from + (j + (i - at))) 0)) (sym t ∙ z))

-- a buffer on its way
pub fills-none : (room : List ℕ) (at n : ℕ) (out : List ℕ) → Fills room at n out at n out
fills-none room at n out = record { same = refl; on = omega arith; fills = λ s p f. f }

pub fills-on :
    {room : List ℕ} {from start : ℕ} {out : List ℕ} {at n : ℕ} {out' : List ℕ} → Fills room from start out at n out' → {to m : ℕ} {out'' : List ℕ} → at ≤ to → length out'' ≡ length out' →
    ((s : List ℕ) → Padded s room → Filled s at outside n out' → Filled s to outside m out'') → Fills room from start out to m out''
fills-on f h e g = record { same = e ∙ f.same; on = omega (arith, f.on); fills = λ s p q. g s p (f.fills s p q) }

pub filled-start : (s a : List ℕ) → Filled s 0 outside 0 a
filled-start s a = record { left = left-start utf7 s; front = refl }
