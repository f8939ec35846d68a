-- The units that a word takes, found one unit at a time; a line, word by word. Assumes nothing.
use Prim.Native.Nat.{ℕ, zero, suc, ◌+◌, ◌-◌, ◌<◌, ◌≤◌}
use mathlib.Core.Path.{◌≡◌, refl, sym, ap, ◌∙◌}
use mathlib.Core.Bool.{Bool, true, false, cond, ◌&&◌, false≢true}
use mathlib.Core.List.{List, [], ◌∷◌, ◌++◌, append_assoc, append-nil, map}
use native.Mathlib.Omega.{arith}
use native.Mathlib.Numerals.{add-one}
use native.Mathlib.Nat.{add-zero}
use lib.ListN.{length, get_or, take, drop, length-append, length-take, length-drop, get_or-eq_default}
use lib.Seq.{take-suc, take-length, take_all, drop-drop}
use lib.Dec.{ltb, leb, eqb, lit≤}
use borrow.Author.Tests.{ltb-true, ltb-false, leb-true, leb-false, le-leb, lt-leb, eqb-true, eqb-false, lt-ltb, le-ltb}
use Rattle.answer.specs.Answer.{limit}
use Rattle.answer.specs.Lists.{Each}
use Rattle.answer.proofs.Below.{cond-case, both, each_at, each_take, each-drop}
use Rattle.alphabet.specs.Letters.{within}
use Rattle.utf7.specs.Sets.{own}
use Rattle.utf7.specs.Writing.{IsUnit, writing, spell_all, pieces}
use Rattle.utf7.specs.declared.Style.TheVariants.{Header}
use Rattle.encoded_word.specs.Writing.{q_text, word_start, word_end, joint, word_of, fits, is_high, is_low, parts}
use Rattle.encoded_word.specs.Writing.{share_of, shares, joined, line_of}
use Rattle.encoded_word.specs.Inner.{trailing, run_after, brings, q_size, end_of, word_and}
use Rattle.encoded_word.proofs.Greedy.{two-fit, share-some, share-few, share-fits, share-whole, share-most}
use Rattle.encoded_word.proofs.Grow.{q-more, fits-less}

-- a word fits if its characters do
word_size : (us : List ℕ) → length (word_of us) ≡ 12 + q_size us
unfolding word_of q_size
word_size us = omega (arith, length-append (q_text (writing Header us)) word_end)

pub size_fits : (us : List ℕ) → q_size us ≤ 63 → fits us ≡ true
unfolding fits
size_fits us h = le-leb (length (word_of us)) 75 (omega (arith, word_size us))

size-over : (us : List ℕ) → 63 < q_size us → fits us ≡ false
unfolding fits
size-over us h = lt-leb (length (word_of us)) 75 (omega (arith, word_size us))

pub fits-size : (us : List ℕ) → fits us ≡ true → q_size us ≤ 63
unfolding fits
fits-size us h = omega (arith, word_size us, leb-true (length (word_of us)) 75 h)

-- the laws of a word's share, of any units where there are some
few-taken : (us : List ℕ) → 0 < length us → share_of us ≤ length us
few-taken [] h = absurd (omega arith)
few-taken (u ∷ us) h = share-few u us

some-taken : (us : List ℕ) → 0 < length us → 0 < share_of us
some-taken [] h = absurd (omega arith)
some-taken (u ∷ us) h = share-some u us

taken-fits : (us : List ℕ) → 0 < length us → fits (take (share_of us) us) ≡ true
taken-fits [] h = absurd (omega arith)
taken-fits (u ∷ us) h = share-fits u us

taken-whole : (us : List ℕ) → 0 < length us → parts us (share_of us) ≡ false
taken-whole [] h = absurd (omega arith)
taken-whole (u ∷ us) h = share-whole u us

taken-most :
    (us : List ℕ) → 0 < length us → (n : ℕ) → n ≤ length us → fits (take n us) ≡ true → parts us n ≡ false →
    n ≤ share_of us
taken-most [] h = absurd (omega arith)
taken-most (u ∷ us) h = share-most u us

-- where some fit, fewer do
fits-down :
    (us : List ℕ) → Each IsUnit us → (k m : ℕ) → m + k ≤ length us → fits (take (m + k) us) ≡ true →
    fits (take m us) ≡ true
fits-down us g zero m h e = rw add-zero at e
fits-down us g (suc k) m h e =
    let q : m + suc k ≡ suc (m + k) = omega arith in
    fits-down us g k m (omega arith) (fits-less us (m + k) g (omega arith) (rw q at e))

and-false : (a b : Bool) → b ≡ false → (a && b) ≡ false
and-false true b e = e
and-false false b e = refl

high-not-low : (v : ℕ) → is_high v ≡ true → is_low v ≡ false
high-not-low v e =
    let h = leb-true v 0xDBFF (both (leb 0xD800 v) (leb v 0xDBFF) e).1 in
    rw (lt-leb 0xDC00 v (omega arith))

-- behind the last unit no pair is parted
parts-end : (us : List ℕ) → parts us (length us) ≡ false
parts-end us =
    and-false (is_high (get_or us (length us - 1) 0)) (is_low (get_or us (length us) 0))
    (rw (get_or-eq_default us 0 {n = length us} (omega arith)))

module _ (us : List ℕ) (units : Each IsUnit us) (some : 0 < length us) where
  pub share-all : fits us ≡ true → share_of us ≡ length us
  share-all e =
      omega (arith, few-taken us some, taken-most us some (length us) (omega arith) (rw (take-length us) e) (parts-end us))

  module _ (m : ℕ) (h : m < length us) (fit : fits (take m us) ≡ true) (over : fits (take (m + 1) us) ≡ false) where
    one-fits : m ≡ 0 → ⊥
    one-fits z =
        let t : length (take 1 us) ≤ 2 = omega (arith, length-take 1 us) in
        false≢true (sym over ∙ rw z (two-fit (take 1 us) t))

    pub share-some-here : 0 < m
    share-some-here = by (eqb m 0) refl
      where
        by : (t : Bool) → eqb m 0 ≡ t → 0 < m
        by true e = absurd (one-fits (eqb-true m 0 e))
        by false e = omega (arith, eqb-false m 0 e)

    upto : share_of us ≤ m
    upto = by (ltb m (share_of us)) refl
      where
        by : (t : Bool) → ltb m (share_of us) ≡ t → share_of us ≤ m
        by true e =
            let l = ltb-true m (share_of us) e in
            let q : m + 1 + (share_of us - (m + 1)) ≡ share_of us = omega arith in
            let f : fits (take (m + 1 + (share_of us - (m + 1))) us) ≡ true = rw q (taken-fits us some) in
            absurd (false≢true (sym over
            ∙ fits-down us units (share_of us - (m + 1)) (m + 1) (omega (arith, few-taken us some)) f))
        by false e = ltb-false m (share_of us) e

    -- one less where a pair would be parted
    parted : parts us m ≡ true → share_of us ≡ m - 1
    parted p =
        let s = share-some-here in
        let q : m - 1 + 1 ≡ m = omega arith in
        let f : fits (take (m - 1) us) ≡ true = fits-down us units 1 (m - 1) (omega arith) (rw q fit) in
        let n : parts us (m - 1) ≡ false =
        and-false (is_high (get_or us (m - 1 - 1) 0)) (is_low (get_or us (m - 1) 0))
        (high-not-low (get_or us (m - 1) 0) (both (is_high (get_or us (m - 1) 0)) (is_low (get_or us m 0)) p).0) in
        let other : share_of us ≡ m → ⊥ = λ e. false≢true (sym (taken-whole us some) ∙ ap (parts us) e ∙ p) in
        omega (arith, upto, taken-most us some (m - 1) (omega arith) f n, other)

    pub share-cut : share_of us ≡ cond (parts us m) (m - 1) m
    share-cut = by (parts us m) refl
      where
        by : (t : Bool) → parts us m ≡ t → share_of us ≡ cond t (m - 1) m
        by true e = parted e
        by false e = omega (arith, upto, taken-most us some m (omega arith) fit e)

-- one unit more at the end of a run, or none
trailing-by :
    (v : ℕ) (a c : Bool) (x y : ℕ) {x' y' : ℕ} → x' ≡ run_after v x → y' ≡ run_after v y →
    cond a x' (cond c x' y') ≡ run_after v (cond a x (cond c x y))
trailing-by v true c x y e f = e
trailing-by v false true x y e f = e
trailing-by v false false x y e f = f

trailing-more : (us : List ℕ) (v k : ℕ) → trailing k (us ++ v ∷ []) ≡ run_after v (trailing k us)
trailing-more [] v k = refl
trailing-more (u ∷ us) v k =
    trailing-by v (own Header u) (eqb u 43) (trailing 0 us) (trailing (k + 1) us) (trailing-more us v 0)
    (trailing-more us v (k + 1))

trailing-few : (us : List ℕ) (k : ℕ) → trailing k us ≤ k + length us
trailing-few [] k = omega arith
trailing-few (u ∷ us) k =
    cond-case (λ (n : ℕ). n ≤ k + suc (length us)) (own Header u) (λ _. omega (arith, trailing-few us 0))
    (λ _. cond-case (λ (n : ℕ). n ≤ k + suc (length us)) (eqb u 43) (λ _. omega (arith, trailing-few us 0))
    (λ _. omega (arith, trailing-few us (k + 1))))

-- a word being filled: the characters of the first i units, those without the last, and the units of a run at the end
pub record Taking (us : List ℕ) (i size before run : ℕ) : Type 0 where
  pub upto : i ≤ length us
  pub sized : size ≡ q_size (take i us)
  pub last : 0 < i → before ≡ q_size (take (i - 1) us)
  pub few : size ≤ 63
  pub runs : run ≡ trailing 0 (take i us)

pub taking-start : (us : List ℕ) → Taking us 0 0 0 0
unfolding q_size q_text writing spell_all pieces
taking-start us =
    record { upto = omega arith; sized = refl; last = λ h. absurd (omega arith); few = omega arith; runs = refl }

module _ {us : List ℕ} {i size before run : ℕ} (units : Each IsUnit us) (t : Taking us i size before run) where
  pub taking-run : run ≤ i
  taking-run = omega (arith, t.runs, trailing-few (take i us) 0, length-take i us, t.upto)

  module _ (h : i < length us) where
    abbrev unit : ℕ
    unit = get_or us i 0

    more-size : size + brings unit run ≡ q_size (take (i + 1) us)
    unfolding q_size
    more-size =
        let q = q-more unit (each_at IsUnit us i units h) (take i us) (each_take IsUnit us i units) in
        rw (add-one i, take-suc us i 0 h, q, t.runs) (omega (arith, t.sized))

    pub taking-more : size + brings unit run ≤ 63 → Taking us (i + 1) (size + brings unit run) size (run_after unit run)
    taking-more k =
        let z : i + 1 - 1 ≡ i = omega arith in
        record {
          upto = omega arith;
          sized = more-size;
          last = λ _. rw z t.sized;
          few = k;
          runs = rw (add-one i, take-suc us i 0 h, trailing-more (take i us) unit 0, t.runs);
        }

    over : 63 < size + brings unit run → fits (take (i + 1) us) ≡ false
    over k = size-over (take (i + 1) us) (omega (arith, more-size))

    here : fits (take i us) ≡ true
    here = size_fits (take i us) (omega (arith, t.sized, t.few))

    -- the next unit does not fit
    pub taking-some : 63 < size + brings unit run → 0 < i
    taking-some k = share-some-here us units (omega arith) i h here (over k)

    pub taking-cut :
        63 < size + brings unit run →
        (cond (parts us i) (i - 1) i ≡ share_of us) × (cond (parts us i) before size ≡ q_size (take (share_of us) us))
    taking-cut k =
        let c = share-cut us units (omega arith) i h here (over k) in
        (sym c, rw c (by (parts us i)))
      where
        by : (p : Bool) → cond p before size ≡ q_size (take (cond p (i - 1) i) us)
        by true = t.last (taking-some k)
        by false = t.sized

  -- all units fit
  pub taking-all : 0 < length us → length us ≤ i → (i ≡ share_of us) × (size ≡ q_size (take (share_of us) us))
  taking-all some h =
      let e : i ≡ length us = omega (arith, t.upto) in
      let w : take i us ≡ us = rw (e, take-length us) in
      let f : fits us ≡ true = size_fits us (omega (arith, t.few, t.sized, ap q_size w)) in
      let s = share-all us units some f in
      (omega (arith, s), rw (s, ← e) t.sized)

-- fuel that is enough is enough
shares-enough : (n m : ℕ) (us : List ℕ) → length us ≤ n → length us ≤ m → shares n us ≡ shares m us
unfolding shares
shares-enough zero zero us h k = refl
shares-enough zero (suc m) [] h k = refl
shares-enough zero (suc m) (u ∷ us) h k = absurd (omega arith)
shares-enough (suc n) zero [] h k = refl
shares-enough (suc n) zero (u ∷ us) h k = absurd (omega arith)
shares-enough (suc n) (suc m) [] h k = refl
shares-enough (suc n) (suc m) (u ∷ us) h k =
    let s = share-some u us in
    let d = length-drop (share_of (u ∷ us)) (u ∷ us) in
    ap (λ (l : List (List ℕ)). take (share_of (u ∷ us)) (u ∷ us) ∷ l)
    (shares-enough n m (drop (share_of (u ∷ us)) (u ∷ us)) (omega arith) (omega arith))

regroup : (s q e j l : List ℕ) → (s ++ (q ++ e)) ++ (j ++ l) ≡ (s ++ (q ++ (e ++ j))) ++ l
regroup s q e j l = simp append_assoc

-- a word and the words of the rest
word-then :
    (x d : List ℕ) → joined (word_of x ∷ map word_of (shares (length d) d)) ≡ word_and (ltb 0 (length d)) x ++ line_of d
unfolding joined shares line_of word_of word_and
word-then x [] = sym (append-nil _)
word-then x (v ∷ vs) =
    let l : ltb 0 (suc (length vs)) ≡ true = lt-ltb 0 (suc (length vs)) (omega arith) in
    rw l (regroup word_start (q_text (writing Header x)) word_end joint
    (joined (map word_of (shares (length (v ∷ vs)) (v ∷ vs)))))

pub line-none : line_of [] ≡ []
unfolding line_of shares joined
line-none = refl

pub line-more :
    (us : List ℕ) → 0 < length us →
    line_of us ≡ word_and (ltb 0 (length (drop (share_of us) us))) (take (share_of us) us) ++ line_of (drop (share_of us) us)
unfolding line_of shares
line-more [] h = absurd (omega arith)
line-more (u ∷ us) h =
    let k : ℕ = share_of (u ∷ us) in
    let s = share-some u us in
    let d = length-drop k (u ∷ us) in
    ap (λ (l : List (List ℕ)). joined (word_of (take k (u ∷ us)) ∷ map word_of l))
    (shares-enough (length us) (length (drop k (u ∷ us))) (drop k (u ∷ us)) (omega arith) (omega arith))
    ∙ word-then (take k (u ∷ us)) (drop k (u ∷ us))

-- the units from a place on, and the word that they begin with
module _ (units : List ℕ) (i : ℕ) (good : Each IsUnit units) (h : i < length units) where
  abbrev rest : List ℕ
  rest = drop i units

  rest_some : 0 < length rest
  rest_some = omega (arith, length-drop i units)

  pub step-asked : length units ≤ limit → Each IsUnit rest × (0 < length rest) × (length rest ≤ limit)
  step-asked few = (each-drop IsUnit units i good, rest_some, omega (arith, length-drop i units))

  pub step-taken : (0 < share_of rest) × (i + share_of rest ≤ length units)
  step-taken = (some-taken rest rest_some, omega (arith, few-taken rest rest_some, length-drop i units))

  pub step_fits : fits (take (share_of rest) rest) ≡ true
  step_fits = taken-fits rest rest_some

  more_left : ltb 0 (length (drop (i + share_of rest) units)) ≡ ltb (i + share_of rest) (length units)
  more_left = ap (ltb 0) (length-drop (i + share_of rest) units) ∙ by (ltb (i + share_of rest) (length units)) refl
    where
      by : (t : Bool) → ltb (i + share_of rest) (length units) ≡ t → ltb 0 (length units - (i + share_of rest)) ≡ t
      by true e =
          lt-ltb 0 (length units - (i + share_of rest)) (omega (arith, ltb-true (i + share_of rest) (length units) e))
      by false e =
          le-ltb 0 (length units - (i + share_of rest)) (omega (arith, ltb-false (i + share_of rest) (length units) e))

  pub step_line :
      line_of rest ≡ word_and (ltb (i + share_of rest) (length units)) (take (share_of rest) rest) ++ line_of (drop
      (i + share_of rest) units)
  step_line = line-more rest rest_some ∙ rw (drop-drop (share_of rest) i units, more_left)

end-size : (more : Bool) → length (end_of more) ≡ 2 + cond more 3 0
end-size true = refl
end-size false = refl

pub word-and-size : (more : Bool) (us : List ℕ) → length (word_and more us) ≡ 12 + q_size us + cond more 3 0
unfolding word_and q_size
word-and-size more us = omega (arith, length-append (q_text (writing Header us)) (end_of more), end-size more)

-- the units from a place on, lent as `&units[i..]`
pub rest-whole : (units : List ℕ) (i : ℕ) → take (length units - i) (drop i units) ≡ drop i units
rest-whole units i = take_all (length units - i) (drop i units) (omega (arith, length-drop i units))

pub step-size :
    (units : List ℕ) (i : ℕ) → Each IsUnit units → i < length units →
    let k = share_of (drop i units) in
    length (line_of (drop i units))
    ≡ 12 + q_size (take k (drop i units)) + cond (ltb (i + k) (length units)) 3 0 + length (line_of (drop (i + k) units))
step-size units i good h =
    let k : ℕ = share_of (drop i units) in
    let more : Bool = ltb (i + k) (length units) in
    ap length (step_line units i good h)
    ∙ length-append (word_and more (take k (drop i units))) (line_of (drop (i + k) units))
    ∙ rw (word-and-size more (take k (drop i units)))
