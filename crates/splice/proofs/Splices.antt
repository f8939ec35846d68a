-- Laws of moving, copying and clearing part of a list, a turn of a loop at a time, and of the edit made of them. Assumes nothing.
use Prim.Native.Nat.{ℕ, zero, suc, ◌+◌, ◌-◌, ◌≤◌, ◌<◌}
use mathlib.Core.Path.{◌≡◌, refl, sym, ap, ◌∙◌}
use mathlib.Core.Bool.{true, false, ◌&&◌}
use mathlib.Core.List.{List, ◌++◌, append_assoc, append-nil}
use native.Mathlib.Nat.{sub-zero, zero-sub, suc-sub-suc, le_of_suc-le-suc}
use native.Mathlib.Numerals.{add-one}
use native.Mathlib.Omega.{arith}
use lib.ListN.{length, get_or, take, drop, set, replicate, length-take, length-drop, length-append, length-replicate, drop_of_length-le, take-append-drop}
use lib.Seq.{take-add, take-take, drop-drop, take-length, take-append-le, take_at, drop_at, paste, paste-suc, length-take-le}
use lib.Dec.{leb}
use borrow.Author.Tests.{le-leb, leb-true}
use Rattle.std.proofs.lemmas.Slice.{put_mid-paste}
use borrow.Rule.Slice.PartMut.{put_mid}
use Rattle.answer.proofs.Below.{both}
use Rattle.ledger.specs.Words.{pad}
use Rattle.ledger.proofs.Words.{drop-take, zeros-are}
use Rattle.splice.specs.Splice.{Filled, spliced, cleared, fitting, used_after, spliced_in, shifted_left}

-- elements that are all there, to a place that is not after theirs
pub shifted_in :
    (l : List ℕ) (from to n : ℕ) → to ≤ from → from + n ≤ length l → shifted_left from to n l ≡ paste l to (drop from l) n
unfolding shifted_left
shifted_in l from to n h k = rw (le-leb to from h, le-leb (from + n) (length l) k)

-- elements that stand there already
pub move_same : (l : List ℕ) (at n : ℕ) → paste l at (drop at l) n ≡ l
move_same l at n = rw (← take-add at n l) (take-append-drop (at + n) l)

pub copy-turn :
    (l s cells : List ℕ) (at j : ℕ) → s ≡ paste l at cells j → at + j < length l → j < length cells →
    set s (at + j) (get_or cells j 0) ≡ paste l at cells (j + 1)
copy-turn l s cells at j e h g = rw (e, add-one) (paste-suc l at cells j 0 h g)

-- zeros put from a place on
take-replicate : (n m : ℕ) → n ≤ m → take n (replicate m 0) ≡ replicate {A = ℕ} n 0
take-replicate zero m h = refl
take-replicate (suc n) zero h = absurd (omega arith)
take-replicate (suc n) (suc m) h = rw (take-replicate n m (le_of_suc-le-suc h))

pub cleared-is :
    (l ys : List ℕ) (at to : ℕ) → to ≤ length l → ys ≡ replicate (to - at) 0 →
    put_mid at (to - at) l ys ≡ cleared at to l
cleared-is l ys at to h e =
    put_mid-paste at (to - at) l ys (replicate (to - at) 0) (to - at) e refl (sym (length-replicate (to - at) 0))
    ∙ rw (take-replicate (to - at) (to - at) (omega arith), take-replicate (to - at) (length l) (omega arith))

-- all from a place on
pub clear-all : (l : List ℕ) (at : ℕ) → cleared at (length l) l ≡ pad (length l) (take at l)
clear-all l at =
    let n : length l - at ≡ length l - length (take at l) = omega (arith, length-take at l) in
    rw (drop_of_length-le l {i = at + (length l - at)} (omega arith), append-nil, take-replicate (length l - at) (length l) (omega arith), n)

-- past what is in use, a buffer is 0
drop-replicate : (n m : ℕ) → drop n (replicate m 0) ≡ replicate {A = ℕ} (m - n) 0
drop-replicate zero m = rw sub-zero
drop-replicate (suc n) zero = rw zero-sub
drop-replicate (suc n) (suc m) = drop-replicate n m ∙ rw suc-sub-suc

replicate-add : (n m k : ℕ) → n + m ≡ k → replicate n 0 ++ replicate m 0 ≡ replicate {A = ℕ} k 0
replicate-add zero m k e = let z : m ≡ k = omega arith in rw z
replicate-add (suc n) m zero e = absurd (omega arith)
replicate-add (suc n) m (suc k) e = rw (replicate-add n m k (omega arith))

blank-past : {n : ℕ} {l : List ℕ} → Filled n l → (m : ℕ) → n ≤ m → drop m l ≡ replicate (length l - m) 0
blank-past {n} {l} f m h =
    let there : n + (m - n) ≡ m = omega arith in
    let left : length (drop n l) - (m - n) ≡ length l - m = omega (arith, length-drop n l) in
    ap (λ (k : ℕ). drop k l) (sym there)
    ∙ sym (drop-drop (m - n) n l)
    ∙ ap (drop (m - n)) (zeros-are (drop n l) f.blank)
    ∙ drop-replicate (m - n) (length (drop n l))
    ∙ ap (λ (k : ℕ). replicate k 0) left

-- other elements put in front, up to a new end: what was in use past it is cleared
module _ (l s w : List ℕ) (n end : ℕ) (f : Filled n l) (e : s ≡ w ++ drop end l) (q : length w ≡ end) (h : end ≤ length l) where
  pub refilled : cleared end n s ≡ pad (length l) w
  refilled =
      let long : length s ≡ length l = ap length e ∙ simp (length-append, length-drop) (omega arith) in
      let past : drop (end + (n - end)) s ≡ replicate (length l - (end + (n - end))) 0 =
      sym (drop-drop (n - end) end s)
      ∙ ap (drop (n - end)) (ap (drop end) e ∙ drop_at w (drop end l) end q)
      ∙ drop-drop (n - end) end l
      ∙ blank-past f (end + (n - end)) (omega arith) in
      let all : replicate (n - end) 0 ++ replicate (length l - (end + (n - end))) 0 ≡ replicate {A = ℕ} (length l - length w) 0 =
      replicate-add (n - end) (length l - (end + (n - end))) (length l - length w) (omega (arith, f.fits)) in
      (λ i. take end (e i) ++ take (n - end) (replicate (long i) 0) ++ past i)
      ∙ rw (take_at w (drop end l) end q, take-replicate (n - end) (length l) (omega (arith, f.fits)), append_assoc, all)

-- the tail moved, the cells copied in and the rest cleared
module _ (t cells : List ℕ) (used place count : ℕ) where
  abbrev m : ℕ
  m = length cells

  abbrev tail : ℕ
  tail = used - (place + count)

  -- the new end, as the code has it, and as the definitions do
  abbrev end : ℕ
  end = place + m + tail

  abbrev after : ℕ
  after = used - count + m

  abbrev new : List ℕ
  new = spliced place count cells (take used t)

  pub fits-so : fitting used place count m (length t) ≡ true → (place + count ≤ used) × (used ≤ length t) × (after ≤ length t)
  unfolding fitting
  fits-so e =
      let b₁ = both (leb (place + count) used && leb used (length t)) (leb after (length t)) e in
      let b₂ = both (leb (place + count) used) (leb used (length t)) b₁.0 in
      (leb-true _ _ b₂.0, leb-true _ _ b₂.1, leb-true _ _ b₁.1)

  -- what the code leaves, by what it finds of the fit
  pub unfit-left : fitting used place count m (length t) ≡ false → (used ≡ used_after used place count m (length t)) × (t ≡ spliced_in used place count cells t)
  unfolding used_after spliced_in
  unfit-left e = (rw e, rw e)

  pub fit-left :
      fitting used place count m (length t) ≡ true → (r : ℕ) (s : List ℕ) → (r ≡ after) × (s ≡ cleared r used (new ++ drop r t)) →
      (r ≡ used_after used place count m (length t)) × (s ≡ spliced_in used place count cells t)
  unfolding used_after spliced_in
  fit-left e r s l = (rw e l.0, rw e (l.1 ∙ ap (λ (n : ℕ). cleared n used (new ++ drop n t)) l.0))

  module _ (h : place + count ≤ used) (g : used ≤ length t) (k : after ≤ length t) where
    pub does-fit : fitting used place count m (length t) ≡ true
    unfolding fitting
    does-fit = rw (le-leb (place + count) used h, le-leb used (length t) g, le-leb after (length t) k)

    pub end_is : end ≡ after
    end_is = omega arith

    whole : List ℕ
    whole = take place t ++ (cells ++ take tail (drop (place + count) t))

    new_is : new ≡ whole
    unfolding whole
    new_is = rw (take-take place used t (omega arith), drop-take (place + count) used t)

    length-new : length new ≡ end
    unfolding whole
    length-new = ap length new_is ∙ simp (length-append, length-take-le place t (omega arith), length-take, length-drop) (omega arith)

    module _ (s₁ s₂ s₃ : List ℕ) (e₁ : s₁ ≡ paste t (place + m) (drop (place + count) t) tail) (e₂ : s₂ ≡ paste s₁ place cells m) (e₃ : s₃ ≡ cleared end used s₂) where
      front : List ℕ
      front = take (place + m) t

      copied : s₂ ≡ whole ++ drop end t
      unfolding front whole
      copied =
          let moved : s₁ ≡ front ++ (take tail (drop (place + count) t) ++ drop end t) = e₁ ∙ append_assoc front (take tail (drop (place + count) t)) (drop end t) in
          let long : length front ≡ place + m = length-take-le (place + m) t (omega arith) in
          rw (
            e₂,
            moved,
            take-append-le place front (take tail (drop (place + count) t) ++ drop end t) (omega (arith, long)),
            take-take place (place + m) t (omega arith),
            take-length cells,
            drop_at front (take tail (drop (place + count) t) ++ drop end t) (place + m) long,
            append_assoc,
            append_assoc,
            append_assoc,
          )

      pub splice-is : s₃ ≡ cleared end used (new ++ drop end t)
      splice-is = e₃ ∙ ap (cleared end used) (copied ∙ rw new_is)

    -- in a buffer that is 0 past what is in use
    pub used-after : used_after used place count m (length t) ≡ length new
    unfolding used_after
    used-after = rw does-fit (sym (length-new ∙ end_is))

    pub filled-after : Filled used t → spliced_in used place count cells t ≡ pad (length t) new
    unfolding spliced_in
    filled-after f = rw does-fit (refilled t (new ++ drop after t) new used after f refl (length-new ∙ end_is) k)

-- cells put for all from a place on
module _ (t cells : List ℕ) (used at count : ℕ) (f : Filled used t) (all : at + count ≡ used) (room : at + length cells ≤ length t) where
  abbrev ended : List ℕ
  ended = take at t ++ cells

  spliced-end : spliced at count cells (take used t) ≡ ended
  spliced-end =
      rw (take-take at used t (omega arith), drop_of_length-le (take used t) {i = at + count} (omega (arith, length-take used t)), append-nil)

  length-ended : length ended ≡ at + length cells
  length-ended = simp (length-append, length-take-le at t (omega (arith, f.fits)))

  pub used-end : used_after used at count (length cells) (length t) ≡ length ended
  used-end = used-after t cells used at count (omega arith) f.fits (omega arith) ∙ ap length spliced-end

  pub filled-end : spliced_in used at count cells t ≡ pad (length t) ended
  filled-end = filled-after t cells used at count (omega arith) f.fits (omega arith) f ∙ ap (pad (length t)) spliced-end
