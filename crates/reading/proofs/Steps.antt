-- Stepping through a text, by any rule. Assumes nothing.
use Prim.Native.Nat.{ℕ, zero, suc, ◌+◌, ◌-◌, ◌<◌, ◌≤◌}
use mathlib.Core.Path.{◌≡◌, refl, ap, ◌∙◌}
use mathlib.Core.List.{List, [], ◌∷◌}
use native.Mathlib.Omega.{arith}
use native.Mathlib.Nat.{add-zero, add-suc}
use native.Mathlib.Numerals.{add-one}
use lib.ListN.{length, get_or, drop, length-drop, drop_of_length-le}
use lib.Seq.{drop-cons}
use lib.Dec.{ltb}
use borrow.Author.Tests.{lt-ltb, le-ltb, ltb-false}
use Rattle.answer.specs.Answer.{numbered, limit, too_long}
use Rattle.answer.proofs.Below.{cond-case}
use Rattle.answer.proofs.Put.{head_at, tail_at}
use Rattle.reading.specs.Reading.{Does, give, go, bad, Rule, closing, verdict_of, reading}
use Rattle.reading.specs.Spans.{Span, Marking, marked_as, no_mark, marked_from, marked_in}
use Rattle.reading.specs.Stepping.{Spot, least, in_text, Next, cell, final, on_next, on_spot, next_from, next_at, at_start, after_steps}
use Rattle.reading.specs.declared.Marked.{Marked}
use Rattle.reading.proofs.Spans.{marked_by}
use Rattle.reading.proofs.Laws.{Kept, SoundDoes, Left, left-start, left-more, left-give, left-go, left-bad, left_end}

-- the loop of a step: at a place, after some cells, in a state, the step that was asked for is still x
pub record Going {S : Type 0} (rule : Rule S) (marking : Marking S) (s : List ℕ) (at n : ℕ) (st : S) (x : Next (Spot S)) : Type 0 where
  pub so : next_from rule marking (length s) (drop at s) (record { at = at; handed = n; state = st }) ≡ x

module _ {S : Type 0} {rule : Rule S} {marking : Marking S} {s : List ℕ} {at n : ℕ} {st : S} {x : Next (Spot S)} (g : Going rule marking s at n st x) where
  module _ (h : at < length s) where
    step_by :
        (m : Does S) → rule.byte st (get_or s at 0) ≡ m →
        on_next m (marking st (get_or s at 0) at) (record { at = at; handed = n; state = st }) (next_from rule marking (length s) (drop (at + 1) s)) ≡ x
    unfolding next_from
    step_by m e = rw (← e, add-one) (rw (drop-cons s at 0 h) at g.so)

    pub going-give : {v : ℕ} {st' : S} → rule.byte st (get_or s at 0) ≡ give v st' → cell (marked_as v (marking st (get_or s at 0) at)) (record { at = at + 1; handed = n + 1; state = st' }) ≡ x
    going-give {v} {st'} e = step_by (give v st') e

    pub going-go : {st' : S} → rule.byte st (get_or s at 0) ≡ go st' → Going rule marking s (at + 1) n st' x
    going-go {st'} e = record { so = step_by (go st') e }

    pub going-bad : {k : ℕ} → rule.byte st (get_or s at 0) ≡ bad k → final (numbered k at) ≡ x
    going-bad {k} e = step_by (bad k) e

  pub going_end : length s ≤ at → final (closing (rule.end (length s) st) n) ≡ x
  unfolding next_from
  going_end h = rw (drop_of_length-le s h) at g.so

-- a spot that a reader of a text can stand at: its state is sound, and it has handed out no more cells than bytes lie
-- before it, all of them the text's
abbrev pub SoundSpot : {S : Type 0} → (S → Type 0) → ℕ → Spot S → Type 0
SoundSpot Sound size p = Sound p.state × (p.handed ≤ p.at) × (p.at ≤ size)

pub least_at : (a b : ℕ) → least a b ≤ b
least_at a b = cond-case (λ (k : ℕ). k ≤ b) (ltb b a) (λ t. omega arith) (λ t. omega (arith, ltb-false b a t))

-- of any numbers a reader stands in its text, with no more cells handed out than bytes lie before it; where they say so
-- themselves, it stands where they say
module _ {S : Type 0} (s : List ℕ) (p : Spot S) where
  pub stands-in-text : ((in_text s p).handed ≤ (in_text s p).at) × ((in_text s p).at ≤ length s)
  stands-in-text = (least_at _ _, least_at _ _)

  pub in-text : p.handed ≤ p.at → p.at ≤ length s → in_text s p ≡ p
  in-text h k = rw (le-ltb (length s) p.at k, le-ltb p.at p.handed h)

-- a step goes from such a spot to such a spot
module _ {S : Type 0} {rule : Rule S} (marking : Marking S) {Sound : S → Type 0} {Good : ℕ → Type 0} (kept : Kept rule Sound Good) where
  -- a place with so many bytes of the text before it, and more
  abbrev Before : ℕ → ℕ → Spot S → Type 0
  Before size more p = Sound p.state × (p.handed ≤ p.at) × (p.at + more ≤ size)

  abbrev SoundNext : ℕ → Next (Spot S) → Type 0
  SoundNext size (cell m p) = SoundSpot Sound size p
  SoundNext size (final a) = Unit

  sound-does :
      (size more : ℕ) (m : Does S) (s : Span) (p : Spot S) (rest : Spot S → Next (Spot S)) → SoundDoes Sound Good m →
      Before size (suc more) p → ((q : Spot S) → Before size more q → SoundNext size (rest q)) →
      SoundNext size (on_next m s p rest)
  sound-does size more (give v st) s p rest h k ih = (h.1, omega (arith, k.1), omega (arith, k.2))
  sound-does size more (go st) s p rest h k ih = ih _ (h, omega (arith, k.1), omega (arith, k.2))
  sound-does size more (bad k) s p rest h l ih = tt

  sound-next :
      (size : ℕ) (bs : List ℕ) (p : Spot S) → Before size (length bs) p →
      SoundNext size (next_from rule marking size bs p)
  unfolding next_from
  sound-next size [] p h = tt
  sound-next size (b ∷ bs) p h =
      sound-does size (length bs) (rule.byte p.state b) (marking p.state b p.at) p
      (next_from rule marking size bs) (kept.keeps p.state b h.0) h (sound-next size bs)

  sound-stands :
      (size : ℕ) (x : Next (Spot S)) (p : Spot S) → SoundNext size x → SoundSpot Sound size p →
      SoundSpot Sound size (on_spot x p)
  sound-stands size (cell m q) p h k = h
  sound-stands size (final a) p h k = k

  -- wherever steps from the start lead
  pub sound-after :
      (s : List ℕ) (n : ℕ) → SoundSpot Sound (length s) (after_steps (next_at rule marking s) (at_start rule) n)
  unfolding after_steps next_at
  sound-after s zero = (kept.starts, omega arith, omega arith)
  sound-after s (suc n) =
      let p = after_steps (next_at rule marking s) (at_start rule) n in
      let h = sound-after s n in
      let left = drop p.at s in
      let k : Before (length s) (length left) p = (h.0, h.1, omega (arith, h.2, length-drop p.at s)) in
      sound-stands (length s) (next_at rule marking s p) p
      (cond-case (SoundNext (length s)) (ltb limit (length s)) (λ _. tt) (λ _. sound-next (length s) left p k)) h

-- stepping through a text from the start
module _ {S : Type 0} (rule : Rule S) (marking : Marking S) (s : List ℕ) where
  abbrev cells : List ℕ
  cells = (reading rule s).cells

  abbrev marks : List Marked
  marks = marked_in rule marking s

  -- a spot after n cells: what is left of the reading, and of the cells with their bytes
  pub record LeftAt (p : Spot S) (n : ℕ) : Type 0 where
    pub count : p.handed ≡ n
    pub left : Left rule s p.at p.state n
    pub marked : drop n marks ≡ marked_from rule marking (drop p.at s) p.at p.state

  -- what a step after n cells shows: cell n, or the answer of the whole reading
  abbrev Shown : ℕ → Next (Spot S) → Type 0
  Shown n (cell m p) = (n < length cells) × (get_or marks n no_mark ≡ m) × LeftAt p (n + 1)
  Shown n (final a) = (n ≡ length cells) × (a ≡ verdict_of (reading rule s))

  shown-does :
      (bs : List ℕ) (p : Spot S) (n : ℕ) (m : Does S) → p.at < length s → rule.byte p.state (get_or s p.at 0) ≡ m → LeftAt p n →
      ((q : Spot S) → q.at ≡ p.at + 1 → LeftAt q n → Shown n (next_from rule marking (length s) bs q)) →
      Shown n (on_next m (marking p.state (get_or s p.at 0) p.at) p (next_from rule marking (length s) bs))
  shown-does bs p n (give v st) h e l ih =
      let d = l.marked ∙ marked_by rule marking s p.at p.state (give v st) h e in (
        left-more l.left h e,
        head_at marks _ n _ no_mark d,
        record { count = ap (λ (k : ℕ). k + 1) l.count; left = left-give l.left h e; marked = tail_at marks _ n _ d },
      )
  shown-does bs p n (go st) h e l ih =
      ih _ refl (record { count = l.count; left = left-go l.left h e; marked = l.marked ∙ marked_by rule marking s p.at p.state (go st) h e })
  shown-does bs p n (bad k) h e l ih = left-bad l.left h e

  shown : (bs : List ℕ) (p : Spot S) (n : ℕ) → drop p.at s ≡ bs → LeftAt p n → Shown n (next_from rule marking (length s) bs p)
  unfolding next_from
  shown [] p n e l =
      let q : length s ≤ p.at = omega (arith, ap length e, length-drop p.at s) in
      let z : p.at ≡ length s = omega (arith, l.left.within) in
      let r = left_end l.left q in
      (r.0, rw (l.count, ← z) r.1)
  shown (b ∷ bs) p n e l =
      let h = head_at s bs p.at b 0 e in
      rw h at
      (shown-does bs p n (rule.byte p.state b) (omega (arith, ap length e, length-drop p.at s)) (rw h) l
      (λ q z m. shown bs q n (rw z (tail_at s bs p.at b e)) m))

  module _ (fits : length s ≤ limit) where
    next_here : (p : Spot S) → next_at rule marking s p ≡ next_from rule marking (length s) (drop p.at s) p
    unfolding next_at
    next_here p = rw (le-ltb limit (length s) fits)

    -- where the reader stands after n steps
    abbrev standing : ℕ → Spot S
    standing n = after_steps (next_at rule marking s) (at_start rule) n

    shown-at : (p : Spot S) (n : ℕ) → LeftAt p n → Shown n (next_at rule marking s p)
    shown-at p n l = rw (next_here p) (shown (drop p.at s) p n refl l)

    -- by what a step gives: cell n, and the reader stands after it; or the final answer, and it stays
    known-cell :
        (p : Spot S) (n : ℕ) (x : Next (Spot S)) → Shown n x → n < length cells → (x ≡ cell (get_or marks n no_mark) (on_spot x p)) × LeftAt (on_spot x p) (suc n)
    known-cell p n (cell m q) w h = (rw w.1, rw add-one at w.2)
    known-cell p n (final a) w h = absurd (omega (arith, w.0))

    known-final : (p : Spot S) (n : ℕ) (x : Next (Spot S)) → Shown n x → n ≡ length cells → (x ≡ final (verdict_of (reading rule s))) × (on_spot x p ≡ p)
    known-final p n (cell m q) w h = absurd (omega (arith, w.0))
    known-final p n (final a) w h = (ap final w.1, refl)

    left_after : (n : ℕ) → n ≤ length cells → LeftAt (standing n) n
    unfolding after_steps marked_in
    left_after zero h = record { count = refl; left = left-start rule s; marked = refl }
    left_after (suc n) h =
        let l = left_after n (omega arith) in
        (known-cell (standing n) n (next_at rule marking s (standing n)) (shown-at (standing n) n l) h).1

    -- the n-th step gives the n-th cell
    pub nth-cell : (n : ℕ) → n < length cells → next_at rule marking s (standing n) ≡ cell (get_or marks n no_mark) (standing (suc n))
    unfolding after_steps
    nth-cell n h = (known-cell (standing n) n (next_at rule marking s (standing n)) (shown-at (standing n) n (left_after n (omega arith))) h).0

    past_end : (k : ℕ) → LeftAt (standing (length cells + k)) (length cells)
    unfolding after_steps
    past_end zero = rw add-zero (left_after (length cells) (omega arith))
    past_end (suc k) =
        let m = length cells + k in
        let f = known-final (standing m) (length cells) (next_at rule marking s (standing m)) (shown-at (standing m) (length cells) (past_end k)) refl in
        rw (add-suc, f.1) (past_end k)

    -- and every later step the answer of the whole reading
    pub nth-final : (n : ℕ) → length cells ≤ n → next_at rule marking s (standing n) ≡ final (verdict_of (reading rule s))
    nth-final n h =
        let m = length cells + (n - length cells) in
        let q : m ≡ n = omega arith in
        let l = past_end (n - length cells) in
        rw q at (known-final (standing m) (length cells) (next_at rule marking s (standing m)) (shown-at (standing m) (length cells) l) refl).0

  -- over the limit every step, from wherever, gives 16
  pub step-long : limit < length s → (p : Spot S) → next_at rule marking s p ≡ final too_long
  unfolding next_at
  step-long h p = rw (lt-ltb limit (length s) h)
