-- Stepping with a code's cursors, which denote spots: "Each step hands out the next cell complete before the first fault; after those, and at
-- once for 16, every step gives the answer of reading the whole text with room enough." Assumes nothing.
use Prim.Native.Nat.{ℕ, zero, suc, ◌<◌, ◌≤◌}
use mathlib.Core.Path.{◌≡◌, refl, ap}
use mathlib.Core.Bool.{Bool, true, false}
use mathlib.Core.List.{List}
use native.Mathlib.Omega.{arith}
use lib.ListN.{length, get_or, length-map}
use lib.Dec.{ltb}
use borrow.Author.Tests.{le-ltb, ltb-true, ltb-false}
use Rattle.answer.specs.Answer.{limit, too_long}
use Rattle.reading.specs.Reading.{Rule, verdict_of, reading}
use Rattle.reading.specs.Spans.{Marking, no_mark, marked_in}
use Rattle.reading.specs.Stepping.{Spot, in_text, Next, cell, final, onward, on_spot, next_at, at_start, after_steps, cells_of, answer_of, nth_of}
use Rattle.reading.specs.declared.Marked.{Marked}
use Rattle.reading.proofs.Laws.{Kept}
use Rattle.reading.proofs.Spans.{marked-cells}
use Rattle.reading.proofs.Steps.{in-text, sound-after, nth-cell, nth-final, step-long}

onward-spot : {P Q : Type 0} (f : P → Q) (x : Next P) (p : P) → on_spot (onward f x) (f p) ≡ f (on_spot x p)
onward-spot f (cell m q) p = refl
onward-spot f (final a) p = refl

-- cursors of type C: the spot that the numbers of each tell, and the cursor that stands at a spot; in the states that a
-- reader comes to, one undoes the other
pub record Cursors {S : Type 0} (rule : Rule S) (marking : Marking S) (C : Type 0) : Type 1 where
  pub Sound : S → Type 0
  pub Good : ℕ → Type 0
  pub kept : Kept rule Sound Good
  pub spot : C → Spot S
  pub cursor : Spot S → C
  pub back : (p : Spot S) → Sound p.state → spot (cursor p) ≡ p

module _ {S C : Type 0} {rule : Rule S} {marking : Marking S} (cs : Cursors rule marking C) (text : List ℕ) where
  -- the step from any cursor, and the cursor after n steps from the start
  abbrev pub step_for : C → Next C
  step_for c = onward cs.cursor (next_at rule marking text (in_text text (cs.spot c)))

  unfoldable pub cursor_after : ℕ → C
  cursor_after n = after_steps step_for (cs.cursor (at_start rule)) n

  abbrev spot_after : ℕ → Spot S
  spot_after n = after_steps (next_at rule marking text) (at_start rule) n

  spot_back : (n : ℕ) → in_text text (cs.spot (cs.cursor (spot_after n))) ≡ spot_after n
  spot_back n =
      let h = sound-after marking cs.kept text n in
      rw (cs.back (spot_after n) h.0) (in-text text (spot_after n) h.1 h.2)

  cursor-spot : (n : ℕ) → cursor_after n ≡ cs.cursor (spot_after n)
  unfolding cursor_after after_steps
  cursor-spot zero = refl
  cursor-spot (suc n) =
      rw (cursor-spot n, spot_back n) (onward-spot cs.cursor (next_at rule marking text (spot_after n)) (spot_after n))

  step-spot : (n : ℕ) → step_for (cursor_after n) ≡ onward cs.cursor (next_at rule marking text (spot_after n))
  step-spot n = rw (cursor-spot n, spot_back n)

  -- a cursor that steps from the start lead to is the one that stands at its spot: the repair of a step changes nothing there
  pub repair-identity : (n : ℕ) → cs.cursor (in_text text (cs.spot (cursor_after n))) ≡ cursor_after n
  repair-identity n = rw (cursor-spot n) (ap cs.cursor (spot_back n))

  module _ (fits : length text ≤ limit) where
    -- the n-th step gives the n-th cell, with its bytes
    pub step-cell :
        (n : ℕ) → n < length (reading rule text).cells → step_for (cursor_after n) ≡ cell (get_or (marked_in rule marking text) n no_mark) (cursor_after (suc n))
    step-cell n h = rw (step-spot n, cursor-spot (suc n)) (ap (onward cs.cursor) (nth-cell rule marking text fits n h))

    -- every later step gives the answer of reading the whole text with room enough
    pub step-final : (n : ℕ) → length (reading rule text).cells ≤ n → step_for (cursor_after n) ≡ final (verdict_of (reading rule text))
    step-final n h = rw (step-spot n) (ap (onward cs.cursor) (nth-final rule marking text fits n h))

  -- over the limit every step, from any cursor at all, gives 16
  pub step-over : limit < length text → (c : C) → step_for c ≡ final too_long
  step-over h c = ap (onward cs.cursor) (step-long rule marking text h (in_text text (cs.spot c)))

  abbrev marked : List Marked
  marked = marked_in rule marking text

  same_count : length marked ≡ length (reading rule text).cells
  same_count = simp length-map at (ap length (marked-cells rule marking text))

  abbrev Nth : ℕ → Type 0
  Nth n =
      step_for (cursor_after n) ≡ nth_of (cells_of text marked) (answer_of text (reading rule text)) n (cursor_after (suc n))

  nth : (n : ℕ) (over more : Bool) → ltb limit (length text) ≡ over → ltb n (length marked) ≡ more → Nth n
  nth n true more e k = rw (e, le-ltb n 0 (omega arith)) (step-over (ltb-true _ _ e) _)
  nth n false true e k = rw (e, k) (step-cell (ltb-false _ _ e) n (rw same_count at (ltb-true n (length marked) k)))
  nth n false false e k = rw (e, k) (step-final (ltb-false _ _ e) n (rw same_count at (ltb-false n (length marked) k)))

  -- all three: what the n-th step gives, of any text
  pub nth-step : (n : ℕ) → Nth n
  nth-step n = nth n _ _ refl refl
