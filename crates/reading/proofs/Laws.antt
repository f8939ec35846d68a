-- Reading a text byte by byte, by any rule: what a loop over its bytes keeps. Assumes nothing.
use Prim.Native.Nat.{ℕ, ◌+◌, ◌<◌, ◌≤◌}
use mathlib.Core.Path.{◌≡◌, refl, ap, ◌∙◌}
use mathlib.Core.List.{List, [], ◌∷◌}
use native.Mathlib.Omega.{arith}
use native.Mathlib.Numerals.{add-one}
use lib.ListN.{length, get_or, drop, length-drop, drop_of_length-le}
use lib.Seq.{drop-cons}
use Rattle.answer.specs.Answer.{numbered}
use Rattle.answer.specs.Lists.{Each}
use Rattle.answer.proofs.Put.{tail_at}
use Rattle.reading.specs.Reading.{Does, give, go, bad, Ending, accepted, fault, Rule, Reading, on_read, closing, verdict_of, read_from, reading}
pub use Rattle.reading.specs.Inner.{Left}

-- what a rule keeps: the start is sound, a byte goes from sound to sound and gives a good cell, and no fault has the number 0
abbrev pub SoundDoes : {S : Type 0} → (S → Type 0) → (ℕ → Type 0) → Does S → Type 0
SoundDoes Sound Good (give v st) = Good v × Sound st
SoundDoes Sound Good (go st) = Sound st
SoundDoes Sound Good (bad k) = 0 < k

abbrev pub SoundEnd : Ending → Type 0
SoundEnd accepted = Unit
SoundEnd (fault k place) = 0 < k

pub record Kept {S : Type 0} (rule : Rule S) (Sound : S → Type 0) (Good : ℕ → Type 0) : Type 0 where
  pub starts : Sound rule.start
  pub keeps : (st : S) (b : ℕ) → Sound st → SoundDoes Sound Good (rule.byte st b)
  pub ends : (size : ℕ) (st : S) → Sound st → SoundEnd (rule.end size st)

-- the cells of a reading are good, and its fault has a number
module _ {S : Type 0} {rule : Rule S} {Sound : S → Type 0} {Good : ℕ → Type 0} (kept : Kept rule Sound Good) where
  abbrev GoodReading : Reading → Type 0
  GoodReading r = Each Good r.cells × SoundEnd r.ending

  good-does :
      (m : Does S) (at : ℕ) (rest : S → Reading) → SoundDoes Sound Good m → ((st : S) → Sound st → GoodReading (rest st)) →
      GoodReading (on_read m at rest)
  good-does (give v st) at rest h ih = ((h.0, (ih st h.1).0), (ih st h.1).1)
  good-does (go st) at rest h ih = ih st h
  good-does (bad k) at rest h ih = (tt, h)

  good-from : (bs : List ℕ) (at : ℕ) (st : S) → Sound st → GoodReading (read_from rule bs at st)
  unfolding read_from
  good-from [] at st h = (tt, kept.ends at st h)
  good-from (b ∷ bs) at st h =
      good-does (rule.byte st b) at (read_from rule bs (at + 1)) (kept.keeps st b h) (good-from bs (at + 1))

  pub good-reading : (s : List ℕ) → Each Good (reading rule s).cells × SoundEnd (reading rule s).ending
  unfolding reading
  good-reading s = good-from s 0 rule.start kept.starts

-- the reading from a place that has a byte, and from the end
module _ {S : Type 0} (rule : Rule S) (s : List ℕ) (at : ℕ) (st : S) where
  pub read_by :
      (m : Does S) → at < length s → rule.byte st (get_or s at 0) ≡ m →
      read_from rule (drop at s) at st ≡ on_read m at (read_from rule (drop (at + 1) s) (at + 1))
  unfolding read_from
  read_by m h e = rw (drop-cons s at 0 h, add-one, e)

  pub read-end : length s ≤ at → read_from rule (drop at s) at st ≡ record { cells = []; ending = rule.end at st }
  unfolding read_from
  read-end h = rw (drop_of_length-le s h)

pub left-start : {S : Type 0} (rule : Rule S) (s : List ℕ) → Left rule s 0 rule.start 0
unfolding reading
left-start rule s = record { within = omega arith; few = omega arith; inside = omega arith; cells = refl; ending = refl }

-- nothing is left: all cells were given, and the answer is that of the whole reading
none_left :
    (r : Reading) (e : Ending) (n : ℕ) → n ≤ length r.cells → drop n r.cells ≡ [] → r.ending ≡ e →
    (n ≡ length r.cells) × (closing e n ≡ verdict_of r)
none_left r e n h d q =
    let c : n ≡ length r.cells = omega (arith, ap length d, length-drop n r.cells) in
    (c, rw (q, c))

module _ {S : Type 0} {rule : Rule S} {s : List ℕ} {at : ℕ} {st : S} {n : ℕ} (l : Left rule s at st n) where
  by : (r : Reading) → read_from rule (drop at s) at st ≡ r → (drop n (reading rule s).cells ≡ r.cells) × ((reading rule s).ending ≡ r.ending)
  by r e = (l.cells ∙ ap (λ (x : Reading). x.cells) e, l.ending ∙ ap (λ (x : Reading). x.ending) e)

  module _ (h : at < length s) where
    module _ {v : ℕ} {st' : S} (e : rule.byte st (get_or s at 0) ≡ give v st') where
      -- the byte's cell is the next of the reading
      pub left-cell : drop n (reading rule s).cells ≡ v ∷ (read_from rule (drop (at + 1) s) (at + 1) st').cells
      left-cell = (by _ (read_by rule s at st (give v st') h e)).0

      pub left-more : n < length (reading rule s).cells
      left-more = omega (arith, ap length left-cell, length-drop n (reading rule s).cells)

      pub left-give : Left rule s (at + 1) st' (n + 1)
      left-give =
          record {
            within = omega arith;
            few = omega (arith, l.few);
            inside = omega (arith, left-more);
            cells = tail_at (reading rule s).cells (read_from rule (drop (at + 1) s) (at + 1) st').cells n v left-cell;
            ending = (by _ (read_by rule s at st (give v st') h e)).1;
          }

    pub left-go : {st' : S} → rule.byte st (get_or s at 0) ≡ go st' → Left rule s (at + 1) st' n
    left-go {st'} e =
        let q = by _ (read_by rule s at st (go st') h e) in
        record { within = omega arith; few = omega (arith, l.few); inside = l.inside; cells = q.0; ending = q.1 }

    pub left-bad : {k : ℕ} → rule.byte st (get_or s at 0) ≡ bad k → (n ≡ length (reading rule s).cells) × (numbered k at ≡ verdict_of (reading rule s))
    left-bad {k} e =
        let q = by _ (read_by rule s at st (bad k) h e) in
        none_left (reading rule s) (fault k at) n l.inside q.0 q.1

  pub left_end : length s ≤ at → (n ≡ length (reading rule s).cells) × (closing (rule.end at st) n ≡ verdict_of (reading rule s))
  left_end h =
      let q = by _ (read-end rule s at st h) in
      none_left (reading rule s) (rule.end at st) n l.inside q.0 q.1
