-- Reading into a buffer that has a place for every byte, and of which only the front counts. Assumes nothing.
use Prim.Native.Nat.{ℕ, ◌+◌, ◌<◌, ◌≤◌}
use mathlib.Core.Path.{◌≡◌, refl, sym, ap, ◌∙◌}
use mathlib.Core.List.{List, [], append-nil}
use native.Mathlib.Omega.{arith}
use native.Mathlib.Nat.{add-zero}
use lib.ListN.{length, get_or, take, drop, set}
use lib.Seq.{take-add, take_at, take-length}
use Rattle.answer.proofs.Laid.{Laid, laid_one}
use Rattle.reading.specs.Reading.{give, go, Rule, Reading, read_from, reading}
pub use Rattle.reading.specs.Inner.{Front}
use Rattle.reading.proofs.Laws.{left-start, left-go}
use Rattle.reading.proofs.Strides.{Stride, left-stride, stride-give}

pub front-start : {S : Type 0} (rule : Rule S) (s buf : List ℕ) → length s ≤ length buf → Front rule s 0 rule.start 0 buf
front-start rule s buf h = record { left = left-start rule s; room = h; front = refl }

module _ {S : Type 0} {rule : Rule S} {s : List ℕ} {at : ℕ} {st : S} {n : ℕ} {buf : List ℕ} (f : Front rule s at st n buf) where
  -- the cells of a stride, laid behind those before
  pub front-stride :
      {to : ℕ} {cs : List ℕ} {st' : S} {buf' : List ℕ} → Stride rule s at st to cs st' → Laid cs n buf buf' → Front rule s to st' (n + length cs) buf'
  front-stride {to} {cs} {st'} a l =
      let c = f.left.cells ∙ ap (λ (x : Reading). x.cells) a.same in
      record {
        left = left-stride a f.left;
        room = omega (arith, f.room, l.same);
        front =
            l.front
            ∙ rw (f.front, take-add n (length cs) (reading rule s).cells, c, take_at cs (read_from rule (drop to s) to st').cells (length cs) refl);
      }

  -- places further on are written
  pub front_kept : {buf' : List ℕ} → Laid [] n buf buf' → Front rule s at st n buf'
  front_kept {buf'} l =
      record { left = f.left; room = omega (arith, f.room, l.same); front = rw (add-zero, append-nil) at l.front ∙ f.front }

  pub front-done : n ≡ length (reading rule s).cells → take (length (reading rule s).cells) buf ≡ (reading rule s).cells
  front-done e = ap (λ (k : ℕ). take k buf) (sym e) ∙ f.front ∙ rw (e, take-length (reading rule s).cells)

  module _ (h : at < length s) where
    -- a cell of the next byte has a place
    pub front-place : n < length buf
    front-place = omega (arith, f.left.few, f.room)

    pub front-give : {v : ℕ} {st' : S} → rule.byte st (get_or s at 0) ≡ give v st' → Front rule s (at + 1) st' (n + 1) (set buf n v)
    front-give {v} e = front-stride (stride-give h e) (laid_one n v buf front-place)

    pub front-go : {st' : S} → rule.byte st (get_or s at 0) ≡ go st' → Front rule s (at + 1) st' n buf
    front-go e = record { left = left-go f.left h e; room = f.room; front = f.front }
