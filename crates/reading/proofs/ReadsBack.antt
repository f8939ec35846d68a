-- Demand 2, of whole calls: what an accepted write leaves reads back as the same cells, wherever it is within the reading limit. Assumes nothing.
use Prim.Native.Nat.{ℕ, ◌≤◌}
use mathlib.Core.Path.{◌≡◌, refl, sym, ap, ◌∙◌}
use mathlib.Core.Bool.{Bool, true, false, cond}
use mathlib.Core.List.{List}
use native.Mathlib.Omega.{arith}
use lib.ListN.{length, take, drop}
use lib.Seq.{take_at}
use lib.Dec.{ltb}
use borrow.Author.Tests.{ltb-false, le-ltb}
use Rattle.answer.specs.Answer.{numbered, limit, too_long}
use Rattle.answer.specs.Output.{Outcome, refusing, filled, deliver, written}
use Rattle.reading.specs.Reading.{accepted, Rule, reading, read_into}

-- a call that was accepted and filled an output
abbrev pub Fills : List ℕ → List ℕ → Outcome
Fills result out = record { verdict = numbered 0 (length result); out = filled result out }

module _ (cells : List ℕ) (first : ℕ) (text out : List ℕ) where
  by_tests :
      (a b c : Bool) → ltb first (length cells) ≡ b →
      let o = cond a (refusing too_long out) (cond b (refusing (numbered 10 first) out) (cond c (refusing (numbered 9 (length text)) out) (Fills text out))) in
      o.verdict.number ≡ 0 → (length cells ≤ first) × (o ≡ Fills text out)
  by_tests true b c e n = absurd (omega arith)
  by_tests false true c e n = absurd (omega arith)
  by_tests false false true e n = absurd (omega arith)
  by_tests false false false e n = (ltb-false first (length cells) e, refl)

  -- no cell was unwritable, and the output then has the writing in front
  pub write-accepted : (written cells first text out).verdict.number ≡ 0 → (length cells ≤ first) × (written cells first text out ≡ Fills text out)
  unfolding deliver
  write-accepted = by_tests (ltb limit (length cells)) (ltb first (length cells)) (ltb (length out) (length text)) refl

  module _ {S : Type 0} (rule : Rule S) (round : length cells ≤ first → reading rule text ≡ record { cells = cells; ending = accepted }) where
    pub reads-back :
        (o room : List ℕ) (place : ℕ) → written cells first text out ≡ record { verdict = numbered 0 place; out = o } → place ≤ limit → length cells ≤ length room →
        read_into rule (take place o) room ≡ Fills cells room
    unfolding read_into deliver
    reads-back o room place e fits r =
        let q = write-accepted (ap (λ (x : Outcome). x.verdict.number) e) in
        let f = sym e ∙ q.1 in
        let p : place ≡ length text = ap (λ (x : Outcome). x.verdict.place) f in
        let s : o ≡ filled text out = ap (λ (x : Outcome). x.out) f in
        rw (s, p, take_at text (drop (length text) out) (length text) refl, le-ltb limit (length text) (omega (arith, p)), round q.0, le-ltb (length room) (length cells) r)
