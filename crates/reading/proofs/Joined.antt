-- Document 02, order 9, by any rule: two accepted texts joined are read as both, where the state that the first ends in
-- serves for the start. Assumes nothing.
use Prim.Native.Nat.{ℕ, ◌+◌}
use mathlib.Core.Path.{◌≡◌, refl, ap}
use mathlib.Core.Bool.{Bool, true, false, cond}
use mathlib.Core.List.{List, [], ◌∷◌, ◌++◌}
use native.Mathlib.Omega.{arith}
use native.Mathlib.Nat.{zero-add}
use lib.ListN.{length, drop}
use lib.Seq.{take_at}
use lib.Dec.{ltb}
use borrow.Author.Tests.{le-ltb}
use Rattle.answer.specs.Answer.{limit, too_long}
use Rattle.answer.specs.Output.{refusing, deliver}
use Rattle.reading.specs.Reading.{Does, give, go, bad, Ending, accepted, fault, Rule}
use Rattle.reading.specs.Reading.{Reading, push, on_read, on_ending, read_from, reading, read_into}
use Rattle.reading.specs.Joined.{cells_in, Accepted, end_state, Serves, ReadsAsBoth, CallsAsBoth}
use Rattle.reading.proofs.Laws.{Kept, SoundEnd, good-reading}
use Rattle.reading.proofs.Walk.{walk-state, walk-read, no-fault, accepted-walk}

-- what a byte does in a state that stands for another: what it does in the other, unless that is a fault
pub data Simulates {S : Type 0} (For : S → S → Type 0) : Does S → Does S → Type 0 where
  gives : {v : ℕ} {now st : S} → For now st → Simulates For (give v now) (give v st)
  goes : {now st : S} → For now st → Simulates For (go now) (go st)
  faulty : {m : Does S} {k : ℕ} → Simulates For m (bad k)

-- a relation of states that every byte keeps, up to a text's end
pub record Simulation {S : Type 0} (rule : Rule S) (For : S → S → Type 0) : Type 0 where
  pub bytes : (now st : S) (b : ℕ) → For now st → Simulates For (rule.byte now b) (rule.byte st b)
  pub ends : (now st : S) (at at' : ℕ) → For now st → rule.end at st ≡ accepted → rule.end at' now ≡ accepted

-- in a state that stands for itself
pub simulates-same : {S : Type 0} {For : S → S → Type 0} → ((st : S) → For st st) → (m : Does S) → Simulates For m m
simulates-same h (give v st) = gives (h st)
simulates-same h (go st) = goes (h st)
simulates-same h (bad k) = faulty

module _ {S : Type 0} {rule : Rule S} {For : S → S → Type 0} (sim : Simulation rule For) where
  serves-does :
      {m d : Does S} (at at' : ℕ) (rest rest' : S → Reading) → Simulates For m d →
      ((now st : S) → For now st → (rest st).ending ≡ accepted → rest' now ≡ rest st) →
      (on_read d at rest).ending ≡ accepted → on_read m at' rest' ≡ on_read d at rest
  serves-does at at' rest rest' (gives {v = v} {now = now} {st = st} h) ih e = ap (push v) (ih now st h e)
  serves-does at at' rest rest' (goes {now = now} {st = st} h) ih e = ih now st h e
  serves-does at at' rest rest' (faulty {k = k}) ih e = no-fault k at e

  -- such states serve for each other
  pub serves : (now st : S) → For now st → Serves rule now st
  unfolding read_from
  serves now st h [] at at' e = rw (e, sim.ends now st at at' h e)
  serves now st h (b ∷ bs) at at' e =
      serves-does at at' (read_from rule bs (at + 1)) (read_from rule bs (at' + 1)) (sim.bytes now st b h)
      (λ now' st' h'. serves now' st' h' bs (at + 1) (at' + 1)) e

pub joined-reads :
    {S : Type 0} (rule : Rule S) (first second : List ℕ) → Accepted rule first →
    Serves rule (end_state rule first) rule.start → Accepted rule second → ReadsAsBoth rule first second
unfolding reading
joined-reads rule first second one h two =
    let w = (accepted-walk rule first one).walk in
    let r = (rw (walk-state w) at h) second 0 (length first) two in
    rw (walk-read w second 0 (length first) (zero-add (length first)), r, two)

-- of whole calls: an accepted one says that the text was accepted, and its cells are those of the reading
module _ {S : Type 0} {rule : Rule S} {Sound : S → Type 0} {Good : ℕ → Type 0} (kept : Kept rule Sound Good) where
  accepted-by :
      (long short : Bool) (e : Ending) (cells out : List ℕ) → SoundEnd e →
      let o = cond long (refusing too_long out) (on_ending e cells out) in
      ltb (length out) (length cells) ≡ short → o.verdict.number ≡ 0 → (e ≡ accepted) × (cells_in o ≡ cells)
  unfolding deliver
  accepted-by true short e cells out s t q = absurd (omega (arith, q))
  accepted-by false true accepted cells out s t q = absurd (omega (arith, rw t at q))
  accepted-by false false accepted cells out s t q =
      (refl, rw t (take_at cells (drop (length cells) out) (length cells) refl))
  accepted-by false short (fault k place) cells out s t q = absurd (omega (arith, s, q))

  pub read-accepted :
      (text out : List ℕ) → (read_into rule text out).verdict.number ≡ 0 →
      Accepted rule text × (cells_in (read_into rule text out) ≡ (reading rule text).cells)
  unfolding read_into
  read-accepted text out =
      let r = reading rule text in
      accepted-by (ltb limit (length text)) (ltb (length out) (length r.cells)) r.ending r.cells out
      (good-reading kept text).1 refl

  pub joined-calls :
      (first second : List ℕ) → (Accepted rule first → Serves rule (end_state rule first) rule.start) →
      CallsAsBoth rule first second
  unfolding read_into
  joined-calls first second h out₁ out₂ out one two fits =
      let a = read-accepted first out₁ one in
      let b = read-accepted second out₂ two in
      let j = joined-reads rule first second a.0 (h a.0) b.0 in
      rw (le-ltb limit (length (first ++ second)) fits, j, a.1, b.1)
