-- A rule of which every state leads on to an accepted text refuses at the first byte that no accepted text can have
-- there. Assumes nothing.
use Prim.Native.Nat.{ℕ, zero, suc, ◌+◌, ◌<◌, ◌≤◌}
use mathlib.Core.Path.{◌≡◌, refl, sym, ap, ◌∙◌}
use mathlib.Core.List.{List, [], ◌∷◌, ◌++◌}
use native.Mathlib.Omega.{arith}
use native.Mathlib.Nat.{add-zero, zero-add}
use lib.ListN.{length, take}
use Rattle.reading.specs.Reading.{Does, give, go, bad, Ending, accepted, fault, Rule, Reading, on_read, read_from}
use Rattle.reading.specs.Reading.{reading}
use Rattle.reading.proofs.Walk.{no-fault}
use Rattle.parsing.specs.Parsing.{Begins, FirstFault}

module _ {S : Type 0} (rule : Rule S) where
  -- the bytes that are accepted from a state on
  abbrev pub From : ℕ → S → Unit {0} → List ℕ → Type 0
  From at st _ bs = (read_from rule bs at st).ending ≡ accepted

  abbrev pub Goes : (S → Type 0) → Does S → Type 0
  Goes Sound (give v st) = Sound st
  Goes Sound (go st) = Sound st
  Goes Sound (bad k) = Unit

  -- states that lead on; faults stand at the byte in hand, or at the end
  pub record Alive (Sound : S → Type 0) : Type 0 where
    pub keeps : (st : S) (b : ℕ) → Sound st → Goes Sound (rule.byte st b)
    pub leads : (st : S) → Sound st → (bs : List ℕ) × ((at : ℕ) → (read_from rule bs at st).ending ≡ accepted)
    pub ends : (size : ℕ) (st : S) (k place : ℕ) → Sound st → rule.end size st ≡ fault k place → place ≡ size

  module _ {Sound : S → Type 0} (alive : Alive Sound) where
    begins-here : (at : ℕ) (st : S) → Sound st → Begins (From at st) []
    begins-here at st h =
        let l = alive.leads st h in
        (tt, l.0, l.1 at)

    -- one byte on
    later :
        (b : ℕ) (bs : List ℕ) (at : ℕ) (st st' : S) (m : ℕ) →
        ((l : List ℕ) → (read_from rule (b ∷ l) at st).ending ≡ (read_from rule l (at + 1) st').ending) →
        FirstFault (From (at + 1) st') bs m → FirstFault (From at st) (b ∷ bs) (suc m)
    later b bs at st st' m same f =
        let x = f.before in
        let k : suc m + 1 ≡ suc (m + 1) = omega arith in
        record {
          inside = omega (arith, f.inside);
          before = (tt, x.1, same (take m bs ++ x.1) ∙ x.2);
          there = λ h (c, more, e). f.there (omega arith) (c, more, sym (same (take (m + 1) bs ++ more)) ∙ rw k at e);
        }

    abbrev Found : List ℕ → ℕ → S → ℕ → Type 0
    Found bs at st place = (m : ℕ) × (place ≡ at + m) × FirstFault (From at st) bs m

    fault-does :
        (x : Does S) (b : ℕ) (bs : List ℕ) (at : ℕ) (st : S) (k place : ℕ) → rule.byte st b ≡ x → Sound st →
        Goes Sound x →
        ((st' : S) → Sound st' → (read_from rule bs (at + 1) st').ending ≡ fault k place → Found bs (at + 1) st' place) →
        (on_read x at (read_from rule bs (at + 1))).ending ≡ fault k place → Found (b ∷ bs) at st place
    unfolding read_from
    fault-does (give v st') b bs at st k place q s g ih e =
        let (m, i, f) = ih st' g e in
        (suc m, omega arith, later b bs at st st' m (λ l. rw q) f)
    fault-does (go st') b bs at st k place q s g ih e =
        let (m, i, f) = ih st' g e in
        (suc m, omega arith, later b bs at st st' m (λ l. rw q) f)
    fault-does (bad j) b bs at st k place q s g ih e =
        let z : place ≡ at = cc in (
          0,
          z ∙ sym (add-zero at),
          record { inside = omega arith; before = begins-here at st s; there = λ h (c, more, y). no-fault j at (rw q at y) },
        )

    fault-from :
        (bs : List ℕ) (at : ℕ) (st : S) (k place : ℕ) → Sound st → (read_from rule bs at st).ending ≡ fault k place →
        Found bs at st place
    unfolding read_from
    fault-from [] at st k place s e =
        (0, alive.ends at st k place s e ∙ sym (add-zero at), record { inside = omega arith; before = begins-here at st s; there = λ h. absurd (omega arith) })
    fault-from (b ∷ bs) at st k place s e =
        fault-does (rule.byte st b) b bs at st k place refl s (alive.keeps st b s)
        (λ st' s' e'. fault-from bs (at + 1) st' k place s' e') e

    -- of whole texts
    pub first-fault :
        Sound rule.start → (s : List ℕ) (k place : ℕ) → (reading rule s).ending ≡ fault k place →
        FirstFault (λ (_ : Unit {0}) l. (reading rule l).ending ≡ accepted) s place
    unfolding reading
    first-fault h s k place e =
        let (m, i, f) = fault-from s 0 rule.start k place h e in
        rw (i, zero-add m) f
