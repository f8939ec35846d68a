-- Bytes that lead from one state to another and give some cells, with no fault. Assumes nothing.
use Prim.Native.Nat.{ℕ, ◌+◌}
use mathlib.Core.Path.{◌≡◌, refl, ap}
use mathlib.Core.List.{List, [], ◌∷◌, ◌++◌, append-nil}
use native.Mathlib.Omega.{arith}
use native.Mathlib.Nat.{zero-add}
use lib.ListN.{length}
use Rattle.reading.specs.Reading.{Does, give, go, bad, accepted, fault, Rule, Reading, push, on_read, read_from, reading}
use Rattle.reading.specs.Located.{state_after}

pub data Walk {S : Type 0} (rule : Rule S) : S → List ℕ → List ℕ → S → Type 0 where
  stay : {st : S} → Walk rule st [] [] st
  gives : {st st' end : S} {b v : ℕ} {bs cs : List ℕ} → rule.byte st b ≡ give v st' → Walk rule st' bs cs end → Walk rule st (b ∷ bs) (v ∷ cs) end
  goes : {st st' end : S} {b : ℕ} {bs cs : List ℕ} → rule.byte st b ≡ go st' → Walk rule st' bs cs end → Walk rule st (b ∷ bs) cs end

-- cells in front of a reading
abbrev pub push_all : List ℕ → Reading → Reading
push_all cs r = record { cells = cs ++ r.cells; ending = r.ending }

module _ {S : Type 0} {rule : Rule S} where
  -- a walk leads to the state that its bytes lead to
  pub walk-state : {st end : S} {bs cs : List ℕ} → Walk rule st bs cs end → state_after rule st bs ≡ end
  unfolding state_after
  walk-state stay = refl
  walk-state (gives e w) = rw e (walk-state w)
  walk-state (goes e w) = rw e (walk-state w)

  pub walk-on : {a b c : S} {bs bs' cs cs' : List ℕ} → Walk rule a bs cs b → Walk rule b bs' cs' c → Walk rule a (bs ++ bs') (cs ++ cs') c
  walk-on stay w = w
  walk-on (gives e v) w = gives e (walk-on v w)
  walk-on (goes e v) w = goes e (walk-on v w)

  -- reading goes along a walk
  pub walk-read :
      {st end : S} {bs cs : List ℕ} → Walk rule st bs cs end → (rest : List ℕ) (at at' : ℕ) → at + length bs ≡ at' →
      read_from rule (bs ++ rest) at st ≡ push_all cs (read_from rule rest at' end)
  unfolding read_from
  walk-read stay rest at at' e =
      let q : at ≡ at' = omega arith in
      rw q
  walk-read (gives {v = v} q w) rest at at' e = rw q (ap (push v) (walk-read w rest (at + 1) at' (omega arith)))
  walk-read (goes q w) rest at at' e = rw q (walk-read w rest (at + 1) at' (omega arith))

-- a text that leads from the start to a state that it may end in
pub walk-whole :
    {S : Type 0} {rule : Rule S} {end : S} {bs cs : List ℕ} → Walk rule rule.start bs cs end → ((size : ℕ) → rule.end size end ≡ accepted) →
    reading rule bs ≡ record { cells = cs; ending = accepted }
unfolding reading read_from
walk-whole {bs = bs} {cs = cs} w e =
    rw (append-nil, append-nil, e) at (walk-read w [] 0 (length bs) (zero-add (length bs)))

-- a walk to a state that has a property
pub record Arrives {S : Type 0} (rule : Rule S) (Last : S → Type 0) (st : S) (bs cs : List ℕ) : Type 0 where
  pub end : S
  pub walk : Walk rule st bs cs end
  pub last : Last end

pub arrives-on :
    {S : Type 0} {rule : Rule S} {Last : S → Type 0} {a b : S} {bs bs' cs cs' : List ℕ} → Walk rule a bs cs b → Arrives rule Last b bs' cs' →
    Arrives rule Last a (bs ++ bs') (cs ++ cs')
arrives-on w r = record { end = r.end; walk = walk-on w r.walk; last = r.last }

pub no-fault : {X : Type 0} (k place : ℕ) → fault k place ≡ accepted → X
no-fault k place e =
    let z : ◌≡◌ {A = ℕ} 0 1 = cc in
    absurd (omega arith)

module _ {S : Type 0} (rule : Rule S) (size : ℕ) where
  abbrev Ends : S → Type 0
  Ends st = rule.end size st ≡ accepted

  ends-does :
      (m : Does S) (st : S) (b : ℕ) (bs : List ℕ) (at : ℕ) (rest : S → Reading) → rule.byte st b ≡ m →
      ((st' : S) → (rest st').ending ≡ accepted → Arrives rule Ends st' bs (rest st').cells) → (on_read m at rest).ending ≡ accepted →
      Arrives rule Ends st (b ∷ bs) (on_read m at rest).cells
  ends-does (give v st') st b bs at rest e ih h = arrives-on (gives e stay) (ih st' h)
  ends-does (go st') st b bs at rest e ih h = arrives-on (goes e stay) (ih st' h)
  ends-does (bad k) st b bs at rest e ih h = no-fault k at h

  ends-from :
      (bs : List ℕ) (at : ℕ) (st : S) → at + length bs ≡ size → (read_from rule bs at st).ending ≡ accepted →
      Arrives rule Ends st bs (read_from rule bs at st).cells
  unfolding read_from
  ends-from [] at st n h =
      let q : at ≡ size = omega arith in
      record { end = st; walk = stay; last = rw q at h }
  ends-from (b ∷ bs) at st n h =
      ends-does (rule.byte st b) st b bs at (read_from rule bs (at + 1)) refl (λ st'. ends-from bs (at + 1) st' (omega arith)) h

-- an accepted text leads from the start to a state that it may end in
pub accepted-walk :
    {S : Type 0} (rule : Rule S) (s : List ℕ) → (reading rule s).ending ≡ accepted →
    Arrives rule (λ st. rule.end (length s) st ≡ accepted) rule.start s (reading rule s).cells
unfolding reading
accepted-walk rule s h = ends-from rule (length s) s 0 rule.start (zero-add (length s)) h
