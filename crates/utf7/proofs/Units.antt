-- The bytes of a run's units, by any rule that has runs: UTF-7's and that of mailbox names. Assumes nothing.
use Prim.Native.Nat.{ℕ, zero, suc, ◌+◌, ◌*◌, ◌/◌, ◌<◌, ◌≤◌}
use mathlib.Core.Path.{◌≡◌}
use mathlib.Core.Bool.{Bool, true}
use mathlib.Core.List.{List, [], ◌++◌}
use native.Mathlib.Omega.{arith}
use native.Mathlib.Nat.{zero-add}
use lib.ListN.{length, get_or, drop, length-append, length-drop}
use lib.Seq.{get_or-drop}
use Rattle.bits.specs.Bits.{bits}
use Rattle.bits.proofs.Bits.{length-bits}
use Rattle.alphabet.specs.Letters.{value_of, set_b}
use Rattle.reading.specs.Reading.{Does, give, go, bad, Rule}
use Rattle.reading.specs.Spans.{Span, up_to, no_mark, Marking, marked_from, marked_in}
use Rattle.reading.specs.declared.Marked.{Marked}
use Rattle.reading.proofs.Spans.{LeadDoes, marked-walk}
use Rattle.reading.proofs.Walk.{Walk, stay, gives, goes}
use Rattle.utf7.specs.Spans.{unit_span, run_span}
use Rattle.utf7.proofs.Round.{Letters}

span-by : {b e b' e' : ℕ} → b ≡ b' → e ≡ e' → ◌≡◌ {A = Span} (record { begin = b; end = e }) (record { begin = b'; end = e' })
span-by p q = rw (p, q)

-- the letters that bits fill
abbrev pub letters_of : ℕ → ℕ
letters_of n = (n + 5) / 6

-- a unit's bits fill the last letters up to the one at the place
pub unit-last : (bs : List Bool) (at : ℕ) → 0 < length bs → length bs < 22 → unit_span bs at ≡ up_to (letters_of (length bs)) at
unit-last bs at some few = span-by (omega arith) (omega arith)

-- in numbers: n pending bits and a letter's six
pub unit-letters : (n v x at : ℕ) → n < 16 → unit_span (bits n v ++ bits 6 x) at ≡ up_to ((n + 11) / 6) at
unit-letters n v x at few =
    let l : length (bits n v ++ bits 6 x) ≡ n + 6 = simp (length-append, length-bits) in
    span-by (omega arith) (omega arith)

abbrev pub span_of : Marked → Span
span_of m = record { begin = m.begin; end = m.end }

module _ {S : Type 0} (last : ℕ) (rule : Rule S) (marking : Marking S) (run : List Bool → S) where
  -- the pending bits and those of a letter
  abbrev pub all : List Bool → ℕ → List Bool
  all pending b = pending ++ bits 6 (value_of last b)

  -- what a letter may do there: it completes a unit, goes on, or is a fault
  abbrev pub LetterDoes : List Bool → Does S → Type 0
  LetterDoes bs (give v st) = (16 ≤ length bs) × (st ≡ run (drop 16 bs))
  LetterDoes bs (go st) = (length bs < 16) × (st ≡ run bs)
  LetterDoes bs (bad k) = Unit

  -- a state in which letters follow these pending bits
  pub record Pending (st : S) (pending : List Bool) : Type 0 where
    pub few : length pending < 16
    pub letter : (b : ℕ) → set_b last b ≡ true → LetterDoes (all pending b) (rule.byte st b)
    pub marks : (b at : ℕ) → set_b last b ≡ true → 16 ≤ length (all pending b) → marking st b at ≡ unit_span (all pending b) at

  all-length : (pending : List Bool) (b : ℕ) → length (all pending b) ≡ length pending + 6
  all-length pending b = simp (length-append, length-bits)

  -- what a letter keeps of the marking
  module _ (lead fresh : S → ℕ) (Runs-lead : (p : List Bool) → lead (run p) ≡ letters_of (length p)) (runs-fresh : (p : List Bool) → fresh (run p) ≡ 0) where
    leads-does :
        (st : S) (pending : List Bool) (b : ℕ) → Pending st pending → set_b last b ≡ true → letters_of (length pending) ≤ lead st → (m : Does S) → LetterDoes (all pending b) m →
        LeadDoes 2 lead fresh marking st b m
    leads-does st pending b w h led (give v st') d =
        let l = all-length pending b in
        let f = w.few in
        let many = d.0 in
        let n = Runs-lead (drop 16 (all pending b)) in
        let k = length-drop 16 (all pending b) in
        rw d.1
        (record {
          count = letters_of (length (all pending b));
          last = λ at. rw (w.marks b at h many) (unit-last (all pending b) at (omega arith) (omega arith));
          own = omega arith;
          led = omega arith;
          shared = omega arith;
          past = runs-fresh (drop 16 (all pending b));
          unshared = λ few. absurd (omega arith);
          anew = λ few. absurd (omega arith);
        })
    leads-does st pending b w h led (go st') d =
        let l = all-length pending b in
        rw d.1 (omega (arith, Runs-lead (all pending b)), omega (arith, runs-fresh (all pending b)))
    leads-does st pending b w h led (bad k) d = tt

    pub letter-leads :
        (st : S) (pending : List Bool) (b : ℕ) → Pending st pending → set_b last b ≡ true → letters_of (length pending) ≤ lead st →
        LeadDoes 2 lead fresh marking st b (rule.byte st b)
    letter-leads st pending b w h led = leads-does st pending b w h led (rule.byte st b) (w.letter b h)

  -- of the cells that letters give, after some that gave k units: cell j is the run's unit k + j
  module _ (runs : (pending : List Bool) → length pending < 16 → Pending (run pending) pending) (first : ℕ) (rest : List ℕ) where
    abbrev UnitAt : List Marked → ℕ → ℕ → Type 0
    UnitAt ms k j = span_of (get_or ms j no_mark) ≡ run_span first (k + j)

    units :
        {st end : S} {ls cs : List ℕ} (pending : List Bool) (at letters k j : ℕ) → Walk rule st ls cs end → Pending st pending → Letters last ls → j < length cs →
        at ≡ first + letters → 6 * letters ≡ 16 * k + length pending → UnitAt (marked_from rule marking (ls ++ rest) at st) k j
    unfolding marked_from
    units pending at letters k j stay w h m p n = absurd (omega arith)
    units {st} pending at letters k zero (gives {b = b} e walk) w h m p n =
        let d = rw e at (w.letter b h.0) in
        let l = all-length pending b in
        let f = w.few in
        let many = d.0 in
        rw (e, w.marks b at h.0 d.0) (span-by (omega arith) (omega arith))
    units {st} pending at letters k (suc j) (gives {b = b} e walk) w h m p n =
        let d = rw e at (w.letter b h.0) in
        let l = all-length pending b in
        let f = w.few in
        let many = d.0 in
        let left = drop 16 (all pending b) in
        let r = length-drop 16 (all pending b) in
        let q : k + 1 + j ≡ k + suc j = omega arith in
        rw (e, ← q)
        (units left (at + 1) (letters + 1) (k + 1) j walk (rw d.1 (runs left (omega arith))) h.1 (omega arith) (omega arith) (omega arith))
    units {st} pending at letters k j (goes {b = b} e walk) w h m p n =
        let d = rw e at (w.letter b h.0) in
        let l = all-length pending b in
        rw e
        (units (all pending b) (at + 1) (letters + 1) k j walk (rw d.1 (runs (all pending b) d.0)) h.1 m (omega arith) (omega arith))

  -- Bit i of a run lies in its letter i / 6: wherever a run stands in a text, its unit k has the letters that hold the bits from 16k to 16k + 15
  pub run-unit :
      {opening end : S} {before letters cells units : List ℕ} → ((pending : List Bool) → length pending < 16 → Pending (run pending) pending) →
      Pending opening [] → Walk rule rule.start before cells opening → Walk rule opening letters units end → Letters last letters → (rest : List ℕ) (k : ℕ) →
      k < length units → span_of (get_or (marked_in rule marking (before ++ (letters ++ rest))) (length cells + k) no_mark) ≡ run_span (length before) k
  unfolding marked_in
  run-unit {before = before} {letters = letters} runs opens w v h rest k m =
      let d = marked-walk rule marking w (letters ++ rest) 0 (length before) (omega arith) in
      let u = units runs (length before) rest [] (length before) 0 0 k v opens h m (omega arith) (omega arith) in
      rw (zero-add k) at (rw (← d, get_or-drop) at u)
