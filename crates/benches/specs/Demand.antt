-- Document 02, order 13: demand 3 for each bench over its own calls, what two runs have in common, and that a refusal
-- changes nothing.
use Rattle.std.specs.Prelude.{ℕ, ◌≡◌, Bool, true, false, cond, List, [], ◌∷◌, map, length, eqb}
use Rattle.answer.specs.Answer.{Verdict, numbered}
use Rattle.codec.specs.declared.Kind.{Kind}
use Rattle.editor.specs.Ledger.{Ledger, opened, fed}
use Rattle.editor.specs.Editor.{output_of}
use Rattle.editor.specs.Layout.{taken}
use Rattle.editor.specs.Demand.{Promised, Unchanged}
use Rattle.benches.specs.Words.{Side, number_of, Both, at, in_steps}
use Rattle.benches.specs.Benches.{State, text_in, Outcome}
use Rattle.benches.specs.Layout.{bench}
use Rattle.benches.specs.Calls.{Call, call_of, outcome_of, unchanged_of, not_opened, open_of}

-- a call, and the number of the bench that makes it
pub record Order : Type 0 where
  pub bench : ℕ
  pub call : Call

abbrev pub made_on : State → Order → Outcome
made_on t o = outcome_of t o.bench o.call

-- the state after calls of both benches, each given what the last one left
abbrev pub after : State → List Order → State
after t [] = t
after t (o ∷ orders) = after (made_on t o).state orders

-- a call, and its answer: the number and place, and the output as it was left
pub record Heard : Type 0 where
  pub call : Call
  pub verdict : Verdict
  pub output : List ℕ

abbrev pub heard_of : Call → Outcome → Heard
heard_of c r = record { call = c; verdict = r.verdict; output = r.output }

-- a bench's own calls among all, and what they were answered
abbrev pub heard_at : Side → State → List Order → List Heard
heard_at s t [] = []
heard_at s t (o ∷ orders) =
    cond (eqb o.bench (number_of s)) (heard_of o.call (made_on t o) ∷ heard_at s (made_on t o).state orders)
    (heard_at s (made_on t o).state orders)

-- a ledger is fed "each call with its arguments and whether it was accepted"
abbrev pub ledger_after : Ledger → List Heard → Ledger
ledger_after l [] = l
ledger_after l (h ∷ hs) = ledger_after (fed in_steps l (call_of h.call) (eqb h.verdict.number 0)) hs

-- "Demand 3 holds for each bench over its own calls: in every list of calls of both benches, its ledger is fed its own
-- kind, arrived text and calls alone."
abbrev pub Demand3 : Type 0
Demand3 =
    (kinds : Both Kind) (arrived texts : Both (List ℕ)) (history : List ℕ) →
    taken (open_of kinds arrived texts history) ≡ true →
    (orders : List Order) (s : Side) →
    Promised (bench s) (at arrived s) (after (open_of kinds arrived texts history).state orders)
    (ledger_after (opened (at kinds s) (at arrived s)) (heard_at s (open_of kinds arrived texts history).state orders))

-- a run "with both texts opened and all state handed back untouched"
pub record Run : Type 0 where
  pub kinds : Both Kind
  pub arrived : Both (List ℕ)
  pub texts : Both (List ℕ)
  pub history : List ℕ
  pub opens : taken (open_of kinds arrived texts history) ≡ true
  pub orders : List Order

abbrev pub start_of : Run → State
start_of r = (open_of r.kinds r.arrived r.texts r.history).state

abbrev pub end_of : Run → State
end_of r = after (start_of r) r.orders

abbrev pub heard_in : Run → Side → List Heard
heard_in r s = heard_at s (start_of r) r.orders

abbrev pub calls_in : Run → Side → List Call
calls_in r s = map (λ (h : Heard). h.call) (heard_in r s)

-- where 12 falls
abbrev pub full : Heard → Bool
full h = eqb h.verdict.number 12

-- an answer, "places given with 12 aside"
abbrev pub answer_of : Heard → Heard
answer_of h = record { call = h.call; verdict = cond (full h) (numbered 12 0) h.verdict; output = h.output }

-- "Take two runs with both texts opened and all state handed back untouched. Where one bench has the same kind, arrived
-- text, buffer lengths and calls, and 12 falls on the same ones, its answers after the open and its text are the same,
-- places given with 12 aside."
-- Of the buffers only its own text matters, and it may be bench 0 in one run and bench 1 in the other. A question
-- changes nothing, so that what is said of one at the end of a run is said of each: the run up to it is a run.
pub record Alike (r q : Run) (s p : Side) : Type 0 where
  pub answers : map answer_of (heard_in r s) ≡ map answer_of (heard_in q p)
  pub text : text_in (end_of r) s ≡ text_in (end_of q) p
  pub question : unchanged_of (end_of r) (number_of s) ≡ unchanged_of (end_of q) (number_of p)

abbrev pub TwoRuns : Type 0
TwoRuns =
    (r q : Run) (s p : Side) → at r.kinds s ≡ at q.kinds p → at r.arrived s ≡ at q.arrived p →
    length (at r.texts s) ≡ length (at q.texts p) → calls_in r s ≡ calls_in q p →
    map full (heard_in r s) ≡ map full (heard_in q p) → Alike r q s p

-- "A refusal changes no page and no buffer": every call, of every bench there is or is not, on every state
abbrev pub RefusedSame : Type 0
RefusedSame =
    (t : State) (n : ℕ) (c : Call) → taken (outcome_of t n c) ≡ false →
    Unchanged t (output_of (call_of c)) (outcome_of t n c)

-- "refused, it gives the kinds, zeros and no marks"
abbrev pub OpenRefused : Type 0
OpenRefused =
    (kinds : Both Kind) (arrived texts : Both (List ℕ)) (history : List ℕ) →
    taken (open_of kinds arrived texts history) ≡ false →
    Unchanged (not_opened kinds texts history) [] (open_of kinds arrived texts history)
