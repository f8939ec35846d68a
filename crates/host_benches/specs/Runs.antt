-- Order 13's promises through C: a host's list of calls on two benches after an accepted open, and its refusals.
use Rattle.std.specs.Prelude.{ℕ, ◌≡◌, Bool, true, false, cond, List, [], ◌∷◌, eqb}
use Rattle.answer.specs.Answer.{Verdict, numbered}
use Rattle.codec.specs.declared.Kind.{Kind}
use Rattle.editor.specs.Ledger.{Ledger, opened, unchanged_by}
use Rattle.editor.specs.Editor.{output_of}
use Rattle.editor.specs.Demand.{Promised}
use Rattle.host_pages.specs.Pages.{kind_number, mark_in}
use Rattle.benches.specs.Words.{Side, number_of, Both, at, in_steps}
use Rattle.benches.specs.Benches.{State}
use Rattle.benches.specs.Layout.{bench}
use Rattle.benches.specs.Calls.{Call, replace, undo, redo, save, call_of, replace_of, undo_of, redo_of, save_of}
use Rattle.benches.specs.Demand.{Order, Heard, ledger_after}
use Rattle.host_benches.specs.declared.HostBench.{HostBench}
use Rattle.host_benches.specs.declared.HostBenches.{HostBenches}
use Rattle.host_benches.specs.Benches.{host_bench, HostOutcome, unopened, opened_on, on_benches, asked_on}

-- the benches that a host has in hand, and its buffers
pub record HostState : Type 0 where
  pub benches : HostBenches
  pub text0 : List ℕ
  pub text1 : List ℕ
  pub history : List ℕ

abbrev pub host_state : State → HostState
host_state t =
    record {
      benches =
          record {
            bench0 = host_bench t.benches.bench0;
            bench1 = host_bench t.benches.bench1;
            used = t.used;
          };
      text0 = t.texts.bench0;
      text1 = t.texts.bench1;
      history = t.history;
    }

abbrev pub left_by : HostOutcome → HostState
left_by o = record { benches = o.benches; text0 = o.text0; text1 = o.text1; history = o.history }

-- "0, accepted"
abbrev pub host_taken : HostOutcome → Bool
host_taken o = eqb o.verdict.number 0

-- the calls, as the promises of the functions for hosts say them
abbrev pub host_outcome : HostState → ℕ → Call → HostOutcome
host_outcome h n (replace place count cells) =
    on_benches h.benches n h.text0 h.text1 h.history [] cells (λ t. replace_of t n place count cells)
host_outcome h n undo = on_benches h.benches n h.text0 h.text1 h.history [] [] (λ t. undo_of t n)
host_outcome h n redo = on_benches h.benches n h.text0 h.text1 h.history [] [] (λ t. redo_of t n)
host_outcome h n (save arrived out) =
    on_benches h.benches n h.text0 h.text1 h.history out arrived (λ t. save_of t n arrived out)

abbrev pub host_made : HostState → Order → HostOutcome
host_made h o = host_outcome h o.bench o.call

-- each call is given the benches and the buffers as the last one left them
abbrev pub host_after : HostState → List Order → HostState
host_after h [] = h
host_after h (o ∷ orders) = host_after (left_by (host_made h o)) orders

-- a bench's own calls among all, and what the host was answered
abbrev pub host_heard : Call → HostOutcome → Heard
host_heard c o = record { call = c; verdict = o.verdict; output = o.output }

abbrev pub host_heard_at : Side → HostState → List Order → List Heard
host_heard_at s h [] = []
host_heard_at s h (o ∷ orders) =
    cond (eqb o.bench (number_of s))
    (host_heard o.call (host_made h o) ∷ host_heard_at s (left_by (host_made h o)) orders)
    (host_heard_at s (left_by (host_made h o)) orders)

-- a bench's numbers in hand
abbrev pub bench_at : HostState → Side → HostBench
bench_at h s = at (record { bench0 = h.benches.bench0; bench1 = h.benches.bench1 }) s

-- what a host has in hand are benches with their buffers of which demand 3 holds, by a bench's ledger that heard its
-- calls
pub record HostPromised (s : Side) (arrived : List ℕ) (h : HostState) (l : Ledger) : Type 0 where
  pub state : State
  pub in-hand : h ≡ host_state state
  pub promised : Promised (bench s) arrived state l
  -- the mark in hand is the ledger's
  pub mark : mark_in (bench_at h s).saved ≡ l.saved
  -- the question, asked of what is in hand, answers by the ledger
  pub asks :
      asked_on h.benches (number_of s) h.text0 h.text1 h.history
      ≡ record { verdict = numbered 0 0; unchanged = cond (unchanged_by in_steps l) 1 0 }

-- an open by the numbers of two kinds
abbrev pub host_opened : Both Kind → Both (List ℕ) → Both (List ℕ) → List ℕ → HostOutcome
host_opened kinds arrived texts history =
    opened_on (kind_number kinds.bench0) (kind_number kinds.bench1) arrived.bench0 arrived.bench1
    texts.bench0 texts.bench1 history

abbrev pub HostDemand3 : Type 0
HostDemand3 =
    (kinds : Both Kind) (arrived texts : Both (List ℕ)) (history : List ℕ) →
    host_taken (host_opened kinds arrived texts history) ≡ true →
    (orders : List Order) (s : Side) →
    HostPromised s (at arrived s) (host_after (left_by (host_opened kinds arrived texts history)) orders)
    (ledger_after (opened (at kinds s) (at arrived s))
    (host_heard_at s (left_by (host_opened kinds arrived texts history)) orders))

-- "A refusal changes no page and no buffer": every call of every bench, there or not, on all that a host has in hand,
-- of no kind too
abbrev pub host_refusing : HostState → List ℕ → Verdict → HostOutcome
host_refusing h out verdict =
    record {
      verdict = verdict;
      benches = h.benches;
      text0 = h.text0;
      text1 = h.text1;
      history = h.history;
      output = out;
    }

abbrev pub HostRefusedSame : Type 0
HostRefusedSame =
    (h : HostState) (n : ℕ) (c : Call) → host_taken (host_outcome h n c) ≡ false →
    host_outcome h n c ≡ host_refusing h (output_of (call_of c)) (host_outcome h n c).verdict

-- "refused, it gives the kinds, zeros and no marks", whatever numbers the kinds are
abbrev pub HostOpenRefused : Type 0
HostOpenRefused =
    (kind0 kind1 : ℕ) (arrived0 arrived1 text0 text1 history : List ℕ) →
    host_taken (opened_on kind0 kind1 arrived0 arrived1 text0 text1 history) ≡ false →
    opened_on kind0 kind1 arrived0 arrived1 text0 text1 history
    ≡ host_refusing (record { benches = unopened kind0 kind1; text0 = text0; text1 = text1; history = history }) []
    (opened_on kind0 kind1 arrived0 arrived1 text0 text1 history).verdict
