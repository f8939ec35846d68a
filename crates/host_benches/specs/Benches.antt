-- Two benches as they cross to C: kinds and marks are numbers, as a page's.
use Rattle.std.specs.Prelude.{ℕ, Bool, cond, ◌||◌, List, [], ltb}
use Rattle.answer.specs.Answer.{Verdict, numbered, too_long}
use Rattle.editor.specs.Editor.{over}
use Rattle.benches.specs.declared.Bench.{Bench}
use Rattle.benches.specs.declared.Benches.{Benches}
use Rattle.benches.specs.Benches.{State, state_of, Outcome}
use Rattle.benches.specs.Calls.{open_of, unchanged_of}
use Rattle.bench_open.specs.Opens.{both_of}
use Rattle.host_numbers.specs.Numbers.{verdict_in}
use Rattle.host_pages.specs.Pages.{never, kind_of, kind_number, mark_in, mark_number, HostReply, in_reply}
use Rattle.host_benches.specs.declared.HostBench.{HostBench}
use Rattle.host_benches.specs.declared.HostBenches.{HostBenches}
use Rattle.host_benches.specs.declared.HostBenchesEdited.{HostBenchesEdited}

abbrev pub bench_in : HostBench → Bench
bench_in b =
    record {
      kind = kind_of b.kind;
      opening = b.opening;
      length = b.length;
      standing = b.standing;
      saved = mark_in b.saved;
    }

abbrev pub benches_in : HostBenches → Benches
benches_in b = record { bench0 = bench_in b.bench0; bench1 = bench_in b.bench1; used = b.used }

abbrev pub host_bench : Bench → HostBench
host_bench b =
    record {
      kind = kind_number b.kind;
      opening = b.opening;
      length = b.length;
      standing = b.standing;
      saved = mark_number b.saved;
    }

abbrev pub host_benches : Benches → HostBenches
host_benches b = record { bench0 = host_bench b.bench0; bench1 = host_bench b.bench1; used = b.used }

-- what a call leaves, as a host sees it; the output is save's
pub record HostOutcome : Type 0 where
  pub verdict : Verdict
  pub benches : HostBenches
  pub text0 : List ℕ
  pub text1 : List ℕ
  pub history : List ℕ
  pub output : List ℕ

abbrev pub hosted : Outcome → HostOutcome
hosted o =
    record {
      verdict = o.verdict;
      benches =
          record {
            bench0 = host_bench o.state.benches.bench0;
            bench1 = host_bench o.state.benches.bench1;
            used = o.state.used;
          };
      text0 = o.state.texts.bench0;
      text1 = o.state.texts.bench1;
      history = o.state.history;
      output = o.output;
    }

-- a bench whose kind's number is no kind is not sound
unfoldable pub no_kind_in : HostBenches → Bool
no_kind_in b = ltb 2 b.bench0.kind || ltb 2 b.bench1.kind

-- 14, but 16 and 20 come first; `list` is the list lent beside the benches
abbrev pub unsound_at : ℕ → List ℕ → List ℕ → List ℕ → List ℕ → Verdict
unsound_at n list text0 text1 history =
    cond (over list || (over text0 || (over text1 || over history))) too_long
    (cond (ltb 1 n) (numbered 20 0) (numbered 14 0))

-- a call on benches that came from a host; of no kind, nothing is changed
unfoldable pub on_benches :
    HostBenches → ℕ → List ℕ → List ℕ → List ℕ → List ℕ → List ℕ → (State → Outcome) → HostOutcome
on_benches b n text0 text1 history output list call =
    cond (no_kind_in b)
    (record {
      verdict = unsound_at n list text0 text1 history;
      benches = b;
      text0 = text0;
      text1 = text1;
      history = history;
      output = output;
    })
    (hosted (call (state_of (benches_in b) text0 text1 history)))

-- "refused, it gives the kinds, zeros and no marks"
abbrev pub no_host_bench : ℕ → HostBench
no_host_bench kind = record { kind = kind; opening = 0; length = 0; standing = 0; saved = never }

abbrev pub unopened : ℕ → ℕ → HostBenches
unopened kind0 kind1 = record { bench0 = no_host_bench kind0; bench1 = no_host_bench kind1; used = 0 }

-- an open whose kinds came from a host as numbers; where one is no kind, nothing is read or changed: 14, but 16
-- over the five lists comes first
unfoldable pub opened_on : ℕ → ℕ → List ℕ → List ℕ → List ℕ → List ℕ → List ℕ → HostOutcome
opened_on kind0 kind1 arrived0 arrived1 text0 text1 history =
    cond (no_kind_in (unopened kind0 kind1))
    (record {
      verdict =
          cond (over arrived0 || (over arrived1 || (over text0 || (over text1 || over history)))) too_long
          (numbered 14 0);
      benches = unopened kind0 kind1;
      text0 = text0;
      text1 = text1;
      history = history;
      output = [];
    })
    (hosted
    (open_of (both_of (kind_of kind0) (kind_of kind1)) (both_of arrived0 arrived1) (both_of text0 text1) history))

-- what a host is given, and finds in its buffers
abbrev pub finds : HostBenchesEdited → List ℕ → List ℕ → List ℕ → List ℕ → HostOutcome
finds r text0 text1 history out =
    record {
      verdict = verdict_in r.answer;
      benches = r.benches;
      text0 = text0;
      text1 = text1;
      history = history;
      output = out;
    }

-- the question asked of a bench that came from a host
unfoldable pub asked_on : HostBenches → ℕ → List ℕ → List ℕ → List ℕ → HostReply
asked_on b n text0 text1 history =
    cond (no_kind_in b) (record { verdict = unsound_at n [] text0 text1 history; unchanged = 0 })
    (in_reply (unchanged_of (state_of (benches_in b) text0 text1 history) n))
