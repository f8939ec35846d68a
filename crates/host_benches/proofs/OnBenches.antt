-- A call on benches that is handed on keeps its promise with kinds and marks as numbers. Assumes nothing.
use Prim.Native.Nat.{ℕ}
use mathlib.Core.Path.{◌≡◌, ap, ◌∙◌}
use mathlib.Core.Bool.{true, false, cond, ◌||◌}
use mathlib.Core.List.{List, []}
use Rattle.answer.specs.Answer.{in_numbers, numbered, too_long}
use Rattle.editor.specs.Editor.{over}
use Rattle.ledger.specs.Page.{replies}
use Rattle.ledger.specs.declared.Asked.{Asked}
use Rattle.benches.specs.declared.Benches.{Benches}
use Rattle.benches.specs.declared.Edited.{Edited}
use Rattle.benches.specs.Benches.{State, state_of, Outcome, leaves}
use Rattle.benches.specs.Calls.{open_of, unchanged_of}
use Rattle.bench_open.specs.Opens.{both_of}
use Rattle.codec.specs.declared.Kind.{Kind}
use Rattle.host_numbers.specs.Numbers.{verdict_in}
use Rattle.host_numbers.specs.declared.Numbers.{Numbers}
use Rattle.host_pages.specs.Pages.{kind_of, in_reply, hears}
use Rattle.host_pages.specs.declared.HostAsked.{HostAsked}
use Rattle.host_benches.specs.declared.HostBenches.{HostBenches}
use Rattle.host_benches.specs.declared.HostBenchesEdited.{HostBenchesEdited}
use Rattle.host_benches.specs.Benches.{benches_in, host_benches, hosted, no_kind_in, unsound_at, on_benches, finds}
use Rattle.host_benches.specs.Benches.{unopened, opened_on, asked_on}

-- benches that are given back
pub edited-on :
    (r : HostBenchesEdited) (e : Edited) (text0 text1 history out : List ℕ) (o : Outcome) →
    (verdict_in r.answer ≡ in_numbers e.answer) × (r.benches ≡ host_benches e.benches) →
    leaves e text0 text1 history out ≡ o → finds r text0 text1 history out ≡ hosted o
edited-on r e text0 text1 history out o h q =
    (λ i.
    record {
      verdict = h.0 i;
      benches = h.1 i;
      text0 = text0;
      text1 = text1;
      history = history;
      output = out;
    })
    ∙ ap hosted q

-- an open by numbers of kinds; `b` are the benches of an open that is refused
module _ (kind0 kind1 : ℕ) (arrived0 arrived1 text0 text1 history : List ℕ) (b : HostBenches)
    (q : b ≡ unopened kind0 kind1) where
  pub none-opened :
      (a : Numbers) → no_kind_in b ≡ true →
      verdict_in a
      ≡ cond (over arrived0 || (over arrived1 || (over text0 || (over text1 || over history)))) too_long
      (numbered 14 0) →
      finds (record { answer = a; benches = b }) text0 text1 history []
      ≡ opened_on kind0 kind1 arrived0 arrived1 text0 text1 history
  unfolding opened_on
  none-opened a h e =
      rw (← q, h)
      (λ i.
      record {
        verdict = e i;
        benches = b;
        text0 = text0;
        text1 = text1;
        history = history;
        output = [];
      })

  pub opened-found :
      (r : HostBenchesEdited) (e : Edited) (k l : Kind) (x y z : List ℕ) → no_kind_in b ≡ false →
      k ≡ kind_of kind0 → l ≡ kind_of kind1 →
      (verdict_in r.answer ≡ in_numbers e.answer) × (r.benches ≡ host_benches e.benches) →
      leaves e x y z [] ≡ open_of (both_of k l) (both_of arrived0 arrived1) (both_of text0 text1) history →
      finds r x y z [] ≡ opened_on kind0 kind1 arrived0 arrived1 text0 text1 history
  unfolding opened_on
  opened-found r e k l x y z h p o w f = edited-on r e x y z [] _ w f ∙ rw (← q, h, p, o)

module _ (b : HostBenches) (n : ℕ) (text0 text1 history output list : List ℕ) (call : State → Outcome) where
  -- benches of no kind are refused
  pub none_found :
      (a : Numbers) → no_kind_in b ≡ true → verdict_in a ≡ unsound_at n list text0 text1 history →
      finds (record { answer = a; benches = b }) text0 text1 history output
      ≡ on_benches b n text0 text1 history output list call
  unfolding on_benches
  none_found a h e =
      rw h
      (λ i.
      record {
        verdict = e i;
        benches = b;
        text0 = text0;
        text1 = text1;
        history = history;
        output = output;
      })

  pub edited-found :
      (r : HostBenchesEdited) (e : Edited) (given : Benches) (x y z out : List ℕ) → no_kind_in b ≡ false →
      given ≡ benches_in b →
      (verdict_in r.answer ≡ in_numbers e.answer) × (r.benches ≡ host_benches e.benches) →
      leaves e x y z out ≡ call (state_of given text0 text1 history) →
      finds r x y z out ≡ on_benches b n text0 text1 history output list call
  unfolding on_benches
  edited-found r e given x y z out h q w f =
      edited-on r e x y z out _ w f ∙ rw (h, q)

-- the question, likewise
module _ (b : HostBenches) (n : ℕ) (text0 text1 history : List ℕ) where
  pub none-asked :
      (a : Numbers) → no_kind_in b ≡ true → verdict_in a ≡ unsound_at n [] text0 text1 history →
      hears (record { answer = a; unchanged = 0 }) ≡ asked_on b n text0 text1 history
  unfolding asked_on
  none-asked a h e = rw h (λ i. record { verdict = e i; unchanged = 0 })

  pub asked-found :
      (r : HostAsked) (a : Asked) (given : Benches) → no_kind_in b ≡ false → given ≡ benches_in b →
      hears r ≡ in_reply (replies a) → replies a ≡ unchanged_of (state_of given text0 text1 history) n →
      hears r ≡ asked_on b n text0 text1 history
  unfolding asked_on
  asked-found r a given h q w f = w ∙ ap in_reply f ∙ rw (h, q)
