-- Order 13's promises through C: a host's calls leave what the benches' calls leave, with kinds and marks as numbers. No
-- mark is taken for none: along the calls it is at most the number of records. Assumes nothing.
use Prim.Native.Nat.{ℕ, ◌+◌, ◌≤◌, ◌<◌}
use mathlib.Core.Path.{◌≡◌, refl, sym, ap, ◌∙◌}
use mathlib.Core.Bool.{Bool, true, false, cond, ◌||◌, false≢true}
use mathlib.Core.List.{List, [], ◌∷◌, ◌++◌, map}
use native.Mathlib.Omega.{arith}
use lib.ListN.{length, length-append, length-map}
use lib.Dec.{ltb, eqb}
use borrow.Author.Tests.{ltb-false, ne_eqb}
use Rattle.answer.specs.Answer.{Verdict, limit}
use Rattle.std.specs.Prelude.{None, Some, Option}
use Rattle.answer.proofs.Below.{cond-case}
use Rattle.codec.specs.declared.Kind.{Kind}
use Rattle.editor.specs.Marks.{Mark}
use Rattle.editor.specs.Ledger.{Ledger, opened, weight_of}
use Rattle.editor.specs.Records.{Entry, step_of, mark_fits}
use Rattle.editor.specs.Editor.{Editor, output_of}
use Rattle.editor.specs.Layout.{taken}
use Rattle.editor.specs.Layout as layout
use Rattle.editor.specs.Demand.{Promised}
use Rattle.editor.proofs.Marks.{ends-far}
use Rattle.editor.proofs.Ends.{entries}
use Rattle.host_pages.specs.Pages.{kind_of, kind_number, never, mark_in, mark_number, in_reply}
use Rattle.host_pages.proofs.OnPages.{kind-back, mark-back}
use Rattle.host_pages.proofs.Runs.{kind-there, kind-few}
use Rattle.bench_open.specs.Opens.{both_of}
use Rattle.benches.specs.declared.Bench.{Bench}
use Rattle.benches.specs.Words.{Side, first, second, number_of, Both, at, Record, words_of, words, same, own, in_steps}
use Rattle.benches.specs.Benches.{State, state_of, records, Outcome}
use Rattle.benches.specs.Layout.{editor_for, bench}
use Rattle.benches.specs.Calls.{Call, replace, undo, redo, save, call_of, outcome_of, unchanged_of, open_of}
use Rattle.benches.specs.Calls.{reply_at, replace_of, undo_of, redo_of, save_of}
use Rattle.benches.specs.Demand.{Order, made_on, after, Heard, heard_of, heard_at, ledger_after}
use Rattle.benches.proofs.Words.{side-number, by_side}
use Rattle.benches.proofs.Lying.{Lying, LiesAt, weight-steps}
use Rattle.benches.proofs.Opens.{open-refused}
use Rattle.benches.proofs.Refusals.{refused-same}
use Rattle.benches.proofs.Demand.{ran-opened, demand3}
use Rattle.host_benches.specs.declared.HostBench.{HostBench}
use Rattle.host_benches.specs.declared.HostBenches.{HostBenches}
use Rattle.host_benches.specs.Benches.{bench_in, benches_in, host_bench, HostOutcome, hosted, no_kind_in}
use Rattle.host_benches.specs.Benches.{on_benches, unopened, opened_on, asked_on}
use Rattle.host_benches.specs.Runs.{HostState, host_state, left_by, host_taken, host_outcome, host_made, host_after}
use Rattle.host_benches.specs.Runs.{host_heard, host_heard_at, bench_at, HostPromised, host_opened, HostDemand3}
use Rattle.host_benches.specs.Runs.{host_refusing, HostRefusedSame, HostOpenRefused}

-- a bench has at most as many records as there are words
own-few : (s : Side) (rs : List Record) → length (own s rs) ≤ length (words rs)
unfolding own
own-few s [] = omega arith
own-few s (r ∷ rs) =
    cond-case (λ (es : List Entry). length es ≤ length (words (r ∷ rs))) (same s r.bench)
    (λ _. simp length-append (omega (arith, own-few s rs))) (λ _. simp length-append (omega (arith, own-few s rs)))

-- a mark that is a count of few steps has a number of its own
mark-there :
    (m : Mark) (es : List Entry) → mark_fits in_steps m (map step_of es) ≡ true → length es ≤ limit →
    mark_in (mark_number m) ≡ m
unfolding mark_in mark_number limit
mark-there None es h few = refl
mark-there (Some n) es h few =
    rw (ne_eqb n never
    (λ (e : n ≡ never).
    let far : weight_of in_steps (map step_of es) < n =
    omega (arith, weight-steps (map step_of es), length-map es step_of) in
    absurd (false≢true (sym (ends-far in_steps (map step_of es) n far) ∙ h))))

mark-lies :
    {n : ℕ} {b : Bench} {text : List ℕ} {es : List Entry} {e : Editor} → LiesAt n b text es e → length es ≤ limit →
    mark_in (mark_number b.saved) ≡ b.saved
mark-lies {e = e} l few =
    rw l.is (mark-there e.saved (entries e) l.legal.marked (rw l.mine at few))

-- the marks of both benches have numbers of their own
abbrev Own : State → Type 0
Own t = (p : Side) → mark_in (mark_number (at t.benches p).saved) ≡ (at t.benches p).saved

own-lying : (s : Side) {m n : ℕ} {t : State} {e f : Editor} → Lying s m f n t e → Own t
own-lying s {t = t} l =
    let few : (p : Side) → length (own p l.rs) ≤ limit =
    λ p. omega (arith, own-few p l.rs, l.few, l.small) in
    by_side (λ p. mark_in (mark_number (at t.benches p).saved) ≡ (at t.benches p).saved) s
    (mark-lies l.here (few s)) (mark-lies l.there (few _))

module _ (t : State) (marks : Own t) where
  on-own :
      (n : ℕ) (output list : List ℕ) (call : State → Outcome) →
      on_benches (host_state t).benches n t.texts.bench0 t.texts.bench1 t.history output list call
      ≡ hosted (call t)
  unfolding on_benches no_kind_in
  on-own n output list call =
      rw (
        kind-few t.benches.bench0.kind,
        kind-few t.benches.bench1.kind,
        kind-there t.benches.bench0.kind,
        kind-there t.benches.bench1.kind,
        marks first,
        marks second,
      )

  asked-own :
      (n : ℕ) →
      asked_on (host_state t).benches n t.texts.bench0 t.texts.bench1 t.history
      ≡ in_reply (unchanged_of t n)
  unfolding asked_on no_kind_in
  asked-own n =
      rw (
        kind-few t.benches.bench0.kind,
        kind-few t.benches.bench1.kind,
        kind-there t.benches.bench0.kind,
        kind-there t.benches.bench1.kind,
        marks first,
        marks second,
      )

  host-call : (n : ℕ) (c : Call) → host_outcome (host_state t) n c ≡ hosted (outcome_of t n c)
  host-call n (replace place count cells) = on-own n [] cells (λ x. replace_of x n place count cells)
  host-call n undo = on-own n [] [] (λ x. undo_of x n)
  host-call n redo = on-own n [] [] (λ x. redo_of x n)
  host-call n (save arrived out) = on-own n out arrived (λ x. save_of x n arrived out)

-- along a run, from a state on all of whose runs the marks have numbers of their own
module _ (start : State) (marks : (orders : List Order) → Own (after start orders)) where
  after_one : (t : State) (made : List Order) (o : Order) → after t (made ++ (o ∷ [])) ≡ (made_on (after t made) o).state
  after_one t [] o = refl
  after_one t (x ∷ made) o = after_one (made_on t x).state made o

  call-there :
      (made : List Order) (o : Order) →
      host_made (host_state (after start made)) o ≡ hosted (made_on (after start made) o)
  call-there made o = host-call (after start made) (marks made) o.bench o.call

  host-after :
      (made rest : List Order) →
      host_after (host_state (after start made)) rest ≡ host_state (after (after start made) rest)
  host-after made [] = refl
  host-after made (o ∷ rest) =
      ap (λ (r : HostOutcome). host_after (left_by r) rest) (call-there made o)
      ∙ (rw (after_one start made o) at (host-after (made ++ (o ∷ [])) rest))

  host-heard :
      (s : Side) (made rest : List Order) →
      host_heard_at s (host_state (after start made)) rest ≡ heard_at s (after start made) rest
  host-heard s made [] = refl
  host-heard s made (o ∷ rest) =
      ap
      (λ (r : HostOutcome).
      cond (eqb o.bench (number_of s)) (host_heard o.call r ∷ host_heard_at s (left_by r) rest)
      (host_heard_at s (left_by r) rest))
      (call-there made o)
      ∙ ap
      (λ (hs : List Heard).
      cond (eqb o.bench (number_of s)) (heard_of o.call (made_on (after start made) o) ∷ hs) hs)
      (rw (after_one start made o) at (host-heard s (made ++ (o ∷ [])) rest))

-- the mark of a bench is that of the editor seen there
saved_in : Option Editor → Mark
saved_in None = None
saved_in (Some e) = e.saved

present : Option Editor → Bool
present None = false
present (Some e) = true

seen-mark :
    (t : State) (s : Side) (rs : Option (List Record)) (e : Editor) → editor_for t s rs ≡ Some e →
    (at t.benches s).saved ≡ e.saved
unfolding present saved_in
seen-mark t s None e h = absurd (false≢true (ap present h))
seen-mark t s (Some rs) e h = ap saved_in h

mark-at : (t : State) (marks : Own t) (s : Side) → mark_in (bench_at (host_state t) s).saved ≡ (at t.benches s).saved
mark-at t marks first = marks first
mark-at t marks second = marks second

reply-at : (t : State) (s : Side) → unchanged_of t (number_of s) ≡ layout.reply_of (bench s) t
unfolding reply_at
reply-at t s = rw (side-number s)

-- what is in hand
host-here :
    (t : State) (marks : Own t) (s : Side) (arrived : List ℕ) (l : Ledger) → Promised (bench s) arrived t l →
    HostPromised s arrived (host_state t) l
host-here t marks s arrived l p =
    record {
      state = t;
      in-hand = refl;
      promised = p;
      mark =
          mark-at t marks s ∙ seen-mark t s (records t) p.agrees.editor p.agrees.sound ∙ p.agrees.saved;
      asks = asked-own t marks (number_of s) ∙ ap in_reply (reply-at t s ∙ p.asks);
    }

-- kinds that have numbers are opened
module _ (kinds : Both Kind) (arrived texts : Both (List ℕ)) (history : List ℕ) where
  opened-is : host_opened kinds arrived texts history ≡ hosted (open_of kinds arrived texts history)
  unfolding opened_on no_kind_in
  opened-is =
      rw (
        kind-few kinds.bench0,
        kind-few kinds.bench1,
        kind-there kinds.bench0,
        kind-there kinds.bench1,
      )

  module _ (ok : taken (open_of kinds arrived texts history) ≡ true) (orders : List Order) (s : Side) where
    abbrev start : State
    start = (open_of kinds arrived texts history).state

    marks : (made : List Order) → Own (after start made)
    marks made = own-lying first (ran-opened kinds arrived texts history ok made first).lying

    host-ran :
        HostPromised s (at arrived s) (host_after (host_state start) orders)
        (ledger_after (opened (at kinds s) (at arrived s)) (host_heard_at s (host_state start) orders))
    host-ran =
        rw (host-after start marks [] orders, host-heard start marks s [] orders)
        (host-here (after start orders) (marks orders) s (at arrived s) _
        (demand3 kinds arrived texts history ok orders s))

pub host-keeps : HostDemand3
host-keeps kinds arrived texts history ok orders s =
    let q = opened-is kinds arrived texts history in
    rw q (host-ran kinds arrived texts history (rw q at ok) orders s)

-- benches that came from a host cross back as they came
bench-back : (b : HostBench) → ltb 2 b.kind ≡ false → host_bench (bench_in b) ≡ b
bench-back b h = rw (kind-back b.kind (ltb-false 2 b.kind h), mark-back b.saved)

neither : (a b : Bool) → (a || b) ≡ false → (a ≡ false) × (b ≡ false)
neither true b h = absurd (false≢true (sym h))
neither false b h = (refl, h)

module _ (h : HostState) (n : ℕ) (list : List ℕ) (c : Call) where
  abbrev Stays : HostOutcome → Type 0
  Stays o = host_taken o ≡ false → o ≡ host_refusing h (output_of (call_of c)) o.verdict

  stays_on :
      Stays
      (on_benches h.benches n h.text0 h.text1 h.history (output_of (call_of c)) list (λ t. outcome_of t n c))
  unfolding on_benches no_kind_in
  stays_on =
      cond-case Stays (ltb 2 h.benches.bench0.kind || ltb 2 h.benches.bench1.kind) (λ _ _. refl)
      (λ q t.
      let s : State = state_of (benches_in h.benches) h.text0 h.text1 h.history in
      let v : Verdict = (outcome_of s n c).verdict in
      let u = refused-same s n c t in
      let k = neither (ltb 2 h.benches.bench0.kind) (ltb 2 h.benches.bench1.kind) q in
      let back0 : host_bench (bench_in h.benches.bench0) ≡ h.benches.bench0 =
      bench-back h.benches.bench0 k.0 in
      let back1 : host_bench (bench_in h.benches.bench1) ≡ h.benches.bench1 =
      bench-back h.benches.bench1 k.1 in
      (λ i. hosted (record { verdict = v; state = u.state i; output = u.output i }))
      ∙ (λ i.
      host_refusing
      (record {
        benches = record { bench0 = back0 i; bench1 = back1 i; used = h.benches.used };
        text0 = h.text0;
        text1 = h.text1;
        history = h.history;
      })
      (output_of (call_of c)) v))

pub host-refused-same : HostRefusedSame
host-refused-same h n (replace place count cells) = stays_on h n cells (replace place count cells)
host-refused-same h n undo = stays_on h n [] undo
host-refused-same h n redo = stays_on h n [] redo
host-refused-same h n (save arrived out) = stays_on h n arrived (save arrived out)

pub host-open-refused : HostOpenRefused
unfolding opened_on no_kind_in mark_number
host-open-refused kind0 kind1 arrived0 arrived1 text0 text1 history =
    let in-hand : HostBenches → HostState =
    λ b. record { benches = b; text0 = text0; text1 = text1; history = history } in
    cond-case
    (λ (o : HostOutcome).
    host_taken o ≡ false → o ≡ host_refusing (in-hand (unopened kind0 kind1)) [] o.verdict)
    (ltb 2 kind0 || ltb 2 kind1) (λ _ _. refl)
    (λ q t.
    let kinds : Both Kind = both_of (kind_of kind0) (kind_of kind1) in
    let u = open-refused kinds (both_of arrived0 arrived1) (both_of text0 text1) history t in
    let v : Verdict = (open_of kinds (both_of arrived0 arrived1) (both_of text0 text1) history).verdict in
    let k = neither (ltb 2 kind0) (ltb 2 kind1) q in
    let back0 : kind_number (kind_of kind0) ≡ kind0 = kind-back kind0 (ltb-false 2 kind0 k.0) in
    let back1 : kind_number (kind_of kind1) ≡ kind1 = kind-back kind1 (ltb-false 2 kind1 k.1) in
    (λ i. hosted (record { verdict = v; state = u.state i; output = u.output i }))
    ∙ (λ i. host_refusing (in-hand (unopened (back0 i) (back1 i))) [] v))
