-- Demand 3 through C: a host's calls leave what the page's calls leave, with the kind and the mark as numbers. No mark
-- is taken for none: along the calls it is one of the words used. Assumes nothing.
use Prim.Native.Nat.{ℕ, ◌-◌, ◌≤◌}
use mathlib.Core.Path.{◌≡◌, refl, sym, ap, ◌∙◌, subst₂}
use mathlib.Core.Bool.{Bool, true, false, ◌&&◌, false≢true}
use mathlib.Core.List.{List, [], ◌∷◌, map, append-nil}
use native.Mathlib.Omega.{arith}
use lib.Dec.{ltb, leb}
use borrow.Author.Tests.{leb-true, ltb-false, ne_eqb}
use Rattle.answer.specs.Answer.{Verdict, limit}
use Rattle.std.specs.Prelude.{None, Some}
use Rattle.answer.proofs.Below.{cond-case}
use Rattle.codec.specs.declared.Kind.{Kind}
use Rattle.codec.specs.declared.Kind.TheVariants.{Utf7Header, Utf7Body, Jp2}
use Rattle.editor.specs.Marks.{Mark}
use Rattle.editor.specs.Editor.{Editor, output_of}
use Rattle.editor.specs.Records.{step_of, mark_fits}
use Rattle.editor.proofs.Ends.{entries}
use Rattle.editor.proofs.Promises.{Kept, kept-call, kept-calls, promised}
use Rattle.ledger.specs.Words.{Entry, in_words, sizes}
use Rattle.ledger.specs.Parts.{mark_within, cut_in, ends}
use Rattle.ledger.specs.Page.{State, state_of, Outcome}
use Rattle.ledger.specs.Calls.{open_of, replace_of, undo_of, redo_of, save_of, squeeze_of, unchanged_of}
use Rattle.ledger.specs.Ledger.{Ledger, Call, replace, undo, redo, save, squeeze, opened, fed}
use Rattle.ledger.specs.Running.{outcome_of, after, heard}
use Rattle.ledger.specs.Demand.{Promised}
use Rattle.ledger.proofs.Words.{length-words}
use Rattle.ledger.proofs.Marks.{mark-parts}
use Rattle.ledger.proofs.Lying.{Lies, page-lays}
use Rattle.ledger.proofs.Opens.{begun, open-refused}
use Rattle.ledger.proofs.Demand.{refused-same}
use Rattle.page_file.specs.Calls.{keep_of, read_of}
use Rattle.page_file.proofs.Again as again
use Rattle.host_pages.specs.Pages.{kind_of, kind_number, never, mark_in, mark_number, page_in, host_page}
use Rattle.host_pages.specs.Pages.{HostOutcome, hosted, on_page, in_reply, asked_on, kept_on}
use Rattle.host_pages.specs.Runs.{HostState, host_state, left_by, host_taken, host_outcome, host_after, host_heard}
use Rattle.host_pages.specs.Runs.{HostPromised, HostDemand3, host_refusing, HostRefusedSame, HostOpenRefused}
use Rattle.host_pages.specs.Runs.{HostReadRefused}
use Rattle.host_pages.proofs.OnPages.{page-back}

-- a kind has a number of its own, 0, 1 or 2
pub kind-there : (k : Kind) → kind_of (kind_number k) ≡ k
unfolding kind_of kind_number
kind-there Utf7Header = refl
kind-there Utf7Body = refl
kind-there Jp2 = refl

pub kind-few : (k : Kind) → ltb 2 (kind_number k) ≡ false
unfolding kind_number
kind-few Utf7Header = refl
kind-few Utf7Body = refl
kind-few Jp2 = refl

-- a mark that is one of few words has a number of its own
mark-there : (m : Mark) (used : ℕ) → mark_within used m ≡ true → used ≤ limit → mark_in (mark_number m) ≡ m
unfolding mark_in mark_number limit
mark-there None used h few = refl
mark-there (Some n) used h few =
    rw (ne_eqb n never (λ (e : n ≡ never). omega (arith, leb-true n used h)))

and_first : (a b : Bool) → (a && b) ≡ true → a ≡ true
and_first true b h = refl
and_first false b h = h

mark-used :
    (es : List Entry) (m : Mark) → mark_fits in_words m (map step_of es) ≡ true → mark_within (sizes es) m ≡ true
mark-used es m h =
    let p = mark-parts es [] (sizes es) (sizes es) refl (omega arith) m in
    let n : ℕ = sizes es in
    let within : Bool = mark_within n m in
    let standing : Bool = ends es (cut_in m 0 n) in
    let all : (within && standing && ends [] (cut_in m n n - n)) ≡ true = sym p ∙ rw (append-nil es) h in
    and_first within standing (and_first (within && standing) _ all)

-- the mark of a page in which an editor lies
pub mark-lies :
    {opening : ℕ} {s : State} {e : Editor} → Lies opening s e → mark_in (mark_number s.page.saved) ≡ s.page.saved
mark-lies {e = e} l =
    rw l.state
    (mark-there e.saved (sizes (entries e)) (mark-used (entries e) e.saved l.legal.marked)
    (omega (arith, length-words (entries e), l.few, l.small-history)))

module _ (s : State) (own : mark_in (mark_number s.page.saved) ≡ s.page.saved) where
  on-own :
      (output list : List ℕ) (call : State → Outcome) →
      on_page (host_page s.page) s.text s.history output list call ≡ hosted (call s)
  unfolding on_page
  on-own output list call = rw (kind-few s.page.kind, kind-there s.page.kind, own)

  asked-own : asked_on (host_page s.page) s.text s.history ≡ in_reply (unchanged_of s)
  unfolding asked_on
  asked-own = rw (kind-few s.page.kind, kind-there s.page.kind, own)

  pub kept-own :
      (arrived out : List ℕ) →
      kept_on (host_page s.page) s.text s.history arrived out ≡ keep_of s arrived out
  unfolding kept_on
  kept-own arrived out = rw (kind-few s.page.kind, kind-there s.page.kind, own)

  pub host-call : (c : Call) → host_outcome (host_state s) c ≡ hosted (outcome_of s c)
  host-call (replace place count cells) = on-own [] cells (λ x. replace_of x place count cells)
  host-call undo = on-own [] [] undo_of
  host-call redo = on-own [] [] redo_of
  host-call (save arrived out) = on-own out arrived (λ x. save_of x arrived out)
  host-call (squeeze k work) = on-own work [] (λ x. squeeze_of x k work)

-- along the calls of demand 3
module _ {arrived : List ℕ} where
  pub host-after :
      {s : State} {l : Ledger} → Kept page-lays arrived s l → (calls : List Call) →
      host_after (host_state s) calls ≡ host_state (after s calls)
  host-after k [] = refl
  host-after {s} k (c ∷ cs) =
      ap (λ (o : HostOutcome). host_after (left_by o) cs) (host-call s (mark-lies k.lies) c)
      ∙ host-after {s = (outcome_of s c).state} (kept-call page-lays k c) cs

  pub host-heard :
      {s : State} {l : Ledger} → Kept page-lays arrived s l → (calls : List Call) →
      host_heard l (host_state s) calls ≡ heard l s calls
  host-heard k [] = refl
  host-heard {s} {l} k (c ∷ cs) =
      ap (λ (o : HostOutcome). host_heard (fed in_words l c (host_taken o)) (left_by o) cs)
      (host-call s (mark-lies k.lies) c)
      ∙ host-heard {s = (outcome_of s c).state} (kept-call page-lays k c) cs

  -- what is in hand
  pub host-here : {s : State} {l : Ledger} → Kept page-lays arrived s l → HostPromised arrived (host_state s) l
  host-here {s} {l} k =
      let p : Promised arrived s l = promised page-lays k in
      let own : mark_in (mark_number s.page.saved) ≡ s.page.saved = mark-lies k.lies in
      record {
        state = s;
        in-hand = refl;
        promised = p;
        mark =
            own
            ∙ ap (λ (s : State). s.page.saved) k.lies.state
            ∙ sym (ap (λ (l : Ledger). l.saved) k.ledger);
        asks = asked-own s own ∙ ap in_reply p.asks;
      }

pub host-keeps : HostDemand3
host-keeps kind arrived text history ok calls =
    let k = begun kind arrived text history ok in
    subst₂ (HostPromised arrived) (sym (host-after k calls)) (sym (host-heard k calls))
    (host-here (kept-calls page-lays k calls))

-- a refused call gives the page back as it came, its numbers too
module _ (h : HostState) (list : List ℕ) (c : Call) where
  abbrev Stays : HostOutcome → Type 0
  Stays o = host_taken o ≡ false → o ≡ host_refusing h (output_of c) o.verdict

  stays_on : Stays (on_page h.page h.text h.history (output_of c) list (λ s. outcome_of s c))
  unfolding on_page
  stays_on =
      cond-case Stays (ltb 2 h.page.kind) (λ _ _. refl)
      (λ q t.
      let s : State = state_of (page_in h.page) h.text h.history in
      let v : Verdict = (outcome_of s c).verdict in
      let u = refused-same s c t in
      let back : host_page (page_in h.page) ≡ h.page = page-back h.page (ltb-false 2 h.page.kind q) in
      (λ i. hosted (record { verdict = v; state = u.state i; output = u.output i }))
      ∙ (λ i. record { verdict = v; page = back i; text = h.text; history = h.history; output = output_of c }))

pub host-refused-same : HostRefusedSame
host-refused-same h (replace place count cells) = stays_on h cells (replace place count cells)
host-refused-same h undo = stays_on h [] undo
host-refused-same h redo = stays_on h [] redo
host-refused-same h (save arrived out) = stays_on h arrived (save arrived out)
host-refused-same h (squeeze k work) = stays_on h [] (squeeze k work)

pub host-open-refused : HostOpenRefused
unfolding mark_number
host-open-refused kind arrived text history t =
    let u = open-refused kind arrived text history t in
    λ i.
    hosted
    (record { verdict = (open_of kind arrived text history).verdict; state = u.state i; output = u.output i })

pub host-read-refused : HostReadRefused
unfolding mark_number kind_number
host-read-refused arrived text history file t =
    let u = (again.calls).read-refused arrived text history file t in
    λ i.
    hosted
    (record { verdict = (read_of arrived text history file).verdict; state = u.state i; output = u.output i })
