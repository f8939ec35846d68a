-- A call on a page that is handed on keeps its promise with the kind and the mark as numbers. Assumes nothing.
use Prim.Native.Nat.{ℕ, ◌<◌, ◌≤◌}
use mathlib.Core.Path.{◌≡◌, refl, sym, ap, ◌∙◌}
use mathlib.Core.List.{List, []}
use lib.Dec.{eqb}
use native.Mathlib.Omega.{arith}
use borrow.Author.Tests.{lt-ltb, le-ltb, eqb-true, leb-true}
use Rattle.answer.specs.Answer.{in_numbers, Answer}
use Rattle.answer.specs.Output as output
use Rattle.answer.proofs.Below.{all_below, below, cond-case}
use Rattle.codec.specs.declared.Kind.{Kind}
use Rattle.codec.specs.declared.Kind.TheVariants.{Utf7Header, Utf7Body, Jp2}
use Rattle.editor.specs.Marks.{Mark}
use Rattle.ledger.specs.Page.{State, state_of, Outcome, keeps, replies}
use Rattle.ledger.specs.Calls.{unchanged_of}
use Rattle.ledger.specs.declared.Asked.{Asked}
use Rattle.ledger.specs.declared.Edited.{Edited}
use Rattle.ledger.specs.declared.Page.{Page}
use Rattle.page_file.specs.Calls.{keep_of}
use Rattle.host_numbers.specs.Numbers.{verdict_in, left}
use Rattle.host_numbers.specs.declared.Numbers.{Numbers}
use Rattle.host_numbers.proofs.HandedOn.{handed-on}
use Rattle.host_pages.specs.Pages.{kind_of, kind_number, never, mark_in, mark_number, page_in, host_page}
use Rattle.host_pages.specs.Pages.{HostOutcome, hosted, unsound, no_kind, on_page, finds_output}
use Rattle.host_pages.specs.Pages.{HostReply, in_reply, asked_on, hears, kept_on}
use Rattle.host_pages.specs.declared.HostPage.{HostPage}
use Rattle.host_pages.specs.declared.HostEdited.{HostEdited}
use Rattle.host_pages.specs.declared.HostAsked.{HostAsked}

-- a page that is given back
pub edited-on :
    (r : HostEdited) (e : Edited) (text history out : List ℕ) (o : Outcome) →
    (verdict_in r.answer ≡ in_numbers e.answer) × (r.page ≡ host_page e.page) →
    keeps e text history out ≡ o → finds_output r text history out ≡ hosted o
edited-on r e text history out o h q =
    (λ i. record { verdict = h.0 i; page = h.1 i; text = text; history = history; output = out }) ∙ ap hosted q

-- a kind number of a kind is the number of that kind
pub kind-back : (k : ℕ) → k ≤ 2 → kind_number (kind_of k) ≡ k
unfolding kind_number kind_of all_below
kind-back k h = eqb-true (kind_number (kind_of k)) k (below (λ j. eqb (kind_number (kind_of j)) j) 3 refl k (omega arith))

-- the number of a kind is 2 or less, and that kind's
pub decoded : (k : Kind) (n : ℕ) → kind_number k ≡ n → (n ≤ 2) × (kind_of n ≡ k)
unfolding kind_number kind_of
decoded Utf7Header n e = rw (← e) (leb-true 0 2 refl, refl)
decoded Utf7Body n e = rw (← e) (leb-true 1 2 refl, refl)
decoded Jp2 n e = rw (← e) (leb-true 2 2 refl, refl)

-- every number is the number of its mark
pub mark-back : (n : ℕ) → mark_number (mark_in n) ≡ n
unfolding mark_number mark_in
mark-back n =
    cond-case (λ (m : Mark). mark_number m ≡ n) (eqb n never) (λ t. sym (eqb-true n never t)) (λ _. refl)

-- a page that came from a host crosses back as it came
pub page-back : (p : HostPage) → p.kind ≤ 2 → host_page (page_in p) ≡ p
page-back p h = rw (kind-back p.kind h, mark-back p.saved)

module _ (p : HostPage) (text history output list : List ℕ) (call : State → Outcome) where
  abbrev asked : HostOutcome
  asked = on_page p text history output list call

  on-kind : p.kind ≤ 2 → (page : Page) → page ≡ page_in p → hosted (call (state_of page text history)) ≡ asked
  unfolding on_page
  on-kind h page e = rw (le-ltb 2 p.kind h, e)

  on_none : 2 < p.kind → no_kind p text history output list ≡ asked
  unfolding on_page
  on_none h = rw (lt-ltb 2 p.kind h)

  -- a page of no kind is refused
  pub none_found :
      (n : Numbers) → 2 < p.kind → verdict_in n ≡ unsound list text history →
      finds_output (record { answer = n; page = p }) text history output ≡ asked
  none_found n h e =
      (λ i. record { verdict = e i; page = p; text = text; history = history; output = output }) ∙ on_none h

  pub edited-found :
      (r : HostEdited) (e : Edited) (page : Page) (text' history' out : List ℕ) → p.kind ≤ 2 → page ≡ page_in p →
      (verdict_in r.answer ≡ in_numbers e.answer) × (r.page ≡ host_page e.page) →
      keeps e text' history' out ≡ call (state_of page text history) → finds_output r text' history' out ≡ asked
  edited-found r e page text' history' out h q w f = edited-on r e text' history' out _ w f ∙ on-kind h page q

-- the question, likewise
module _ (p : HostPage) (text history : List ℕ) where
  pub none-asked :
      (n : Numbers) → 2 < p.kind → verdict_in n ≡ unsound [] text history →
      hears (record { answer = n; unchanged = 0 }) ≡ asked_on p text history
  unfolding asked_on
  none-asked n h e = rw (lt-ltb 2 p.kind h) (λ i. record { verdict = e i; unchanged = 0 })

  pub asked-found :
      (r : HostAsked) (a : Asked) (page : Page) → p.kind ≤ 2 → page ≡ page_in p → hears r ≡ in_reply (replies a) →
      replies a ≡ unchanged_of (state_of page text history) → hears r ≡ asked_on p text history
  unfolding asked_on
  asked-found r a page h q w f =
      w ∙ ap in_reply f ∙ rw (le-ltb 2 p.kind h, q)

-- and keeping
module _ (p : HostPage) (text history arrived out : List ℕ) where
  pub none_kept :
      (n : Numbers) → 2 < p.kind → verdict_in n ≡ unsound arrived text history →
      left n out ≡ kept_on p text history arrived out
  unfolding kept_on
  none_kept n h e = rw (lt-ltb 2 p.kind h) (λ i. record { verdict = e i; out = out })

  pub kept-found :
      (n : Numbers) (a : Answer) (page : Page) (out' : List ℕ) → p.kind ≤ 2 → page ≡ page_in p →
      verdict_in n ≡ in_numbers a → output.leaves a out' ≡ keep_of (state_of page text history) arrived out →
      left n out' ≡ kept_on p text history arrived out
  unfolding kept_on
  kept-found n a page out' h q w f = handed-on n a w f ∙ rw (le-ltb 2 p.kind h, q)
