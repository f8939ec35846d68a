-- Demand 3 through C: a host's list of calls after an accepted open.
use Rattle.std.specs.Prelude.{ℕ, ◌≡◌, Bool, true, false, cond, List, [], ◌∷◌, eqb}
use Rattle.answer.specs.Answer.{Verdict, numbered}
use Rattle.codec.specs.declared.Kind.{Kind}
use Rattle.codec.specs.declared.Kind.TheVariants.{Utf7Header}
use Rattle.editor.specs.Editor.{output_of}
use Rattle.ledger.specs.Page.{State}
use Rattle.ledger.specs.Calls.{open_of, replace_of, undo_of, redo_of, save_of, squeeze_of}
use Rattle.ledger.specs.Words.{in_words}
use Rattle.ledger.specs.Ledger.{Ledger, Call, replace, undo, redo, save, squeeze, opened, fed, unchanged_by}
use Rattle.ledger.specs.Demand.{Promised}
use Rattle.page_file.specs.Calls.{read_of}
use Rattle.host_pages.specs.Pages.{kind_number, never, mark_in, host_page, HostOutcome, hosted, on_page, asked_on}
use Rattle.host_pages.specs.declared.HostPage.{HostPage}

-- the page that a host has in hand, and its buffers
pub record HostState : Type 0 where
  pub page : HostPage
  pub text : List ℕ
  pub history : List ℕ

abbrev pub host_state : State → HostState
host_state s = record { page = host_page s.page; text = s.text; history = s.history }

abbrev pub left_by : HostOutcome → HostState
left_by o = record { page = o.page; text = o.text; history = o.history }

-- "0, accepted"
abbrev pub host_taken : HostOutcome → Bool
host_taken o = eqb o.verdict.number 0

-- the calls, as the promises of the functions for hosts say them
abbrev pub host_outcome : HostState → Call → HostOutcome
host_outcome h (replace place count cells) =
    on_page h.page h.text h.history [] cells (λ s. replace_of s place count cells)
host_outcome h undo = on_page h.page h.text h.history [] [] undo_of
host_outcome h redo = on_page h.page h.text h.history [] [] redo_of
host_outcome h (save arrived out) = on_page h.page h.text h.history out arrived (λ s. save_of s arrived out)
host_outcome h (squeeze k work) = on_page h.page h.text h.history work [] (λ s. squeeze_of s k work)

-- each call is given the page and the buffers as the last one left them
abbrev pub host_after : HostState → List Call → HostState
host_after h [] = h
host_after h (c ∷ cs) = host_after (left_by (host_outcome h c)) cs

-- the ledger hears each call and whether the host was told 0
abbrev pub host_heard : Ledger → HostState → List Call → Ledger
host_heard l h [] = l
host_heard l h (c ∷ cs) = host_heard (fed in_words l c (host_taken (host_outcome h c))) (left_by (host_outcome h c)) cs

-- what a host has in hand is a page with its buffers of which demand 3 holds, by the ledger that heard its calls
pub record HostPromised (arrived : List ℕ) (h : HostState) (l : Ledger) : Type 0 where
  pub state : State
  pub in-hand : h ≡ host_state state
  pub promised : Promised arrived state l
  -- "the page's mark equals the one that the same ledger now keeps by these rules"
  pub mark : mark_in h.page.saved ≡ l.saved
  -- the question, asked of what is in hand, answers by the ledger
  pub asks :
      asked_on h.page h.text h.history
      ≡ record { verdict = numbered 0 0; unchanged = cond (unchanged_by in_words l) 1 0 }

abbrev pub HostDemand3 : Type 0
HostDemand3 =
    (kind : Kind) (arrived text history : List ℕ) → host_taken (hosted (open_of kind arrived text history)) ≡ true →
    (calls : List Call) →
    HostPromised arrived (host_after (left_by (hosted (open_of kind arrived text history))) calls)
    (host_heard (opened kind arrived) (left_by (hosted (open_of kind arrived text history))) calls)

-- "A refusal changes no page and no buffer": every call on every page that a host has in hand, of no kind too
abbrev pub host_refusing : HostState → List ℕ → Verdict → HostOutcome
host_refusing h out verdict =
    record { verdict = verdict; page = h.page; text = h.text; history = h.history; output = out }

abbrev pub HostRefusedSame : Type 0
HostRefusedSame =
    (h : HostState) (c : Call) → host_taken (host_outcome h c) ≡ false →
    host_outcome h c ≡ host_refusing h (output_of c) (host_outcome h c).verdict

-- "a refused open gives the kind with four zeros", and no mark
abbrev pub host_no_page : Kind → HostPage
host_no_page kind = record { kind = kind_number kind; opening = 0; length = 0; used = 0; done = 0; saved = never }

abbrev pub HostOpenRefused : Type 0
HostOpenRefused =
    (kind : Kind) (arrived text history : List ℕ) → host_taken (hosted (open_of kind arrived text history)) ≡ false →
    hosted (open_of kind arrived text history)
    ≡ host_refusing (record { page = host_no_page kind; text = text; history = history }) []
    (open_of kind arrived text history).verdict

-- "Refused, the page is utf7h, zeros, none."
abbrev pub HostReadRefused : Type 0
HostReadRefused =
    (arrived text history file : List ℕ) → host_taken (hosted (read_of arrived text history file)) ≡ false →
    hosted (read_of arrived text history file)
    ≡ host_refusing (record { page = host_no_page Utf7Header; text = text; history = history }) arrived
    (read_of arrived text history file).verdict
