-- The page as it crosses to C: its kind is a number, 0 UTF-7 header, 1 UTF-7 body, 2 JP-2; its saved mark is a number
-- of words, and the greatest size is none.
use Rattle.std.specs.Prelude.{ℕ, cond, ◌||◌, List, [], ltb, eqb, None, Some}
use Rattle.answer.specs.Answer.{Verdict, numbered, too_long}
use Rattle.answer.specs.Output as output
use Rattle.codec.specs.declared.Kind.{Kind}
unfoldable pub use Rattle.codec.specs.Numbers.{kind_number}
use Rattle.codec.specs.declared.Kind.TheVariants.{Utf7Header, Utf7Body, Jp2}
use Rattle.editor.specs.Marks.{Mark}
use Rattle.ledger.specs.Page.{State, state_of, Outcome}
use Rattle.ledger.specs.Calls.{over, Reply, unchanged_of}
use Rattle.ledger.specs.declared.Page.{Page}
use Rattle.page_file.specs.Calls.{keep_of}
use Rattle.host_numbers.specs.Numbers.{verdict_in}
use Rattle.host_pages.specs.declared.HostPage.{HostPage}
use Rattle.host_pages.specs.declared.HostEdited.{HostEdited}
use Rattle.host_pages.specs.declared.HostAsked.{HostAsked}

unfoldable pub kind_of : ℕ → Kind
kind_of n = cond (eqb n 0) Utf7Header (cond (eqb n 1) Utf7Body Jp2)

-- C's SIZE_MAX, the number of no mark; every other number is a mark
abbrev pub never : ℕ
never = 18446744073709551615

unfoldable pub mark_in : ℕ → Mark
mark_in n = cond (eqb n never) None (Some n)

unfoldable pub mark_number : Mark → ℕ
mark_number None = never
mark_number (Some n) = n

abbrev pub page_in : HostPage → Page
page_in p =
    record {
      kind = kind_of p.kind;
      opening = p.opening;
      length = p.length;
      used = p.used;
      done = p.done;
      saved = mark_in p.saved;
    }

abbrev pub host_page : Page → HostPage
host_page p =
    record {
      kind = kind_number p.kind;
      opening = p.opening;
      length = p.length;
      used = p.used;
      done = p.done;
      saved = mark_number p.saved;
    }

-- what a call leaves, as a host sees it
pub record HostOutcome : Type 0 where
  pub verdict : Verdict
  pub page : HostPage
  pub text : List ℕ
  pub history : List ℕ
  pub output : List ℕ

abbrev pub hosted : Outcome → HostOutcome
hosted o =
    record {
      verdict = o.verdict;
      page = host_page o.state.page;
      text = o.state.text;
      history = o.state.history;
      output = o.output;
    }

-- a page whose kind's number is no kind is not sound: 14, but "16 comes first"; `list` is the list lent beside the page
abbrev pub unsound : List ℕ → List ℕ → List ℕ → Verdict
unsound list text history = cond (over list || (over text || over history)) too_long (numbered 14 0)

-- nothing is changed
abbrev pub no_kind : HostPage → List ℕ → List ℕ → List ℕ → List ℕ → HostOutcome
no_kind p text history output list =
    record { verdict = unsound list text history; page = p; text = text; history = history; output = output }

-- a call on a page that came from a host
unfoldable pub on_page : HostPage → List ℕ → List ℕ → List ℕ → List ℕ → (State → Outcome) → HostOutcome
on_page p text history output list call =
    cond (ltb 2 p.kind) (no_kind p text history output list) (hosted (call (state_of (page_in p) text history)))

-- what a host is given by save, squeeze or read, and finds in its buffers; the output is save's, or squeeze's work
-- buffer, or read's buffer for the arrived bytes
abbrev pub finds_output : HostEdited → List ℕ → List ℕ → List ℕ → HostOutcome
finds_output r text history out =
    record { verdict = verdict_in r.answer; page = r.page; text = text; history = history; output = out }

-- by the other calls
abbrev pub finds : HostEdited → List ℕ → List ℕ → HostOutcome
finds r text history = finds_output r text history []

-- what the question answers a host: 1 for unchanged, else 0
pub record HostReply : Type 0 where
  pub verdict : Verdict
  pub unchanged : ℕ

abbrev pub in_reply : Reply → HostReply
in_reply r = record { verdict = r.verdict; unchanged = cond r.unchanged 1 0 }

-- the question asked of a page that came from a host; a page of no kind is not unchanged
unfoldable pub asked_on : HostPage → List ℕ → List ℕ → HostReply
asked_on p text history =
    cond (ltb 2 p.kind) (record { verdict = unsound [] text history; unchanged = 0 })
    (in_reply (unchanged_of (state_of (page_in p) text history)))

-- what a host is given by the question
abbrev pub hears : HostAsked → HostReply
hears r = record { verdict = verdict_in r.answer; unchanged = r.unchanged }

-- keeping a page that came from a host: nothing but the output is changed
unfoldable pub kept_on : HostPage → List ℕ → List ℕ → List ℕ → List ℕ → output.Outcome
kept_on p text history arrived out =
    cond (ltb 2 p.kind) (output.refusing (unsound arrived text history) out)
    (keep_of (state_of (page_in p) text history) arrived out)
