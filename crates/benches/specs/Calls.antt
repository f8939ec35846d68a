-- Document 02, order 13: the calls of two benches, each refusal in the fixed order, and everything they leave.
use Rattle.std.specs.Prelude.{ℕ, ◌+◌, false, cond, ◌||◌, List, [], None, Option, Some}
use Rattle.answer.specs.Answer.{numbered, too_long}
use Rattle.codec.specs.declared.Kind.{Kind}
use Rattle.editor.specs.Ledger as editor
use Rattle.editor.specs.Editor.{overlong, output_of}
use Rattle.editor.specs.Layout.{refusing, taken, Reply}
use Rattle.editor.specs.Layout as layout
use Rattle.ledger.specs.Page as page
use Rattle.ledger.specs.Calls as pages
use Rattle.benches.specs.declared.Bench.{Bench}
use Rattle.benches.specs.Words.{Side, side_of, Both}
use Rattle.benches.specs.Benches.{State, Outcome}
use Rattle.benches.specs.Layout.{long, bench}

-- the calls of a bench, with their arguments: place, count and cells; arrived bytes and output. "Squeezing and page
-- files stay with single pages."
pub data Call : Type 0 where
  replace : ℕ → ℕ → List ℕ → Call
  undo : Call
  redo : Call
  save : List ℕ → List ℕ → Call

-- they are the editor's
abbrev pub call_of : Call → editor.Call
call_of (replace place count cells) = editor.replace place count cells
call_of undo = editor.undo
call_of redo = editor.redo
call_of (save arrived out) = editor.save arrived out

-- "20 (no such bench, place 0) after 16 and before 14"; a bench's own calls are those of its layout: 16, 14 and so on
unfoldable pub outcome_at : State → Option Side → editor.Call → Outcome
outcome_at t None c =
    cond (overlong c || long t) (refusing t (output_of c) too_long) (refusing t (output_of c) (numbered 20 0))
outcome_at t (Some s) c = layout.outcome_of (bench s) t c

abbrev pub outcome_of : State → ℕ → Call → Outcome
outcome_of t n c = outcome_at t (side_of n) (call_of c)

-- 16, 20, 14, 11, 10, 9, 12
abbrev pub replace_of : State → ℕ → ℕ → ℕ → List ℕ → Outcome
replace_of t n place count cells = outcome_of t n (replace place count cells)

-- 16, 20, 14, 13
abbrev pub undo_of : State → ℕ → Outcome
undo_of t n = outcome_of t n undo

abbrev pub redo_of : State → ℕ → Outcome
redo_of t n = outcome_of t n redo

-- 16, 20, 14, then 15 where no step stands or 10 where one does, then 9
abbrev pub save_of : State → ℕ → List ℕ → List ℕ → Outcome
save_of t n arrived out = outcome_of t n (save arrived out)

-- the question: 16, 20, 14; refused, it is not unchanged
unfoldable pub reply_at : State → Option Side → Reply
reply_at t None =
    cond (long t) (record { verdict = too_long; unchanged = false })
    (record { verdict = numbered 20 0; unchanged = false })
reply_at t (Some s) = layout.reply_of (bench s) t

abbrev pub unchanged_of : State → ℕ → Reply
unchanged_of t n = reply_at t (side_of n)

-- "refused, it gives the kinds, zeros and no marks"
abbrev pub no_bench : Kind → Bench
no_bench kind = record { kind = kind; opening = 0; length = 0; standing = 0; saved = None }

abbrev pub not_opened : Both Kind → Both (List ℕ) → List ℕ → State
not_opened kinds texts history =
    record {
      benches = record { bench0 = no_bench kinds.bench0; bench1 = no_bench kinds.bench1 };
      used = 0;
      texts = texts;
      history = history;
    }

-- a bench as an accepted open of a page leaves it: nothing stands, and the mark is 0
abbrev pub bench_opened : page.State → Bench
bench_opened s =
    record {
      kind = s.page.kind;
      opening = s.page.opening;
      length = s.page.length;
      standing = 0;
      saved = s.page.saved;
    }

-- "Accepted, its place is the sum of both counts"
abbrev pub opened_both : page.Outcome → page.Outcome → Outcome
opened_both o p =
    record {
      verdict = numbered 0 (o.verdict.place + p.verdict.place);
      state =
          record {
            benches = record { bench0 = bench_opened o.state; bench1 = bench_opened p.state };
            used = 0;
            texts = record { bench0 = o.state.text; bench1 = p.state.text };
            history = o.state.history;
          };
      output = [];
    }

-- "One open takes both arrived texts and refuses as two opens would, bench 0's first."
unfoldable pub open_of : Both Kind → Both (List ℕ) → Both (List ℕ) → List ℕ → Outcome
open_of kinds arrived texts history =
    let o : page.Outcome = pages.open_of kinds.bench0 arrived.bench0 texts.bench0 history in
    let p : page.Outcome = pages.open_of kinds.bench1 arrived.bench1 texts.bench1 history in
    cond (taken o)
    (cond (taken p) (opened_both o p) (refusing (not_opened kinds texts history) [] p.verdict))
    (refusing (not_opened kinds texts history) [] o.verdict)
