-- Undo and redo of a bench, one thing in two directions: back and forward.
use Rattle.std.specs.Prelude.{ℕ, ◌+◌, ◌-◌, ◌≤◌, ◌<◌, Bool, true, false, cond, List, length, get_or, take, drop, eqb, leb}
use Rattle.answer.specs.Answer.{numbered}
use Rattle.splice.specs.Splice.{spliced, Filled}
use Rattle.page.specs.declared.Change.{Change}
use Rattle.page.specs.Steps.{change_in}
use Rattle.benches.specs.declared.Bench.{Bench}
use Rattle.benches.specs.Benches.{State, Outcome}
use Rattle.benches.specs.Calls.{undo_of, redo_of}
use Rattle.bench_records.specs.declared.Pass.{Pass}
use Rattle.bench_calls.specs.Leaving.{Left, edited_to, refused_with}

abbrev pub stepped_of : Bool → State → ℕ → Outcome
stepped_of false t n = undo_of t n
stepped_of true t n = redo_of t n

-- a text with a change of the history's words made in it
abbrev pub changed : Change → List ℕ → List ℕ → List ℕ
changed q history text =
    spliced q.place q.count (take (q.to - q.from) (drop q.from history)) text

-- the change lies in the history, and the text has room for it
pub record Fits (b : Bench) (q : Change) (text history : List ℕ) : Type 0 where
  pub place : q.place + q.count ≤ b.length
  pub part : q.from ≤ q.to
  pub whole : q.to ≤ length history
  pub room : b.length - q.count + (q.to - q.from) ≤ length text
  pub filled : Filled b.length text

-- a page's record at a word can be moved over
pub record Ready (forward : Bool) (b : Bench) (at : ℕ) (text history : List ℕ) : Type 0 where
  pub words : at + (3 + get_or history (at + 1) 0 + get_or history (at + 2) 0) ≤ length history
  pub fits : Fits b (change_in forward history at) text history

abbrev pub moved_on : Bool → Bench → ℕ → ℕ → ℕ → List ℕ → List ℕ → Left
moved_on forward b used at standing text history =
    edited_to b (length text) (changed (change_in forward history at) history (take b.length text)) used standing
    b.saved history

-- the step to be moved over, if there is one: the last that stands, or the first undone one
abbrev pub Steppable : Bool → Bench → Pass → List ℕ → List ℕ → Type 0
Steppable false b p text history = 0 < b.standing → Ready false b (p.last + 1) text history
Steppable true b p text history = b.standing < p.seen → Ready true b (p.next + 1) text history

unfoldable pub stepped_on : Bool → Bench → ℕ → Pass → List ℕ → List ℕ → Left
stepped_on false b used p text history =
    cond (eqb b.standing 0) (refused_with (numbered 13 0) b used text history)
    (moved_on false b used (p.last + 1) (b.standing - 1) text history)
stepped_on true b used p text history =
    cond (leb p.seen b.standing) (refused_with (numbered 13 0) b used text history)
    (moved_on true b used (p.next + 1) (b.standing + 1) text history)
