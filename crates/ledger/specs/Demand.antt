-- Demand 3 of the page: "a single claim about the whole list of calls" after an accepted open. And "A refusal changes
-- no page and no buffer", of every call on every state.
use Rattle.std.specs.Prelude.{ℕ, ◌≡◌, true, false, List, []}
use Rattle.codec.specs.declared.Kind.{Kind}
use Rattle.editor.specs.Ledger.{Ledger, Call, opened}
use Rattle.editor.specs.Layout.{taken}
use Rattle.editor.specs.Demand as editor
use Rattle.editor.specs.Demand.{Unchanged}
use Rattle.ledger.specs.Page.{State, state_of, sound}
use Rattle.ledger.specs.Layout.{page}
use Rattle.ledger.specs.Calls.{no_page, open_of, squeeze_of}
use Rattle.ledger.specs.Running.{after, heard}

-- what holds of a page with its buffers, and of the ledger that heard the calls that led to it (editor, Demand): the
-- records agree with the ledger step for step, the text and the mark are the ledger's, undo, redo, save and the question
-- answer by the ledger, and undo leads back to the arrived bytes
abbrev pub Promised : List ℕ → State → Ledger → Type 0
Promised arrived s l = editor.Promised page arrived s l

-- for every kind, arrived bytes, buffers and list of calls
abbrev pub Demand3 : Type 0
Demand3 =
    (kind : Kind) (arrived text history : List ℕ) → taken (open_of kind arrived text history) ≡ true →
    (calls : List Call) →
    Promised arrived (after (open_of kind arrived text history).state calls)
    (heard (opened kind arrived) (open_of kind arrived text history).state calls)

abbrev pub RefusedSame : Type 0
RefusedSame = editor.RefusedSame page

-- order 8: a sound page, made by hand or not, is sound after a squeeze
abbrev pub SqueezeSound : Type 0
SqueezeSound = (s : State) (k : ℕ) (work : List ℕ) → sound s ≡ true → sound (squeeze_of s k work).state ≡ true

-- "a refused open gives the kind with four zeros"
abbrev pub OpenRefused : Type 0
OpenRefused =
    (kind : Kind) (arrived text history : List ℕ) → taken (open_of kind arrived text history) ≡ false →
    Unchanged (state_of (no_page kind) text history) [] (open_of kind arrived text history)
