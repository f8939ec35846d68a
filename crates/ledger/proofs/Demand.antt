-- Demand 3 of the page, that a refusal changes nothing, and that 16 comes first: the page is a layout of the editor.
-- Assumes nothing.
use mathlib.Core.Path.{◌≡◌}
use mathlib.Core.Bool.{true, false, ◌||◌}
use Rattle.answer.specs.Answer.{too_long}
use Rattle.editor.specs.Ledger.{Call}
use Rattle.editor.specs.Editor.{over, output_of}
use Rattle.editor.specs.Layout.{refusing}
use Rattle.editor.proofs.Ends as editor
use Rattle.editor.proofs.Promises.{kept-calls, promised}
use Rattle.ledger.specs.Page.{State}
use Rattle.ledger.specs.Layout.{page}
use Rattle.ledger.specs.Calls.{outcome_of, unchanged_of}
use Rattle.ledger.specs.Demand.{Demand3, RefusedSame}
use Rattle.ledger.proofs.Lying.{page-lays}
use Rattle.ledger.proofs.Opens.{begun}

pub demand3 : Demand3
demand3 kind arrived text history ok calls =
    promised page-lays (kept-calls page-lays (begun kind arrived text history ok) calls)

pub refused-same : RefusedSame
refused-same = editor.refused-same page

pub buffers-long :
    (s : State) (c : Call) → (over s.text || over s.history) ≡ true →
    outcome_of s c ≡ refusing s (output_of c) too_long
buffers-long s c long = editor.buffer-long page s c long

pub asked-long :
    (s : State) → (over s.text || over s.history) ≡ true →
    unchanged_of s ≡ record { verdict = too_long; unchanged = false }
asked-long s long = editor.asked-long page s long
