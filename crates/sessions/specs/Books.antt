-- Document 02, order 6: the ledger across keepings of a page and readings of its files. It takes nothing from the page,
-- its buffers or its files.
use Rattle.std.specs.Prelude.{ℕ, Bool, cond, List, [], ◌∷◌, ◌++◌, get_or}
use Rattle.editor.specs.Ledger.{Ledger, Call, fed}
use Rattle.ledger.specs.Words.{in_words}

-- a call on the page; keeping it, into an output; reading the file of an earlier accepted keeping, by its number from 0
-- on, into buffers for the arrived bytes, the text and the history
pub data Action : Type 0 where
  call : Call → Action
  keep : List ℕ → Action
  restore : ℕ → List ℕ → List ℕ → List ℕ → Action

-- the ledger, and the ledgers as they were at the accepted keepings, in order
pub record Books : Type 0 where
  pub ledger : Ledger
  pub kept : List Ledger

abbrev pub opening : Ledger → Books
opening l = record { ledger = l; kept = [] }

-- each action with whether it was accepted: a call is the ledger's; "the ledger goes on as it was at that keeping"
unfoldable pub told : Books → Action → Bool → Books
told b (call c) taken = record { ledger = fed in_words b.ledger c taken; kept = b.kept }
told b (keep out) taken = record { ledger = b.ledger; kept = cond taken (b.kept ++ b.ledger ∷ []) b.kept }
told b (restore n arrived text history) taken =
    record { ledger = cond taken (get_or b.kept n b.ledger) b.ledger; kept = b.kept }
