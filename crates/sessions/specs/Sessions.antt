-- Document 02, order 6: a list of actions on a page, each by the definition of its call, and what the books are told.
use Rattle.std.specs.Prelude.{ℕ, Bool, cond, List, [], ◌∷◌, ◌++◌, take, get_or, eqb}
use Rattle.answer.specs.Output as output
use Rattle.editor.specs.Layout.{taken}
use Rattle.ledger.specs.Page.{State, Outcome}
use Rattle.ledger.specs.Calls.{outcome_of}
use Rattle.page_file.specs.Calls.{keep_of, read_of}
use Rattle.sessions.specs.Books.{Action, call, keep, restore, Books, told}

-- the page in hand with its buffers, the arrived bytes in hand, and the files of the accepted keepings, in order
pub record Session : Type 0 where
  pub state : State
  pub arrived : List ℕ
  pub files : List (List ℕ)

abbrev pub begins : State → List ℕ → Session
begins s arrived = record { state = s; arrived = arrived; files = [] }

-- what an action comes to: whether it was accepted, and the session after it
pub record Done : Type 0 where
  pub accepted : Bool
  pub session : Session

abbrev pub on_call : Session → Outcome → Done
on_call r o =
    record { accepted = taken o; session = record { state = o.state; arrived = r.arrived; files = r.files } }

-- a file that is kept is put with the others
abbrev pub on_keep : Session → output.Outcome → Done
on_keep r o =
    let ok : Bool = eqb o.verdict.number 0 in
    let files : List (List ℕ) = r.files ++ take o.verdict.place o.out ∷ [] in
    record {
      accepted = ok;
      session = record { state = r.state; arrived = r.arrived; files = cond ok files r.files };
    }

-- an accepted reading gives page and arrived bytes in hand; a refused one leaves those that were
abbrev pub on_read : Session → Outcome → Done
on_read r o =
    record {
      accepted = taken o;
      session =
          cond (taken o)
          (record { state = o.state; arrived = take o.verdict.place o.output; files = r.files }) r;
    }

-- "keeping is lent the very bytes the page was opened on": those in hand, which Demand says are the same
abbrev pub act : Session → Action → Done
act r (call c) = on_call r (outcome_of r.state c)
act r (keep out) = on_keep r (keep_of r.state r.arrived out)
act r (restore n arrived text history) = on_read r (read_of arrived text history (get_or r.files n []))

-- the session after the actions, and the books
abbrev pub after : Session → List Action → Session
after r [] = r
after r (a ∷ actions) = after (act r a).session actions

abbrev pub heard : Books → Session → List Action → Books
heard b r [] = b
heard b r (a ∷ actions) = heard (told b a (act r a).accepted) (act r a).session actions
