-- Demands 2 and 3 across page files. Assumes nothing.
use Prim.Native.Nat.{ℕ}
use mathlib.Core.Path.{◌≡◌, refl, ap, subst₂}
use mathlib.Core.Bool.{true}
use mathlib.Core.List.{List, map}
use Rattle.codec.proofs.Bounds.{cells-read}
use Rattle.codec.specs.declared.Kind.{Kind}
use Rattle.editor.specs.Ledger.{opened}
use Rattle.editor.specs.Layout.{taken}
use Rattle.editor.proofs.Promises.{promised}
use Rattle.ledger.specs.Page.{State}
use Rattle.ledger.specs.Calls.{open_of}
use Rattle.ledger.specs.Demand as calls
use Rattle.ledger.specs.Demand.{Promised}
use Rattle.ledger.proofs.Lying.{page-lays}
use Rattle.ledger.proofs.Opens.{begun}
use Rattle.sessions.specs.Books.{call, Books, opening}
use Rattle.sessions.specs.Sessions.{Session, begins}
use Rattle.sessions.specs.Demand.{GoesOn, Demand3}
use Rattle.sessions.proofs.Restores.{keep-accepted, restore-accepted}
use Rattle.sessions.proofs.Sessions.{Holds, Together, together, calls_alone}

-- an accepted open begins a session with its books
pub begins-together :
    (kind : Kind) (bytes text history : List ℕ) → taken (open_of kind bytes text history) ≡ true →
    Together bytes (begins (open_of kind bytes text history).state bytes) (opening (opened kind bytes))
begins-together kind bytes text history ok =
    let first : Holds bytes _ _ =
    record {
      kept = begun kind bytes text history ok;
      words = record { reading = cells-read kind bytes; standing = tt; undone = tt };
    } in
    record { now = first; same_bytes = refl; shelf = tt }

pub goes_on : {bytes : List ℕ} {r : Session} {b : Books} → Together bytes r b → GoesOn bytes r b.ledger
goes_on t =
    record {
      promised = promised page-lays t.now.kept;
      same_bytes = t.same_bytes;
      keeps = keep-accepted t.now.kept;
      restores = λ arrived text history room. restore-accepted t.now.kept arrived text history t.now.words room;
    }

pub demand3 : Demand3
demand3 kind bytes text history ok actions =
    goes_on (together bytes (begins-together kind bytes text history ok) actions)

-- it holds the claim over calls alone
pub of_calls : calls.Demand3
of_calls kind bytes text history ok list =
    let s : State = (open_of kind bytes text history).state in
    let alone = calls_alone s bytes (opened kind bytes) list in
    subst₂ (Promised bytes) (ap (λ (r : Session). r.state) alone.0) (ap (λ (b : Books). b.ledger) alone.1)
    (demand3 kind bytes text history ok (map call list)).promised
