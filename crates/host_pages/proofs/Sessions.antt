-- Demand 3 through C, across page files: a host's actions leave what the session's actions leave, with the kind and the
-- mark as numbers. Assumes nothing.
use Prim.Native.Nat.{ℕ}
use mathlib.Core.Path.{◌≡◌, refl, sym, ap, ◌∙◌, subst₂}
use mathlib.Core.Bool.{Bool, true, false, cond}
use mathlib.Core.List.{List, [], ◌∷◌}
use lib.ListN.{take, get_or}
use Rattle.answer.specs.Output as output
use Rattle.editor.specs.Layout.{taken}
use Rattle.ledger.specs.Page.{Outcome}
use Rattle.page_file.specs.Calls.{read_of}
use Rattle.sessions.specs.Books.{Action, call, keep, restore, Books, told}
use Rattle.sessions.specs.Sessions.{Session, Done, on_read, act, after, heard}
use Rattle.sessions.proofs.Sessions.{Together, together}
use Rattle.sessions.proofs.Demand.{begins-together, goes_on}
use Rattle.host_pages.specs.Pages.{HostOutcome, hosted}
use Rattle.host_pages.specs.Sessions.{HostSession, host_session, HostDone, host_called, host_kept, host_restored}
use Rattle.host_pages.specs.Sessions.{host_act, host_acted, host_told, HostGoesOn, HostSessions}
use Rattle.host_pages.proofs.Runs.{mark-lies, kept-own, host-call, host-here}

abbrev host_done : Done → HostDone
host_done d = record { accepted = d.accepted; session = host_session d.session }

either : (ok : Bool) (r q : Session) → cond ok (host_session r) (host_session q) ≡ host_session (cond ok r q)
either true r q = refl
either false r q = refl

host-restored : (r : Session) (o : Outcome) → host_restored (host_session r) (hosted o) ≡ host_done (on_read r o)
host-restored r o =
    let read : Session =
    record { state = o.state; arrived = take o.verdict.place o.output; files = r.files } in
    λ i. record { accepted = taken o; session = either (taken o) read r i }

module _ {bytes : List ℕ} where
  host-act :
      {r : Session} {b : Books} → Together bytes r b → (a : Action) →
      host_act (host_session r) a ≡ host_done (act r a)
  host-act {r} t (call c) =
      ap (λ (o : HostOutcome). host_called (host_session r) o)
      (host-call r.state (mark-lies t.now.kept.lies) c)
  host-act {r} t (keep out) =
      ap (λ (o : output.Outcome). host_kept (host_session r) o)
      (kept-own r.state (mark-lies t.now.kept.lies) r.arrived out)
  host-act {r} t (restore n arrived text history) =
      host-restored r (read_of arrived text history (get_or r.files n []))

  host-acted :
      {r : Session} {b : Books} → Together bytes r b → (actions : List Action) →
      host_acted (host_session r) actions ≡ host_session (after r actions)
  host-acted t [] = refl
  host-acted {r = r} {b = b} t (a ∷ actions) =
      ap (λ (d : HostDone). host_acted d.session actions) (host-act t a)
      ∙ host-acted {r = after r (a ∷ [])} (together bytes t (a ∷ [])) actions

  host-told :
      {r : Session} {b : Books} → Together bytes r b → (actions : List Action) →
      host_told b (host_session r) actions ≡ heard b r actions
  host-told t [] = refl
  host-told {r = r} {b = b} t (a ∷ actions) =
      ap (λ (d : HostDone). host_told (told b a d.accepted) d.session actions) (host-act t a)
      ∙ host-told {r = after r (a ∷ [])} (together bytes t (a ∷ [])) actions

  host-on : {r : Session} {b : Books} → Together bytes r b → HostGoesOn bytes (host_session r) b.ledger
  host-on {r} t =
      let g = goes_on t in
      record {
        session = r;
        in-hand = refl;
        goes_on = g;
        promised = host-here t.now.kept;
        keeps = λ out. kept-own r.state (mark-lies t.now.kept.lies) bytes out ∙ g.keeps out;
      }

pub host-sessions : HostSessions
host-sessions kind bytes text history ok actions =
    let t = begins-together kind bytes text history ok in
    subst₂ (HostGoesOn bytes) (sym (host-acted t actions))
    (ap (λ (b : Books). b.ledger) (sym (host-told t actions)))
    (host-on (together bytes t actions))
