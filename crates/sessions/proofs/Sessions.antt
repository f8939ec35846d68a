-- Across keepings and readings of what was kept, the session's page is the one that the books' ledger determines.
-- Assumes nothing.
use Prim.Native.Nat.{ℕ, zero, suc}
use mathlib.Core.Path.{◌≡◌, refl, sym, subst}
use mathlib.Core.Bool.{Bool, true, false, cond, ◌||◌, false≢true}
use mathlib.Core.List.{List, [], ◌∷◌, ◌++◌}
use lib.ListN.{length, take, drop, get_or}
use lib.Seq.{take-append_seam}
use Rattle.answer.specs.Output as output
use Rattle.answer.specs.Output.{filled}
use Rattle.answer.proofs.Below.{cond-case}
use Rattle.editor.specs.Ledger.{Ledger, Call, fed}
use Rattle.editor.specs.Layout.{taken}
use Rattle.editor.proofs.Ends.{Fills, leaves, fills, deliver-fills}
use Rattle.editor.proofs.Promises.{Kept, kept-call}
use Rattle.ledger.specs.Words.{in_words}
use Rattle.ledger.specs.Page.{State, Outcome}
use Rattle.ledger.specs.Layout.{page}
use Rattle.ledger.specs.Calls.{over, outcome_of}
use Rattle.ledger.proofs.Lying.{page-lays}
use Rattle.parsing.specs.Parsing.{literal}
use Rattle.page_file.specs.Reading.{parse}
use Rattle.page_file.specs.Calls.{keep_of, read_parsed, read_of}
use Rattle.sessions.specs.Books.{Action, call, keep, restore, Books, told}
use Rattle.sessions.specs.Sessions.{Session, Done, on_call, on_keep, on_read, act, after, heard}
use Rattle.sessions.specs.Demand.{file_for, CallsAlone}
use Rattle.sessions.proofs.Cells.{Words, fed-words}
use Rattle.sessions.proofs.Restores.{keep-accepted, restore-kept}

module _ (bytes : List ℕ) where
  -- a page and its ledger, of 32-bit numbers
  pub record Holds (s : State) (l : Ledger) : Type 0 where
    pub kept : Kept page-lays bytes s l
    pub words : Words l

  -- a file, and the ledger at the keeping that gave it
  pub record Shelved (file : List ℕ) (l : Ledger) : Type 0 where
    pub state : State
    pub holds : Holds state l
    pub is : file ≡ file_for state bytes

  abbrev pub Shelf : List (List ℕ) → List Ledger → Type 0
  Shelf [] [] = Unit
  Shelf [] (l ∷ ls) = ⊥
  Shelf (f ∷ fs) [] = ⊥
  Shelf (f ∷ fs) (l ∷ ls) = Shelved f l × Shelf fs ls

  shelf-more :
      (fs : List (List ℕ)) (ls : List Ledger) (f : List ℕ) (l : Ledger) → Shelf fs ls → Shelved f l →
      Shelf (fs ++ f ∷ []) (ls ++ l ∷ [])
  shelf-more [] [] f l s k = (k, tt)
  shelf-more [] (m ∷ ls) f l s k = absurd s
  shelf-more (g ∷ fs) [] f l s k = absurd s
  shelf-more (g ∷ fs) (m ∷ ls) f l s k = (s.0, shelf-more fs ls f l s.1 k)

  -- the n-th file with the n-th ledger; or the empty file, where there is none
  shelf-at :
      (P : List ℕ → Ledger → Type 0) (d : Ledger) → P [] d → ((f : List ℕ) (l : Ledger) → Shelved f l → P f l) →
      (fs : List (List ℕ)) (ls : List Ledger) (n : ℕ) → Shelf fs ls →
      P (get_or fs n []) (get_or ls n d)
  shelf-at P d e f [] [] n s = e
  shelf-at P d e f [] (l ∷ ls) n s = absurd s
  shelf-at P d e f (g ∷ fs) [] n s = absurd s
  shelf-at P d e f (g ∷ fs) (l ∷ ls) zero s = f g l s.0
  shelf-at P d e f (g ∷ fs) (l ∷ ls) (suc n) s = shelf-at P d e f fs ls n s.1

  -- a session and its books that belong together
  pub record Together (r : Session) (b : Books) : Type 0 where
    pub now : Holds r.state b.ledger
    pub same_bytes : r.arrived ≡ bytes
    pub shelf : Shelf r.files b.kept

  module _ {r : Session} {b : Books} (t : Together r b) where
    abbrev After : Action → Done → Type 0
    After a d = Together d.session (told b a d.accepted)

    after_call : (c : Call) → After (call c) (on_call r (outcome_of r.state c))
    unfolding told
    after_call c =
        record {
          now =
              record {
                kept = kept-call page-lays t.now.kept c;
                words = fed-words page r.state b.ledger t.now.words c;
              };
          same_bytes = t.same_bytes;
          shelf = t.shelf;
        }

    after-keep :
        (out : List ℕ) {o : output.Outcome} → Fills out (file_for r.state bytes) o → After (keep out) (on_keep r o)
    unfolding told
    after-keep out (leaves v n) = rw n (record { now = t.now; same_bytes = t.same_bytes; shelf = t.shelf })
    after-keep out fills =
        let file : List ℕ = file_for r.state bytes in
        record {
          now = t.now;
          same_bytes = t.same_bytes;
          shelf =
              shelf-more r.files b.kept (take (length file) (filled file out)) b.ledger t.shelf
              (record { state = r.state; holds = t.now; is = take-append_seam file (drop (length file) out) });
        }

    module _ (n : ℕ) (arrived text history : List ℕ) where
      abbrev read : List ℕ → Outcome
      read file = read_of arrived text history file

      -- an accepted reading gives a page of the ledger, and the bytes
      abbrev Gives : Outcome → Ledger → Type 0
      Gives o l = taken o ≡ true → Holds o.state l × (take o.verdict.place o.output ≡ bytes)

      shelved-gives : (file : List ℕ) (l : Ledger) → Shelved file l → Gives (read file) l
      shelved-gives file l k =
          subst (λ (file : List ℕ). Gives (read file) l) (sym k.is)
          (λ ok.
          let q = restore-kept k.holds.kept arrived text history k.holds.words ok in
          (record { kept = q.0; words = k.holds.words }, q.1))

      none-gives : (l : Ledger) → Gives (read []) l
      unfolding read_of read_parsed parse literal
      none-gives l =
          cond-case (λ (o : Outcome). Gives o l) (over arrived || (over text || over history))
          (λ _ ok. absurd (false≢true ok)) (λ _ ok. absurd (false≢true ok))

      either_way :
          (o : Outcome) (l : Ledger) (ok : Bool) →
          (ok ≡ true → Holds o.state l × (take o.verdict.place o.output ≡ bytes)) →
          Together
          (cond ok (record { state = o.state; arrived = take o.verdict.place o.output; files = r.files }) r)
          (record { ledger = cond ok l b.ledger; kept = b.kept })
      either_way o l true f = record { now = (f refl).0; same_bytes = (f refl).1; shelf = t.shelf }
      either_way o l false f = record { now = t.now; same_bytes = t.same_bytes; shelf = t.shelf }

      after_read : After (restore n arrived text history) (on_read r (read (get_or r.files n [])))
      unfolding told
      after_read =
          let o : Outcome = read (get_or r.files n []) in
          either_way o (get_or b.kept n b.ledger) (taken o)
          (shelf-at (λ file l. Gives (read file) l) b.ledger (none-gives b.ledger) shelved-gives r.files
          b.kept n t.shelf)

    next : (a : Action) → After a (act r a)
    next (call c) = after_call c
    next (keep out) =
        subst (λ (arrived : List ℕ). After (keep out) (on_keep r (keep_of r.state arrived out))) (sym t.same_bytes)
        (rw (keep-accepted t.now.kept out) (after-keep out (deliver-fills out (file_for r.state bytes))))
    next (restore n arrived text history) = after_read n arrived text history

  pub together :
      {r :
      Session} {b : Books} → Together r b → (actions : List Action) → Together (after r actions) (heard b r actions)
  together t [] = t
  together {r = r} {b = b} t (a ∷ actions) = together {r = (act r a).session} (next t a) actions

pub calls_alone : CallsAlone
unfolding told
calls_alone s bytes l [] = (refl, refl)
calls_alone s bytes l (c ∷ list) =
    calls_alone (outcome_of s c).state bytes (fed in_words l c (taken (outcome_of s c))) list
