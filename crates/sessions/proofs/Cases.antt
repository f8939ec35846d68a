-- What a session and its books come to by what an action answers, computed. Assumes nothing.
use Prim.Native.Nat.{ℕ}
use mathlib.Core.Path.{◌≡◌, refl}
use mathlib.Core.Bool.{true, false}
use mathlib.Core.List.{List, [], ◌∷◌, ◌++◌}
use Rattle.answer.specs.Answer.{numbered}
use Rattle.answer.specs.Cases.{leaving}
use Rattle.editor.specs.Ledger.{Ledger, undo, accepted_call}
use Rattle.ledger.specs.Words.{in_words}
use Rattle.ledger.specs.Page.{State, Outcome}
use Rattle.ledger.specs.Calls.{outcome_of}
use Rattle.page_file.specs.Calls.{keep_of, read_of}
use Rattle.sessions.specs.Books.{call, keep, restore, Books, told}
use Rattle.sessions.specs.Sessions.{Session, on_call, on_keep, on_read, act}

abbrev answering : ℕ → ℕ → State → List ℕ → Outcome
answering number place s out = record { verdict = numbered number place; state = s; output = out }

abbrev books : Ledger → List Ledger → Books
books l kept = record { ledger = l; kept = kept }

module _ (r : Session) (s : State) where
  pub record Kept : Type 0 where
    -- the first count bytes of the output are the file, put after the others
    pub kept :
        (on_keep r (leaving 0 2 (7 ∷ 8 ∷ 9 ∷ []))).session
        ≡ record { state = r.state; arrived = r.arrived; files = r.files ++ (7 ∷ 8 ∷ []) ∷ [] }
    pub not-kept : (on_keep r (leaving 9 4 (7 ∷ 8 ∷ 9 ∷ []))).session ≡ r
    -- reading gives the page, and the first count bytes as those that arrived
    pub read :
        (on_read r (answering 0 2 s (7 ∷ 8 ∷ 0 ∷ []))).session
        ≡ record { state = s; arrived = 7 ∷ 8 ∷ []; files = r.files }
    -- a refused reading leaves what is in hand
    pub not-read : (on_read r (answering 18 2 s (7 ∷ 8 ∷ 0 ∷ []))).session ≡ r
    pub called :
        (on_call r (answering 0 2 s [])).session ≡ record { state = s; arrived = r.arrived; files = r.files }

  pub sessions : Kept
  sessions = record { kept = refl; not-kept = refl; read = refl; not-read = refl; called = refl }

-- the actions: keeping is lent the bytes in hand, reading the file that is named
module _ (s : State) (bytes one other : List ℕ) where
  abbrev holding : Session
  holding = record { state = s; arrived = bytes; files = one ∷ other ∷ [] }

  pub record Acts : Type 0 where
    pub keeps : (out : List ℕ) → act holding (keep out) ≡ on_keep holding (keep_of s bytes out)
    pub reads :
        (arrived text history : List ℕ) →
        act holding (restore 1 arrived text history) ≡ on_read holding (read_of arrived text history other)
    pub calls : act holding (call undo) ≡ on_call holding (outcome_of s undo)

  pub acts : Acts
  acts = record { keeps = λ _. refl; reads = λ _ _ _. refl; calls = refl }

module _ (now first second : Ledger) where
  pub record Told : Type 0 where
    pub kept : told (books now (first ∷ [])) (keep []) true ≡ books now (first ∷ now ∷ [])
    pub not-kept : told (books now (first ∷ [])) (keep []) false ≡ books now (first ∷ [])
    -- "the ledger goes on as it was at that keeping", of several the one that is read, and all may be read again
    pub read : told (books now (first ∷ second ∷ [])) (restore 1 [] [] []) true ≡ books second (first ∷ second ∷ [])
    pub not-read : told (books now (first ∷ second ∷ [])) (restore 1 [] [] []) false ≡ books now (first ∷ second ∷ [])
    pub called : told (books now (first ∷ [])) (call undo) true ≡ books (accepted_call in_words now undo) (first ∷ [])

  pub tells : Told
  unfolding told
  tells = record { kept = refl; not-kept = refl; read = refl; not-read = refl; called = refl }
