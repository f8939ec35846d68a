-- The code's phases, states and moves are those of the definitions. Assumes nothing.
use Prim.Native.Nat.{ℕ, ◌<◌}
use mathlib.Core.Path.{◌≡◌, refl}
use mathlib.Core.Bool.{Bool, true, false, cond, ◌&&◌, and-false}
use mathlib.Core.List.{List, [], ◌∷◌}
use native.Mathlib.Omega.{arith}
use lib.ListN.{length, get_or}
use lib.Dec.{eqb}
use borrow.Author.Tests.{ne_eqb}
use Rattle.reading.specs.Reading.{Does}
use Rattle.reading.specs.declared.Move.{Move}
use Rattle.reading.proofs.Decoding.{Faithful, move-found}
use Rattle.jp2.specs.Table.{begins, is_list}
use Rattle.jp2.specs.Rule as rule
use Rattle.jp2.specs.Rule.{plain, return, first, shifted, escape}
use Rattle.jp2.proofs.Sets.{Writable}
use Rattle.jp2.proofs.Kept.{Short, SoundPhase, SoundState, jp2-kept}
use Rattle.jp2_read.specs.Cursor.{phase_of, state_of, in_escape, phase_for, state_for, state_back, does_of, jp2_code}
use Rattle.jp2_read.specs.declared.Phase.TheVariants.{Escape, Escape1, Escape2}
use Rattle.jp2_read.specs.declared.State.{State}

-- the phase inside an escape, by how many bytes there are
pub inside_one : (bytes : List ℕ) → length bytes < 2 → Escape ≡ in_escape bytes
inside_one [] h = refl
inside_one (e ∷ []) h = refl
inside_one (e ∷ x ∷ more) h = absurd (omega arith)

pub inside-two : (bytes : List ℕ) → length bytes ≡ 2 → Escape1 (get_or bytes 1 0) ≡ in_escape bytes
inside-two [] h = absurd (omega arith)
inside-two (e ∷ []) h = absurd (omega arith)
inside-two (e ∷ x ∷ []) h = refl
inside-two (e ∷ x ∷ y ∷ more) h = absurd (omega arith)

pub inside-more : (bytes : List ℕ) → 2 < length bytes → Escape2 (get_or bytes 1 0) (get_or bytes 2 0) ≡ in_escape bytes
inside-more [] h = absurd (omega arith)
inside-more (e ∷ []) h = absurd (omega arith)
inside-more (e ∷ x ∷ []) h = absurd (omega arith)
inside-more (e ∷ x ∷ y ∷ more) h = refl

-- ESC and at most two bytes more are written whole
pub escape-back : (bytes : List ℕ) → Short bytes → phase_of (in_escape bytes) ≡ escape bytes
escape-back [] h = absurd (omega arith)
escape-back (e ∷ []) h = rw h.starts
escape-back (e ∷ x ∷ []) h = rw h.starts
escape-back (e ∷ x ∷ y ∷ []) h = rw h.starts
escape-back (e ∷ x ∷ y ∷ z ∷ more) h = absurd (omega arith)

sound_back : (p : rule.Phase) (g0 g2 : ℕ) → SoundPhase p g0 g2 → phase_of (phase_for p) ≡ p
sound_back plain g0 g2 h = refl
sound_back return g0 g2 h = refl
sound_back (first a) g0 g2 h = refl
sound_back shifted g0 g2 h = refl
sound_back (escape bytes) g0 g2 h = escape-back bytes h

pub means-back : (st : rule.State) → SoundState st → state_of (state_for st) ≡ st
means-back st h = rw (sound_back st.phase st.g0 st.g2 h.within)

abbrev pub jp2-faithful : Faithful jp2_code
jp2-faithful =
    record {
      Sound = SoundState;
      Good = Writable;
      kept = jp2-kept;
      writes-back = λ st _. state_back st;
      means-back = means-back;
      settles = λ _ _. tt;
    }

-- what an arm that found the move `m` knows
pub moved : {r m : Move State} {does : Does rule.State} → does_of r ≡ does → r ≡ m → does ≡ does_of m
moved h e = move-found jp2_code h e

-- two bytes are a list of two by their tests
both-tests : (s t : Bool) → (cond s (cond t true false) false && true) ≡ (s && t)
both-tests true true = refl
both-tests true false = refl
both-tests false t = refl

pub two_bytes : (bytes : List ℕ) → length bytes ≡ 2 → is_list bytes (27 ∷ 78 ∷ []) ≡ (eqb (get_or bytes 0 0) 27 && eqb (get_or bytes 1 0) 78)
unfolding begins
two_bytes [] h = absurd (omega arith)
two_bytes (a ∷ []) h = absurd (omega arith)
two_bytes (a ∷ b ∷ []) h = both-tests (eqb a 27) (eqb b 78)
two_bytes (a ∷ b ∷ c ∷ more) h = absurd (omega arith)

pub not-two : (bytes : List ℕ) → (length bytes ≡ 2 → ⊥) → is_list bytes (27 ∷ 78 ∷ []) ≡ false
not-two bytes h = rw (ne_eqb (length bytes) 2 h, and-false (begins bytes (27 ∷ 78 ∷ [])))
