-- An accepted text ends with ASCII in G0, and in no pair, shift or escape. Assumes nothing.
use Prim.Native.Nat.{ℕ}
use mathlib.Core.Path.{◌≡◌, refl}
use mathlib.Core.Bool.{Bool, true, false, cond}
use mathlib.Core.List.{List}
use lib.ListN.{length}
use lib.Dec.{eqb}
use borrow.Author.Tests.{eqb-true}
use Rattle.reading.specs.Reading.{accepted, fault, reading}
use Rattle.reading.proofs.Walk.{Arrives, no-fault, accepted-walk}
use Rattle.jp2.specs.Rule.{Phase, plain, return, first, shifted, escape, State, end_phase, ends_in, jp2}

-- between cells
abbrev pub Rests : Phase → Type 0
Rests plain = Unit
Rests return = Unit
Rests (first a) = ⊥
Rests shifted = ⊥
Rests (escape bytes) = ⊥

pub record Last (st : State) : Type 0 where
  pub ascii : st.g0 ≡ 6
  pub rests : Rests st.phase

in-ascii : (t : Bool) (k place : ℕ) → cond t accepted (fault k place) ≡ accepted → t ≡ true
in-ascii true k place e = refl
in-ascii false k place e = no-fault k place e

last-phase : (p : Phase) (g0 size : ℕ) → end_phase p g0 size ≡ accepted → (g0 ≡ 6) × Rests p
last-phase plain g0 size e = (eqb-true g0 6 (in-ascii (eqb g0 6) 8 size e), tt)
last-phase return g0 size e = (eqb-true g0 6 (in-ascii (eqb g0 6) 8 size e), tt)
last-phase (first a) g0 size e = no-fault 7 size e
last-phase shifted g0 size e = no-fault 7 size e
last-phase (escape bytes) g0 size e = no-fault 7 size e

-- a text may end in just these states
pub ends_last : (size : ℕ) (st : State) → ends_in size st ≡ accepted → Last st
unfolding ends_in
ends_last size st e =
    let q = last-phase st.phase st.g0 size e in
    record { ascii = q.0; rests = q.1 }

rests-end : (p : Phase) (size : ℕ) → Rests p → end_phase p 6 size ≡ accepted
rests-end plain size r = refl
rests-end return size r = refl
rests-end (first a) size r = absurd r
rests-end shifted size r = absurd r
rests-end (escape bytes) size r = absurd r

pub last-ends : (st : State) → Last st → (size : ℕ) → ends_in size st ≡ accepted
unfolding ends_in
last-ends st l size = rw l.ascii (rests-end st.phase size l.rests)

pub accepted-ends : (s : List ℕ) → (reading jp2 s).ending ≡ accepted → Arrives jp2 Last jp2.start s (reading jp2 s).cells
accepted-ends s e =
    let a = accepted-walk jp2 s e in
    record { end = a.end; walk = a.walk; last = ends_last (length s) a.end a.last }
