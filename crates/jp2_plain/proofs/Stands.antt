-- Bytes that stand at a place, and reading along them. Assumes nothing.
use Prim.Native.Nat.{ℕ, ◌+◌, ◌<◌, ◌≤◌}
use mathlib.Core.Path.{◌≡◌, refl, ◌∙◌}
use mathlib.Core.Bool.{Bool, true, false}
use mathlib.Core.List.{List, [], ◌∷◌, ◌++◌}
use native.Mathlib.Omega.{arith}
use native.Mathlib.Nat.{add-zero}
use native.Mathlib.Numerals.{add-one}
use lib.ListN.{length, drop, length-append, get_or-eq_default}
use lib.Seq.{drop-cons, append_snoc}
use lib.Dec.{ltb}
use borrow.Author.Tests.{ltb-true, ltb-false}
use Rattle.reading.specs.Reading.{bad, fault, read_from}
use Rattle.reading.proofs.Laws.{read_by, read-end}
use Rattle.reading.proofs.Walk.{Walk, push_all}
use Rattle.reading.proofs.Strides.{Stride, stride-walk}
use Rattle.jp2.specs.Rule.{State, byte_does, ends_in, jp2}
use Rattle.jp2.proofs.Search.{at-any}
use Rattle.jp2_plain.specs.Inner.{byte_at, Stands, fault_at, Shorter}

-- behind the text stands nothing that may
present : (text : List ℕ) (i : ℕ) → byte_at text i < 128 → i < length text
present text i h = by_side (ltb i (length text)) refl
  where
    by_side : (t : Bool) → ltb i (length text) ≡ t → i < length text
    by_side true e = ltb-true i (length text) e
    by_side false e =
        absurd (omega (arith, get_or-eq_default text 255 {n = i} (ltb-false i (length text) e)))

pub stands-none : (text : List ℕ) (at : ℕ) → at ≤ length text → Stands text at []
stands-none text at h = record { within = rw add-zero h; so = rw add-zero }

module _ {text : List ℕ} {at : ℕ} {s : List ℕ} (p : Stands text at s) where
  -- one byte more
  pub stands-more : {i b : ℕ} → at + length s ≡ i → b ≡ byte_at text i → b < 128 → Stands text at (s ++ b ∷ [])
  stands-more {i} {b} e q low =
      let h : i < length text = present text i (rw q at low) in
      let z : at + length (s ++ b ∷ []) ≡ i + 1 = omega (arith, length-append s (b ∷ [])) in
      record {
        within = rw z (omega arith);
        so = p.so ∙ rw (e, z, drop-cons text i 255 h, ← q, add-one, append_snoc);
      }

  pub along : {st st' : State} {cs : List ℕ} → Walk jp2 st s cs st' → Stride jp2 text at st (at + length s) cs st'
  along w = stride-walk (drop (at + length s) text) w p.so (omega (arith, p.within))

  -- reading goes on behind them, with a cell or with none
  pub onward :
      {st st' : State} {cs : List ℕ} → 0 < length s → Walk jp2 st s cs st' →
      Shorter text at (at + length s)
      × (read_from jp2 (drop at text) at st ≡ push_all cs (read_from jp2 (drop (at + length s) text) (at + length s) st'))
  onward h w = (record { past = omega arith; within = p.within }, (along w).same)

-- the fault at a place where no byte stands that may
module _ (text : List ℕ) (i k : ℕ) (st : State) where
  fault-here :
      (length text ≤ i → ends_in i st ≡ fault 7 i) → (byte_at text i < 128 → byte_does st (byte_at text i) ≡ bad k) →
      read_from jp2 (drop i text) i st ≡ record { cells = []; ending = fault (fault_at text i k) i }
  unfolding byte_does
  fault-here ends does = by_side (ltb i (length text)) refl (ltb (byte_at text i) 128) refl
    where
      by_side :
          (t : Bool) → ltb i (length text) ≡ t → (u : Bool) → ltb (byte_at text i) 128 ≡ u →
          read_from jp2 (drop i text) i st ≡ record { cells = []; ending = fault (fault_at text i k) i }
      by_side false e u f = rw (e, read-end jp2 text i st (ltb-false i _ e), ends (ltb-false i _ e))
      by_side true e true f =
          let h = ltb-true i (length text) e in
          rw (e, f) (read_by jp2 text i st (bad k) h (rw (at-any text i 0 255 h) (does (ltb-true _ 128 f))))
      by_side true e false f =
          let h = ltb-true i (length text) e in
          rw (e, f) (read_by jp2 text i st (bad 1) h (rw (at-any text i 0 255 h, f)))

-- .. behind bytes that were read
pub stray :
    {text s : List ℕ} {at i b k m : ℕ} {st st' : State} → Stands text at s → at + length s ≡ i → b ≡ byte_at text i →
    Walk jp2 st s [] st' → (length text ≤ i → ends_in i st' ≡ fault 7 i) → (b < 128 → byte_does st' b ≡ bad k) →
    m ≡ fault_at text i k → read_from jp2 (drop at text) at st ≡ record { cells = []; ending = fault m i }
stray {text} {i = i} {k = k} {st' = st'} p e q w ends does n =
    (along p w).same ∙ rw (e, n) (fault-here text i k st' ends (rw q at does))
