-- Blocks of elements: what is found of each, one after another. Assumes nothing.
use Prim.Native.Nat.{ℕ, suc, ◌+◌, ◌-◌}
use mathlib.Core.Path.{◌≡◌, refl, sym, ◌∙◌}
use mathlib.Core.Bool.{Bool, true, false, false≢true}
use mathlib.Core.List.{List}
use mathlib.Core.Logic.{◌⊎◌, ⊎_elim}
use native.Mathlib.Omega.{arith}
use lib.ListN.{get_or}
use lib.Dec.{ltb, eqb}
use borrow.Author.Tests.{ltb-true, ltb-false, eqb-true, eqb-false}
use Rattle.answer.specs.Ahead.{Ahead}

module _ (P : ℕ → Type 0) (us : List ℕ) (i : ℕ) where
  pub ahead_none : Ahead P us i 0
  ahead_none m h = absurd (omega arith)

  pub ahead_more : (k : ℕ) → Ahead P us i k → P (get_or us (i + k) 0) → Ahead P us i (k + 1)
  ahead_more k a p m h = told (eqb m k) refl
    where
      told : (t : Bool) → eqb m k ≡ t → P (get_or us (i + m) 0)
      told true e = rw (eqb-true m k e) p
      told false e = a m (omega (arith, eqb-false m k e))

  -- a flag that is lowered at the first element without the property
  pub flag-more :
      {A B : Type 0} {t t' : Bool} (k : ℕ) → (t ≡ true → Ahead P us i k) → (A → t' ≡ false) → (B → (t' ≡ t) × P (get_or us (i + k) 0)) → A ⊎ B →
      t' ≡ true → Ahead P us i (k + 1)
  flag-more k a f g s e = ⊎_elim (λ p. absurd (false≢true (sym (f p) ∙ e))) (λ q. ahead_more k (a (sym (g q).0 ∙ e)) (g q).1) s

-- what lies ahead, and behind that
pub ahead-join : (P : ℕ → Type 0) (us : List ℕ) (i m n : ℕ) → Ahead P us i m → Ahead P us (i + m) n → Ahead P us i (m + n)
ahead-join P us i m n a b k h = told (ltb k m) refl
  where
    told : (t : Bool) → ltb k m ≡ t → P (get_or us (i + k) 0)
    told true e = a k (ltb-true k m e)
    told false e =
        let g = ltb-false k m e in
        let q : i + m + (k - m) ≡ i + k = omega arith in
        rw q at (b (k - m) (omega arith))

-- what lies further ahead
pub ahead-next : (P : ℕ → Type 0) (us : List ℕ) (i n : ℕ) → Ahead P us i (suc n) → Ahead P us (i + 1) n
ahead-next P us i n a m h =
    let e : i + 1 + m ≡ i + suc m = omega arith in
    rw e (a (suc m) (omega arith))
