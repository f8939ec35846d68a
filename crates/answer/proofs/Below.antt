-- A rule for every number below a bound, by one computed test; and laws of `Each`. Assumes nothing.
use Prim.Native.Nat.{ℕ, zero, suc, ◌+◌, ◌-◌, ◌<◌, ◌≤◌}
use mathlib.Core.Path.{◌≡◌, refl}
use mathlib.Core.Bool.{Bool, true, false, cond, ◌&&◌, not, false≢true}
use mathlib.Core.List.{List, [], ◌∷◌}
use native.Mathlib.Omega.{arith}
use lib.ListN.{length, get_or, take, drop}
use lib.Dec.{eqb}
use borrow.Author.Tests.{eqb-true, eqb-false}
use Rattle.answer.specs.Lists.{Each}

-- what holds of each row of a table, row after row
infixr 5 ◌and◌
pub ◌and◌ : {A B : Type 0} → A → B → A × B
a and b = (a, b)

pub both : (a b : Bool) → (a && b) ≡ true → (a ≡ true) × (b ≡ true)
both true b e = (refl, e)
both false b e = absurd (false≢true e)

-- what a `cond` yields has a property if each side has it where it is yielded
pub cond-case : {A : Type 0} (P : A → Type 0) (t : Bool) {a b : A} → (t ≡ true → P a) → (t ≡ false → P b) → P (cond t a b)
cond-case P true f g = f refl
cond-case P false f g = g refl

-- a test holds of every number below n
unfoldable pub all_below : (ℕ → Bool) → ℕ → Bool
all_below test zero = true
all_below test (suc n) = test n && all_below test n

at-below : (test : ℕ → Bool) (n k : ℕ) (t : Bool) → eqb k n ≡ t → k < suc n → test n ≡ true → (k < n → test k ≡ true) → test k ≡ true
at-below test n k true e h a f = rw (eqb-true k n e) a
at-below test n k false e h a f = f (omega (arith, eqb-false k n e))

pub below : (test : ℕ → Bool) (n : ℕ) → all_below test n ≡ true → (k : ℕ) → k < n → test k ≡ true
unfolding all_below
below test zero e k h = absurd (omega arith)
below test (suc n) e k h =
    let q = both (test n) (all_below test n) e in
    at-below test n k (eqb k n) refl h q.0 (below test n q.1 k)

module _ (P : ℕ → Type 0) where
  pub each_at : (xs : List ℕ) (i : ℕ) → Each P xs → i < length xs → P (get_or xs i 0)
  each_at [] i e h = absurd (omega arith)
  each_at (x ∷ xs) zero e h = e.0
  each_at (x ∷ xs) (suc i) e h = each_at xs i e.1 (omega arith)

  pub each-drop : (xs : List ℕ) (i : ℕ) → Each P xs → Each P (drop i xs)
  each-drop xs zero e = e
  each-drop [] (suc i) e = tt
  each-drop (x ∷ xs) (suc i) e = each-drop xs i e.1

  pub each_take : (xs : List ℕ) (i : ℕ) → Each P xs → Each P (take i xs)
  each_take xs zero e = tt
  each_take [] (suc i) e = tt
  each_take (x ∷ xs) (suc i) e = (e.0, each_take xs i e.1)

-- a test that has one outcome over a range of numbers, by computing it at each
abbrev pub same : Bool → Bool → Bool
same true t = t
same false t = not t

pub same-eq : (s t : Bool) → same s t ≡ true → t ≡ s
same-eq true true e = refl
same-eq true false e = e
same-eq false true e = absurd (false≢true e)
same-eq false false e = refl

abbrev pub all_from : (ℕ → Bool) → Bool → ℕ → ℕ → Bool
all_from test outcome from n = all_below (λ k. same outcome (test (from + k))) n

pub ranged :
    (test : ℕ → Bool) (outcome : Bool) (from n : ℕ) → all_from test outcome from n ≡ true → (u : ℕ) → from ≤ u → u < from + n → test u ≡ outcome
ranged test outcome from n e u h k =
    let q : from + (u - from) ≡ u = omega arith in
    rw q at (same-eq outcome (test (from + (u - from))) (below (λ k. same outcome (test (from + k))) n e (u - from) (omega arith)))
