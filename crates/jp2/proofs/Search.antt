-- Searching a list from its start for the first element that passes a test. Assumes nothing.
use Prim.Native.Nat.{ℕ, zero, suc, ◌+◌, ◌<◌, ◌≤◌}
use mathlib.Core.Path.{◌≡◌, refl, ap, ◌∙◌}
use mathlib.Core.Bool.{Bool, true, false}
use mathlib.Core.List.{List, [], ◌∷◌}
use native.Mathlib.Omega.{arith}
use native.Mathlib.Numerals.{add-one}
use lib.ListN.{length, get_or, drop, drop_of_length-le}
use lib.Seq.{drop-cons}
use Rattle.answer.proofs.Below.{cond-case}
use Rattle.jp2.specs.Table.{first_where}

-- within a list no default is taken
pub at-any : {A : Type 0} (xs : List A) (i : ℕ) (d e : A) → i < length xs → get_or xs i d ≡ get_or xs i e
at-any [] i d e h = absurd (omega arith)
at-any (x ∷ xs) zero d e h = refl
at-any (x ∷ xs) (suc i) d e h = at-any xs i d e (omega arith)

-- no element before the i-th passes
pub record Passed {A : Type 0} (test : A → Bool) (xs : List A) (i : ℕ) : Type 0 where
  pub so : first_where test xs ≡ i + first_where test (drop i xs)

pub passed_start : {A : Type 0} (test : A → Bool) (xs : List A) → Passed test xs 0
passed_start test xs = record { so = omega arith }

module _ {A : Type 0} {test : A → Bool} {xs : List A} {i : ℕ} (p : Passed test xs i) where
  module _ (x : A) (h : i < length xs) where
    pub passed_here : test (get_or xs i x) ≡ true → i ≡ first_where test xs
    unfolding first_where
    passed_here e = let z : first_where test (drop i xs) ≡ 0 = rw (drop-cons xs i x h, e) in omega (arith, p.so)

    pub passed_on : test (get_or xs i x) ≡ false → Passed test xs (i + 1)
    unfolding first_where
    passed_on e = record { so = p.so ∙ rw (drop-cons xs i x h, e, add-one) (omega arith) }

  pub passed-end : length xs ≤ i → i ≡ first_where test xs
  unfolding first_where
  passed-end h = omega (arith, p.so, ap (first_where test) (drop_of_length-le xs h))

-- what a search finds passes, and nothing that passes comes before it
pub found-passes : {A : Type 0} (test : A → Bool) (xs : List A) (d : A) → first_where test xs < length xs → test (get_or xs (first_where test xs) d) ≡ true
unfolding first_where
found-passes test [] d = λ h. absurd (omega arith)
found-passes test (x ∷ xs) d =
    cond-case (λ k. k < suc (length xs) → test (get_or (x ∷ xs) k d) ≡ true) (test x) (λ e _. e) (λ _ h. found-passes test xs d (omega arith))

pub found_first : {A : Type 0} (test : A → Bool) (xs : List A) (d : A) (i : ℕ) → i < length xs → test (get_or xs i d) ≡ true → first_where test xs ≤ i
unfolding first_where
found_first test [] d i h e = absurd (omega arith)
found_first test (x ∷ xs) d zero h e = rw e (omega arith)
found_first test (x ∷ xs) d (suc i) h e =
    cond-case (λ k. k ≤ suc i) (test x) (λ _. omega arith) (λ _. omega (arith, found_first test xs d i (omega arith) e))
