-- What steps count for, and that a saved mark stays 0, the end of a record, or none. Assumes nothing.
use Prim.Native.Nat.{ℕ, ◌+◌, ◌-◌, ◌≤◌, ◌<◌}
use mathlib.Core.Path.{◌≡◌, refl, sym, ap, ◌∙◌}
use mathlib.Core.Bool.{Bool, true, false, ◌&&◌, ◌||◌}
use mathlib.Core.List.{List, [], ◌∷◌, ◌++◌, reverse_aux, reverse, reverse_aux-eq}
use native.Mathlib.Omega.{arith}
use native.Mathlib.Nat.{add-zero, zero-add}
use lib.Dec.{leb, ltb, eqb}
use borrow.Author.Tests.{le-leb, leb-true, ltb-false, eqb-true, ne_eqb}
use Rattle.answer.proofs.Below.{cond-case}
use Rattle.std.specs.Prelude.{None, Some}
use Rattle.editor.specs.Marks.{Mark, replaced_mark, folded_mark}
use Rattle.editor.specs.Ledger.{Step, weight_of}
use Rattle.editor.specs.Records.{ends_at, mark_fits}

or_same : (t a b : Bool) → (t ≡ true → true ≡ b) → (t ≡ false → a ≡ b) → (t || a) ≡ b
or_same true a b f g = f refl
or_same false a b f g = g refl

and_same : (t a b : Bool) → (t ≡ true → a ≡ b) → (t && a) ≡ (t && b)
and_same true a b f = f refl
and_same false a b f = refl

and-false-right : (a : Bool) → (a && false) ≡ false
and-false-right true = refl
and-false-right false = refl

module _ (weigh : Step → ℕ) where
  abbrev weight : List Step → ℕ
  weight = weight_of weigh

  pub weight-reverse : (back rest : List Step) → weight (reverse_aux back rest) ≡ weight back + weight rest
  weight-reverse [] rest = omega arith
  weight-reverse (x ∷ back) rest = omega (arith, weight-reverse back (x ∷ rest))

  pub ends-zero : (steps : List Step) → ends_at weigh steps 0 ≡ true
  unfolding ends_at
  ends-zero [] = refl
  ends-zero (x ∷ rest) = refl

  -- past all of them there is none
  pub ends-far : (steps : List Step) (n : ℕ) → weight steps < n → ends_at weigh steps n ≡ false
  unfolding ends_at
  ends-far [] n h = ne_eqb n 0 (λ (z : n ≡ 0). omega arith)
  ends-far (x ∷ rest) n h =
      rw (ne_eqb n 0 (λ (z : n ≡ 0). omega arith), ends-far rest (n - weigh x) (omega arith))
      (and-false-right (leb (weigh x) n))

  -- past the first steps an end is one of the later ones
  pub ends-beyond :
      (first rest : List Step) (n : ℕ) → ends_at weigh (first ++ rest) (weight first + n) ≡ ends_at weigh rest n
  unfolding ends_at
  ends-beyond [] rest n = rw zero-add
  ends-beyond (x ∷ first) rest n =
      let all : ℕ = weight first + weigh x + n in
      let left : all - weigh x ≡ weight first + n = omega arith in
      or_same (eqb all 0) _ _
      (λ t.
      let z : n ≡ 0 = omega (arith, eqb-true all 0 t) in
      rw (z, ends-zero rest))
      (λ _. rw (le-leb (weigh x) all (omega arith), left) (ends-beyond first rest n))

  ends-past :
      (back rest : List Step) (n : ℕ) → ends_at weigh (reverse_aux back rest) (weight back + n) ≡ ends_at weigh rest n
  ends-past back rest n =
      let w : weight back ≡ weight (reverse back) = omega (arith, weight-reverse back []) in
      rw (reverse_aux-eq back rest, w) (ends-beyond (reverse back) rest n)

  pub ends-here : (back rest : List Step) → ends_at weigh (reverse_aux back rest) (weight back) ≡ true
  ends-here back rest = rw (← add-zero (weight back)) (ends-past back rest 0 ∙ ends-zero rest)

  -- an end within the first steps, whatever follows
  pub within_first :
      (first rest new : List Step) (n : ℕ) → n ≤ weight first →
      ends_at weigh (first ++ rest) n ≡ ends_at weigh (first ++ new) n
  unfolding ends_at
  within_first [] rest new n h =
      let z : n ≡ 0 = omega arith in
      rw (z, ends-zero rest, ends-zero new)
  within_first (x ∷ first) rest new n h =
      ap (◌||◌ (eqb n 0))
      (and_same (leb (weigh x) n) _ _
      (λ t. within_first first rest new (n - weigh x) (omega (arith, leb-true (weigh x) n t))))

  ends-within :
      (back rest new : List Step) (n : ℕ) → n ≤ weight back →
      ends_at weigh (reverse_aux back rest) n ≡ ends_at weigh (reverse_aux back new) n
  ends-within back rest new n h =
      rw (reverse_aux-eq back rest, reverse_aux-eq back new)
      (within_first (reverse back) rest new n (omega (arith, weight-reverse back [])))

  -- a save marks what is done, and a replace drops a mark beyond it
  pub saved-fits : (back rest : List Step) → mark_fits weigh (Some (weight (reverse back))) (reverse_aux back rest) ≡ true
  saved-fits back rest =
      let n : weight (reverse back) ≡ weight back = omega (arith, weight-reverse back []) in
      rw n (ends-here back rest)

  pub replaced-fits :
      (back rest new : List Step) (m : Mark) → mark_fits weigh m (reverse_aux back rest) ≡ true →
      mark_fits weigh (replaced_mark (weight (reverse back)) m) (reverse_aux back new) ≡ true
  replaced-fits back rest new None h = refl
  replaced-fits back rest new (Some n) h =
      let w : weight (reverse back) ≡ weight back = omega (arith, weight-reverse back []) in
      cond-case (λ (m : Mark). mark_fits weigh m (reverse_aux back new) ≡ true) (ltb (weight (reverse back)) n)
      (λ _. refl)
      (λ q.
      let below : n ≤ weight (reverse back) = ltb-false (weight (reverse back)) n q in
      sym (ends-within back rest new n (omega arith)) ∙ h)

  -- a fold leaves a mark at 0, takes one at its end or later along, and drops the others
  pub folded_fits :
      (old rest : List Step) (x : Step) (m : Mark) → mark_fits weigh m (reverse_aux old rest) ≡ true →
      mark_fits weigh (folded_mark (weight old) (weigh x) m) (x ∷ rest) ≡ true
  folded_fits old rest x None h = refl
  folded_fits old rest x (Some n) h =
      let Fitting : Mark → Type 0 = λ m. mark_fits weigh m (x ∷ rest) ≡ true in
      cond-case Fitting (eqb n 0) (λ _. ends-zero (x ∷ rest))
      (λ _. cond-case Fitting (ltb n (weight old)) (λ _. refl)
      (λ q.
      let past : weight old ≤ n = ltb-false n (weight old) q in
      let here : weight old + (n - weight old) ≡ n = omega arith in
      let there : weight (x ∷ []) + (n - weight old) ≡ n - weight old + weigh x = omega arith in
      rw (← there)
      (ends-beyond (x ∷ []) rest (n - weight old) ∙ sym (ends-past old rest (n - weight old)) ∙ rw here h)))
