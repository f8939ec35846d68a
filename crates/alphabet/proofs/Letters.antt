-- Letters and values are one to one, in every alphabet whose last letter is a sign. Assumes nothing.
use Prim.Native.Nat.{ℕ, ◌+◌, ◌-◌, ◌<◌, ◌≤◌}
use mathlib.Core.Path.{◌≡◌, refl, sym}
use mathlib.Core.Bool.{Bool, true, false, false≢true, and-false}
use mathlib.Core.Logic.{◌⊎◌, ⊎_elim}
use native.Mathlib.Omega.{arith}
use lib.Dec.{leb, ltb, eqb, lit<}
use borrow.Author.Tests.{ltb-true, leb-true, eqb-true, eqb-false, eq-eqb, lt-ltb, le-ltb, lt-leb, ne_eqb}
use Rattle.answer.proofs.Below.{both, cond-case, all_below, below}
use Rattle.alphabet.specs.Letters.{within, slash, comma, value_of, set_b, letter_of}

pub within_both : (a z u : ℕ) → within a z u ≡ true → (leb a u ≡ true) × (leb u z ≡ true)
within_both a z u e = both (leb a u) (leb u z) e

pub within-range : (a z u : ℕ) → within a z u ≡ true → (a ≤ u) × (u ≤ z)
within-range a z u e = (leb-true a u (within_both a z u e).0, leb-true u z (within_both a z u e).1)

-- where a test of a range fails: at its second half or at its first
pub not_within : {A B : Type 0} (a z u : ℕ) → (A → leb u z ≡ false) → (B → u < a) → A ⊎ B → within a z u ≡ false
not_within a z u f g = ⊎_elim (λ p. rw (f p, and-false (leb a u))) (λ q. simp (lt-leb a u (g q)))

-- below the digits, and no '+'
abbrev pub Sign : ℕ → Type 0
Sign last = (last < 48) × (last ≡ 43 → ⊥)

pub slash-sign : Sign slash
slash-sign = (lit< tt, λ e. omega arith)

pub comma-sign : Sign comma
comma-sign = (lit< tt, λ e. omega arith)

module _ (last : ℕ) (s : Sign last) where
  value-last : value_of last last ≡ 63
  unfolding value_of
  value-last =
      let under : (a : ℕ) → 48 ≤ a → leb a last ≡ false = λ a h. lt-leb a last (omega (arith, s.0)) in
      simp (under 65 (omega arith), under 97 (omega arith), under 48 (omega arith), ne_eqb last 43 s.1, eq-eqb last last refl)

  pub value-letter : (x : ℕ) → x < 64 → value_of last (letter_of last x) ≡ x
  unfolding value_of letter_of all_below
  value-letter x h = told (eqb x 63) refl
    where
      told : (t : Bool) → eqb x 63 ≡ t → value_of last (letter_of last x) ≡ x
      told true e = rw (eqb-true x 63 e) value-last
      told false e =
          eqb-true (value_of last (letter_of last x)) x
          (below (λ k. eqb (value_of last (letter_of last k)) k) 63 refl x (omega (arith, eqb-false x 63 e)))

  pub letter-low : (x : ℕ) → x < 64 → letter_of last x < 128
  unfolding letter_of
  letter-low x h =
      cond-case (λ (b : ℕ). b < 128) (ltb x 26) (λ t. omega (arith, ltb-true x 26 t))
      (λ _. cond-case (λ (b : ℕ). b < 128) (ltb x 52) (λ t. omega (arith, ltb-true x 52 t))
      (λ _. cond-case (λ (b : ℕ). b < 128) (ltb x 62) (λ t. omega (arith, ltb-true x 62 t))
      (λ _. cond-case (λ (b : ℕ). b < 128) (eqb x 62) (λ _. lit< tt) (λ _. omega (arith, s.0)))))

  -- a letter is a byte below 128
  pub value_low : (b : ℕ) → set_b last b ≡ true → b < 128
  unfolding set_b value_of
  value_low b =
      cond-case (λ (x : ℕ). ltb x 64 ≡ true → b < 128) (within 65 90 b) (λ t _. omega (arith, leb-true b 90 (within_both 65 90 b t).1))
      (λ _. cond-case (λ (x : ℕ). ltb x 64 ≡ true → b < 128) (within 97 122 b) (λ t _. omega (arith, leb-true b 122 (within_both 97 122 b t).1))
      (λ _. cond-case (λ (x : ℕ). ltb x 64 ≡ true → b < 128) (within 48 57 b) (λ t _. omega (arith, leb-true b 57 (within_both 48 57 b t).1))
      (λ _. cond-case (λ (x : ℕ). ltb x 64 ≡ true → b < 128) (eqb b 43) (λ t _. omega (arith, eqb-true b 43 t))
      (λ _. cond-case (λ (x : ℕ). ltb x 64 ≡ true → b < 128) (eqb b last) (λ t _. omega (arith, eqb-true b last t, s.0))
      (λ _ e. absurd (false≢true e))))))

  -- a letter is the letter of its value
  pub letter-value : (b : ℕ) → set_b last b ≡ true → letter_of last (value_of last b) ≡ b
  unfolding set_b value_of letter_of
  letter-value b =
      let Back : ℕ → Type 0 = λ x. ltb x 64 ≡ true → letter_of last x ≡ b in
      cond-case Back (within 65 90 b) (λ t _. let h = within-range 65 90 b t in simp (lt-ltb (b - 65) 26 (omega arith)) (omega arith))
      (λ _. cond-case Back (within 97 122 b)
      (λ t _. let h = within-range 97 122 b t in simp (le-ltb (b - 97 + 26) 26 (omega arith), lt-ltb (b - 97 + 26) 52 (omega arith)) (omega arith))
      (λ _. cond-case Back (within 48 57 b)
      (λ t _. let h = within-range 48 57 b t in
      simp (le-ltb (b - 48 + 52) 26 (omega arith), le-ltb (b - 48 + 52) 52 (omega arith), lt-ltb (b - 48 + 52) 62 (omega arith)) (omega arith))
      (λ _. cond-case Back (eqb b 43) (λ t _. sym (eqb-true b 43 t))
      (λ _. cond-case Back (eqb b last) (λ t _. sym (eqb-true b last t)) (λ _ e. absurd (false≢true e))))))
