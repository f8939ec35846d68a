-- What tests one after another choose: the value and the letter as the code finds them, in the order of the rule. Assumes nothing.
use Prim.Native.Nat.{ℕ, ◌+◌, ◌-◌, ◌<◌, ◌≤◌}
use mathlib.Core.Path.{◌≡◌, refl}
use mathlib.Core.Bool.{Bool, true, false, cond, ◌&&◌, and-false}
use mathlib.Core.Logic.{◌⊎◌, ⊎_elim}
use native.Mathlib.Omega.{arith}
use lib.Dec.{leb, ltb, eqb, lit<}
use borrow.Author.Tests.{le-leb, lt-leb, ne_eqb, ltb-true, ltb-false}
use Rattle.answer.proofs.Below.{cond-case}
use Rattle.alphabet.specs.Letters.{within, value_of, letter_of}
use Rattle.alphabet.proofs.Letters.{within-range, not_within}

-- one test: what it sets where it holds, or what was there before
pub picked : {A B : Type 0} {v x y : ℕ} (t : Bool) → (A → (t ≡ true) × (v ≡ x)) → (B → (t ≡ false) × (v ≡ y)) → A ⊎ B → v ≡ cond t x y
picked t f g = ⊎_elim (λ p. rw (f p).0 (f p).1) (λ q. rw (g q).0 (g q).1)

-- one test of a range, which fails at its second half or at its first
pub picked-within :
    {A B C D : Type 0} {v x y : ℕ} (a z u : ℕ) → (A → (a ≤ u) × (leb u z ≡ true) × (v ≡ x)) → (B → (C ⊎ D) × (v ≡ y)) →
    (C → leb u z ≡ false) → (D → u < a) → A ⊎ B → v ≡ cond (within a z u) x y
picked-within a z u f g k l =
    picked (within a z u) (λ p. (simp (le-leb a u (f p).0, (f p).1), (f p).2)) (λ q. (not_within a z u k l (g q).0, (g q).1))

-- the value of a byte, each test beginning from what those before it left
abbrev capital : ℕ → ℕ
capital b = cond (within 65 90 b) (b - 65) 64

abbrev small : ℕ → ℕ
small b = cond (within 97 122 b) (b - 97 + 26) (capital b)

abbrev digit : ℕ → ℕ
digit b = cond (within 48 57 b) (b - 48 + 52) (small b)

abbrev pub first-sign : ℕ → ℕ
first-sign b = cond (eqb b 43) 62 (digit b)

under : (a z b : ℕ) → b < a → within a z b ≡ false
under a z b h = simp (lt-leb a b h)

over : (a z b : ℕ) → z < b → within a z b ≡ false
over a z b h = rw (lt-leb b z h, and-false (leb a b))

pub value-chosen : (last b : ℕ) → cond (eqb b last && eqb (first-sign b) 64) 63 (first-sign b) ≡ value_of last b
unfolding value_of
value-chosen last b =
    let Found : ℕ → Type 0 = λ x. cond (eqb b last && eqb (first-sign b) 64) 63 (first-sign b) ≡ x in
    let other : (x : ℕ) → x < 64 → (eqb b last && eqb x 64) ≡ false = λ x h. rw (ne_eqb x 64 (λ e. omega arith), and-false (eqb b last)) in
    cond-case Found (within 65 90 b)
    (λ t. let h = within-range 65 90 b t in
    simp (t, under 97 122 b (omega arith), over 48 57 b (omega arith), ne_eqb b 43 (λ e. omega arith), other (b - 65) (omega arith)))
    (λ t. cond-case Found (within 97 122 b)
    (λ s. let h = within-range 97 122 b s in simp (s, over 48 57 b (omega arith), ne_eqb b 43 (λ e. omega arith), other (b - 97 + 26) (omega arith)))
    (λ s. cond-case Found (within 48 57 b)
    (λ d. let h = within-range 48 57 b d in simp (d, ne_eqb b 43 (λ e. omega arith), other (b - 48 + 52) (omega arith)))
    (λ d. cond-case Found (eqb b 43) (λ p. simp (p, other 62 (lit< tt)))
    (λ p. cond-case Found (eqb b last) (λ q. simp (t, s, d, p, q)) (λ q. simp (t, s, d, p, q))))))

-- the letter of a value that is not the first sign's
pub letter-chosen :
    (last x : ℕ) → eqb x 62 ≡ false →
    cond (within 52 61 x) (x - 52 + 48) (cond (within 26 51 x) (x - 26 + 97) (cond (leb x 25) (x + 65) last)) ≡ letter_of last x
unfolding letter_of
letter-chosen last x e =
    let Found : ℕ → Type 0 = λ b. cond (within 52 61 x) (x - 52 + 48) (cond (within 26 51 x) (x - 26 + 97) (cond (leb x 25) (x + 65) last)) ≡ b in
    cond-case Found (ltb x 26)
    (λ t. let h = ltb-true x 26 t in simp (under 52 61 x (omega arith), under 26 51 x (omega arith), le-leb x 25 (omega arith)))
    (λ t. let k = ltb-false x 26 t in cond-case Found (ltb x 52)
    (λ s. let h = ltb-true x 52 s in simp (under 52 61 x (omega arith), le-leb 26 x (omega arith), le-leb x 51 (omega arith)))
    (λ s. let l = ltb-false x 52 s in cond-case Found (ltb x 62)
    (λ d. let h = ltb-true x 62 d in simp (le-leb 52 x (omega arith), le-leb x 61 (omega arith)))
    (λ d. let h = ltb-false x 62 d in simp (e, over 52 61 x (omega arith), over 26 51 x (omega arith), lt-leb x 25 (omega arith)))))
