-- What stands for itself is a byte below 128 and no sign that shifts. Assumes nothing.
use Prim.Native.Nat.{ℕ, ◌+◌, ◌<◌, ◌≤◌}
use mathlib.Core.Path.{◌≡◌, refl, sym}
use mathlib.Core.Bool.{Bool, true, false, ◌&&◌, ◌||◌, not, false≢true, or-true}
use mathlib.Core.List.{List, [], ◌∷◌}
use native.Mathlib.Omega.{arith}
use lib.Dec.{ltb, eqb, lit<}
use borrow.Author.Tests.{ltb-true, ltb-false, leb-true, eqb-true, lt-ltb, ne_eqb, not-true}
use Rattle.answer.proofs.Below.{both, all_below, below, same, same-eq, all_from, ranged}
use Rattle.alphabet.specs.Letters.{within, slash}
use Rattle.alphabet.proofs.Letters.{within_both, Sign, slash-sign, comma-sign}
use Rattle.utf7.specs.Sets.{member, alphanumeric, marks_d, marks_o, blanks, line_blanks, set_d, set_o, direct, printable, sign_of, last_of, Mail, own}
use Rattle.utf7.specs.declared.Style.{Style}
use Rattle.utf7.specs.declared.Style.TheVariants.{Header, Body, Name}

or_case : {A : Type 0} (a b : Bool) → (a ≡ true → A) → (b ≡ true → A) → (a || b) ≡ true → A
or_case true b f g e = f refl
or_case false b f g e = g e

bool_false : (t : Bool) → (t ≡ true → ⊥) → t ≡ false
bool_false true f = absurd (f refl)
bool_false false f = refl

-- what holds of every member holds of a member
abbrev all_of : (ℕ → Bool) → List ℕ → Bool
all_of P [] = true
all_of P (a ∷ l) = P a && all_of P l

member-all : (P : ℕ → Bool) (l : List ℕ) → all_of P l ≡ true → (u : ℕ) → member l u ≡ true → P u ≡ true
member-all P [] t u e = absurd (false≢true e)
member-all P (a ∷ l) t u e =
    let h : (P a ≡ true) × (all_of P l ≡ true) = both (P a) (all_of P l) t in
    or_case (eqb u a) (member l u) (λ q. rw (eqb-true u a q) h.0) (λ q. member-all P l h.1 u q) e

-- below 128, and no '+'
abbrev low : ℕ → Bool
low u = ltb u 128 && not (eqb u 43)

within_low : (a z u : ℕ) → 43 < a → z < 128 → within a z u ≡ true → low u ≡ true
within_low a z u p q e =
    let h = within_both a z u e in
    let k = leb-true a u h.0 in
    let l = leb-true u z h.1 in
    simp (lt-ltb u 128 (omega arith), ne_eqb u 43 (λ r. omega arith))

direct-low : (u : ℕ) → direct u ≡ true → low u ≡ true
unfolding direct set_d set_o alphanumeric
direct-low u =
    or_case (set_d u) _
    (or_case (alphanumeric u) _
    (or_case (within 65 90 u) _ (within_low 65 90 u (lit< tt) (lit< tt))
    (or_case (within 97 122 u) _ (within_low 97 122 u (lit< tt) (lit< tt)) (within_low 48 57 u (lit< tt) (lit< tt))))
    (member-all low marks_d refl u))
    (or_case (set_o u) _ (member-all low marks_o refl u) (member-all low blanks refl u))

pub direct-byte : (u : ℕ) → direct u ≡ true → u < 128
direct-byte u e = ltb-true u 128 (both (ltb u 128) (not (eqb u 43)) (direct-low u e)).0

pub direct-sign : (u : ℕ) → direct u ≡ true → eqb u 43 ≡ false
direct-sign u e = not-true (eqb u 43) (both (ltb u 128) (not (eqb u 43)) (direct-low u e)).1

-- what is written as itself is read as itself
pub own-direct : (style : Style) → Mail style → (u : ℕ) → own style u ≡ true → direct u ≡ true
unfolding own direct
own-direct Header m u e =
    or_case (set_d u) (member blanks u) (λ q. rw q) (λ q. rw (q, or-true (set_o u), or-true (set_d u))) e
own-direct Body m u e = e
own-direct Name m u e = absurd m

pub own-byte : (style : Style) (u : ℕ) → own style u ≡ true → u < 128
unfolding own
own-byte Header u e = direct-byte u (own-direct Header tt u e)
own-byte Body u e = direct-byte u (own-direct Body tt u e)
own-byte Name u e = omega (arith, leb-true u 126 (within_both 32 126 u (both (printable u) _ e).0).1)

own-high : (style : Style) (u : ℕ) → 127 < u → own style u ≡ false
own-high style u h = bool_false (own style u) (λ e. omega (arith, own-byte style u e))

pub own_sign : (style : Style) → own style (sign_of style) ≡ false
unfolding own direct set_d set_o alphanumeric
own_sign Header = refl
own_sign Body = refl
own_sign Name = refl

-- the sign and the last letter, in the styles of UTF-7 and in all
pub mail-sign : (style : Style) → Mail style → sign_of style ≡ 43
mail-sign Header m = refl
mail-sign Body m = refl
mail-sign Name m = absurd m

pub mail-last : (style : Style) → Mail style → last_of style ≡ slash
mail-last Header m = refl
mail-last Body m = refl
mail-last Name m = absurd m

pub sign-byte : (style : Style) → sign_of style < 128
sign-byte Header = lit< tt
sign-byte Body = lit< tt
sign-byte Name = lit< tt

pub last-sign : (style : Style) → Sign (last_of style)
last-sign Header = slash-sign
last-sign Body = slash-sign
last-sign Name = comma-sign

-- the outcome over a range of codes, computed
module _ (style : Style) (outcome : Bool) (from n : ℕ) (t : all_from (own style) outcome from n ≡ true) where
  pub own_range : (u : ℕ) → from ≤ u → u < from + n → outcome ≡ own style u
  own_range u h k = sym (ranged (own style) outcome from n t u h k)

-- below 32 both styles of UTF-7 have tab, LF and CR
pub own-low : (style : Style) → Mail style → (u : ℕ) → u < 32 → own style u ≡ member line_blanks u
unfolding own direct set_d set_o alphanumeric all_below
own-low Header m u h = same-eq (member line_blanks u) (own Header u) (below (λ k. same (member line_blanks k) (own Header k)) 32 refl u h)
own-low Body m u h = same-eq (member line_blanks u) (own Body u) (below (λ k. same (member line_blanks k) (own Body k)) 32 refl u h)
own-low Name m u h = absurd m

-- past the last of a style's codes
pub own-past : (style : Style) (from n : ℕ) → all_from (own style) false from n ≡ true → 128 ≤ from + n → (u : ℕ) → from ≤ u → false ≡ own style u
own-past style from n t e u h = past (ltb u 128) refl
  where
    past : (b : Bool) → ltb u 128 ≡ b → false ≡ own style u
    past true q = own_range style false from n t u h (omega (arith, ltb-true u 128 q))
    past false q = sym (own-high style u (omega (arith, ltb-false u 128 q)))
