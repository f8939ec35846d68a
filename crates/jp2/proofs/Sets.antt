-- The nine sets' numbers, and the four kinds of writable cells. Assumes nothing.
use Prim.Native.Nat.{ℕ, ◌+◌, ◌*◌, ◌/◌, ◌%◌, ◌<◌, ◌≤◌}
use mathlib.Core.Path.{◌≡◌, refl, sym, ap, ◌∙◌}
use mathlib.Core.Bool.{Bool, true, false, ◌&&◌, ◌||◌, false≢true}
use native.Mathlib.Omega.{arith}
use lib.Dec.{leb, eqb}
use borrow.Author.Tests.{leb-true, le-leb, eqb-true, ne_eqb}
use Rattle.answer.proofs.Below.{both, cond-case}
use Rattle.jp2.specs.Rule.{graphic, cell_of}
use Rattle.jp2.specs.Writable.{pair_set, shift_set, ascii, codes, writable}

pub either : {X : Type 0} (s t : Bool) → (s || t) ≡ true → (s ≡ true → X) → (t ≡ true → X) → X
either true t e f g = f refl
either false t e f g = g e

-- a number that passes a test is none that fails it
pub differs : (test : ℕ → Bool) (n k : ℕ) → test n ≡ true → test k ≡ false → eqb n k ≡ false
differs test n k a b = ne_eqb n k (λ e. false≢true (sym b ∙ ap test (sym e) ∙ a))

pub graphic-range : (b : ℕ) → graphic b ≡ true → (33 ≤ b) × (b ≤ 126)
unfolding graphic
graphic-range b h =
    let q = both (leb 33 b) (leb b 126) h in
    (leb-true 33 b q.0, leb-true b 126 q.1)

pub graphic-ascii : (b : ℕ) → graphic b ≡ true → ascii b ≡ true
unfolding graphic ascii
graphic-ascii b h =
    let k : b ≤ 127 = omega (arith, (graphic-range b h).1) in
    simp (le-leb b 127 k, differs graphic b 14 h refl, differs graphic b 15 h refl, differs graphic b 27 h refl)

-- what holds of the sets of pairs, or of G2, by their numbers
module _ (P : ℕ → Type 0) (n : ℕ) where
  is : (k : ℕ) → P k → eqb n k ≡ true → P n
  is k p e = rw (eqb-true n k e) p

  pub pair-case : P 42 → P 58 → P 87 → P 149 → P 159 → pair_set n ≡ true → P n
  unfolding pair_set
  pair-case a b c d e h =
      either (eqb n 42) _ h (is 42 a) (λ h. either (eqb n 58) _ h (is 58 b)
      (λ h. either (eqb n 87) _ h (is 87 c) (λ h. either (eqb n 149) _ h (is 149 d) (is 159 e))))

  pub shift-case : P 100 → P 126 → shift_set n ≡ true → P n
  unfolding shift_set
  shift-case a b h = either (eqb n 100) _ h (is 100 a) (is 126 b)

pub pair-apart : (n : ℕ) → pair_set n ≡ true → (eqb n 6 ≡ false) × (eqb n 14 ≡ false) × (shift_set n ≡ false)
unfolding shift_set
pair-apart n =
    pair-case (λ n. (eqb n 6 ≡ false) × (eqb n 14 ≡ false) × (shift_set n ≡ false)) n
    (refl, refl, refl) (refl, refl, refl) (refl, refl, refl) (refl, refl, refl) (refl, refl, refl)

-- the sets that are ASCII or Roman, and those of G0
abbrev pub single : ℕ → Bool
single n = eqb n 6 || eqb n 14

abbrev pub base_set : ℕ → Bool
base_set n = single n || pair_set n

-- what codes the sets of pairs, and of G2, have
pub codes-pair : (n c : ℕ) → pair_set n ≡ true → codes n c ≡ (graphic (c / 256) && graphic (c % 256))
unfolding codes pair_set
codes-pair n c = pair-case (λ n. codes n c ≡ (graphic (c / 256) && graphic (c % 256))) n refl refl refl refl refl

pub codes-shift : (n c : ℕ) → shift_set n ≡ true → codes n c ≡ (leb 32 c && leb c 127)
unfolding codes pair_set shift_set
codes-shift n c = shift-case (λ n. codes n c ≡ (leb 32 c && leb c 127)) n refl refl

-- a cell that may be written, by its parts
abbrev pub Writable : ℕ → Type 0
Writable v = writable v ≡ true

pub cell-writable : (n c : ℕ) → c < 65536 → codes n c ≡ true → writable (cell_of n c) ≡ true
unfolding writable
cell-writable n c h e =
    let q : (n * 65536 + c) / 65536 ≡ n = omega arith in
    let r : (n * 65536 + c) % 65536 ≡ c = omega arith in
    rw (q, r) e

-- the four kinds
pub data Kind : ℕ → ℕ → Type 0 where
  of-ascii : {c : ℕ} → ascii c ≡ true → Kind 6 c
  of-roman : {c : ℕ} → graphic c ≡ true → Kind 14 c
  of_pair : {n c : ℕ} → pair_set n ≡ true → graphic (c / 256) ≡ true → graphic (c % 256) ≡ true → Kind n c
  of_shift : {n c : ℕ} → shift_set n ≡ true → 32 ≤ c → c ≤ 127 → Kind n c

pub kind-of : (n c : ℕ) → codes n c ≡ true → Kind n c
unfolding codes
kind-of n c =
    let P : Bool → Type 0 = λ t. t ≡ true → Kind n c in
    cond-case P (eqb n 6) (λ e h. rw (eqb-true n 6 e) (of-ascii h))
    (λ _. cond-case P (eqb n 14) (λ e h. rw (eqb-true n 14 e) (of-roman h))
    (λ _. cond-case P (pair_set n) (λ e h. let q = both (graphic (c / 256)) (graphic (c % 256)) h in of_pair e q.0 q.1)
    (λ _. cond-case P (shift_set n) (λ e h. let q = both (leb 32 c) (leb c 127) h in of_shift e (leb-true 32 c q.0) (leb-true c 127 q.1))
    (λ _ h. absurd (false≢true h)))))
