-- How many characters a byte of Q text, a run and a unit bring. Assumes nothing.
use Prim.Native.Nat.{ℕ, ◌+◌, ◌*◌, ◌<◌, ◌≤◌}
use mathlib.Core.Path.{◌≡◌, refl, sym, ap, ◌∙◌}
use mathlib.Core.Bool.{true, false, false≢true}
use mathlib.Core.List.{List, [], ◌∷◌, ◌++◌, append_assoc, append-nil}
use native.Mathlib.Omega.{arith}
use native.Mathlib.Numerals.{add-one}
use lib.ListN.{length, get_or, take, drop, length-append}
use lib.Seq.{take-suc, take-add}
use lib.Dec.{eqb}
use borrow.Author.Tests.{eq-eqb, ne_eqb}
use Rattle.answer.specs.Answer.{limit}
use Rattle.answer.proofs.Below.{cond-case}
use Rattle.utf7.specs.Sets.{own}
use Rattle.utf7.specs.declared.Style.TheVariants.{Header}
use Rattle.parsing.specs.Digits.{digits}
use Rattle.encoded_word.specs.Writing.{itself, spelled, q_text}
use Rattle.encoded_word.specs.Inner.{run_size, brings}
use Rattle.encoded_word.proofs.Greedy.{spelled-few}
use Rattle.encoded_word.proofs.Grow.{spelled-some, q-append}

pub spelled-space : (b : ℕ) → b ≡ 32 → spelled b ≡ 95 ∷ []
unfolding spelled
spelled-space b e = rw (eq-eqb b 32 e)

-- a space is not itself in Q text
itself-apart : (b : ℕ) → itself b ≡ true → b ≡ 32 → ⊥
unfolding itself
itself-apart b t e = false≢true (ap itself (sym e) ∙ t)

pub spelled-itself : (b : ℕ) → itself b ≡ true → spelled b ≡ b ∷ []
unfolding spelled
spelled-itself b t = rw (ne_eqb b 32 (itself-apart b t), t)

pub spelled-pair : (b : ℕ) → (b ≡ 32 → ⊥) → itself b ≡ false → spelled b ≡ 61 ∷ digits 16 2 b
unfolding spelled
spelled-pair b n t = rw (ne_eqb b 32 n, t)

pub pair-three : (b : ℕ) → length (61 ∷ digits 16 2 b) ≡ 3
unfolding digits
pair-three b = refl

-- what a unit brings fits every machine word
pub brings-few : (v k : ℕ) → k ≤ limit → brings v k ≤ 4000000
unfolding limit
brings-few v k h =
    cond-case (λ (n : ℕ). n ≤ 4000000) (own Header v) (λ _. omega (arith, spelled-few v))
    (λ _. cond-case (λ (n : ℕ). n ≤ 4000000) (eqb v 43) (λ _. omega arith) (λ _. omega (arith, run-few k)))
  where
    run-few : (k : ℕ) → run_size (k + 1) ≤ 3 * k + 6
    run-few k = rw (add-one k) (omega arith)

-- Q text has a character for every byte
pub q-least : (l : List ℕ) → length l ≤ length (q_text l)
unfolding q_text
q-least [] = omega arith
q-least (b ∷ l) = omega (arith, spelled-some b, q-least l, length-append (spelled b) (q_text l))

-- Q text, one byte more
pub q-both : (a b : List ℕ) → q_text (a ++ b) ≡ q_text a ++ q_text b
unfolding q_text
q-both [] b = refl
q-both (x ∷ a) b = ap (λ (l : List ℕ). spelled x ++ l) (q-both a b) ∙ sym (append_assoc (spelled x) (q_text a) (q_text b))

q-one : (x : ℕ) → q_text (x ∷ []) ≡ spelled x
unfolding q_text
q-one x = append-nil (spelled x)

pub q-next : (l : List ℕ) (i : ℕ) → i < length l → q_text (take (i + 1) l) ≡ q_text (take i l) ++ spelled (get_or l i 0)
q-next l i h = rw (add-one i, take-suc l i 0 h, q-both (take i l) (get_or l i 0 ∷ []), q-one (get_or l i 0))

-- fewer bytes have no more characters
pub q-upto : (l : List ℕ) (i k : ℕ) → length (q_text (take i l)) ≤ length (q_text (take (i + k) l))
q-upto l i k = rw (take-add i k l) (omega (arith, q-append (take i l) (take k (drop i l))))

pub q-more-size :
    (l : List ℕ) (i : ℕ) → i < length l →
    length (q_text (take (i + 1) l)) ≡ length (q_text (take i l)) + length (spelled (get_or l i 0))
q-more-size l i h = ap length (q-next l i h) ∙ length-append (q_text (take i l)) (spelled (get_or l i 0))
