-- Document 02, order 4, for both alphabets: letters and values are one to one, proved once over the last sign. Assumes nothing.
use Prim.Native.Nat.{ℕ, ◌<◌}
use mathlib.Core.Path.{◌≡◌, refl, sym, ◌∙◌}
use mathlib.Core.Bool.{Bool, true, false, true≢false}
use native.Mathlib.Omega.{arith}
use lib.Dec.{ltb, eqb}
use lib.ListN.{get_or}
use borrow.Author.Tests.{lt-ltb, ltb-true, eqb-true, eqb-false}
use Rattle.answer.proofs.Below.{cond-case, all_below, below}
use Rattle.alphabet.specs.Letters.{within, slash, comma, value_of, set_b, letter_of, alphabet, ByRule}
use Rattle.alphabet.proofs.Letters.{within-range, Sign, slash-sign, comma-sign, value-letter, letter-value}

-- a byte without a value has 64, and nothing greater
none_other : (last b : ℕ) → set_b last b ≡ false → value_of last b ≡ 64
unfolding set_b value_of
none_other last b =
    let None : ℕ → Type 0 = λ x. ltb x 64 ≡ false → x ≡ 64 in
    let less : (x : ℕ) → x < 64 → None x = λ x h e. absurd (true≢false (sym (lt-ltb x 64 h) ∙ e)) in
    cond-case None (within 65 90 b) (λ t. let h = within-range 65 90 b t in less _ (omega arith))
    (λ _. cond-case None (within 97 122 b) (λ t. let h = within-range 97 122 b t in less _ (omega arith))
    (λ _. cond-case None (within 48 57 b) (λ t. let h = within-range 48 57 b t in less _ (omega arith))
    (λ _. cond-case None (eqb b 43) (λ _. less 62 (omega arith)) (λ _. cond-case None (eqb b last) (λ _. less 63 (omega arith)) (λ _ _. refl)))))

-- the letter of each value stands in the table
letter-listed : (last x : ℕ) → x < 64 → letter_of last x ≡ get_or (alphabet last) x 0
unfolding letter_of all_below
letter-listed last x h = told (eqb x 63) refl
  where
    told : (t : Bool) → eqb x 63 ≡ t → letter_of last x ≡ get_or (alphabet last) x 0
    told true e = rw (eqb-true x 63 e)
    told false e =
        eqb-true _ _
        (below (λ k. eqb (letter_of last k) (get_or (alphabet last) k 0)) 63 refl x (omega (arith, eqb-false x 63 e)))

none-listed :
    (last : ℕ) → Sign last → (b : ℕ) → ((x : ℕ) → x < 64 → get_or (alphabet last) x 0 ≡ b → ⊥) → value_of last b ≡ 64
unfolding set_b
none-listed last s b none = told (set_b last b) refl
  where
    told : (t : Bool) → set_b last b ≡ t → value_of last b ≡ 64
    told true e =
        let h : value_of last b < 64 = ltb-true (value_of last b) 64 e in
        absurd (none (value_of last b) h (sym (letter-listed last (value_of last b) h) ∙ letter-value last s b e))
    told false e = none_other last b e

pub by-rule : (last : ℕ) → Sign last → ByRule last
unfolding set_b
by-rule last s =
    record {
      listed = letter-listed last;
      letter-and-back = value-letter last s;
      only-letters = λ b x h e. rw (← e) (sym (letter-value last s b (rw e (lt-ltb x 64 h))));
      no-letter = none-listed last s;
    }

pub utf7-letters : ByRule slash
utf7-letters = by-rule slash slash-sign

pub mailbox-letters : ByRule comma
mailbox-letters = by-rule comma comma-sign
