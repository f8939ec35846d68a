-- One computed test over all bytes. Assumes nothing.
use Prim.Native.Nat.{ℕ}
use mathlib.Core.Path.{◌≡◌, refl, sym}
use mathlib.Core.Bool.{Bool, true, ◌&&◌, ◌||◌}
use lib.Dec.{leb, eqb}
use borrow.Author.Rules.{rules}
use Rattle.answer.proofs.Below.{all_below, below, same, same-eq}
use Rattle.alphabet.specs.Letters.{value_of, set_b, slash}
use Rattle.utf7_whole.proofs.quick.is_letter.Statement.{statement}
use Rattle.utf7_whole.proofs.quick.is_letter.Tie as tie

abbrev tested : ℕ → Bool
tested b = (((leb 65 b && leb b 90) || (leb 97 b && leb b 122)) || (leb 47 b && leb b 57)) || eqb b 43

tests : all_below (λ k. same (tested k) (set_b slash k)) 256 ≡ true
unfolding all_below set_b value_of
tests = refl

returns : tie.Need-returns
returns c = sym (same-eq _ _ (below (λ k. same (tested k) (set_b slash k)) 256 tests c.args.b (search rules)))

pub is_letter_spec : {M : Type 1} → statement M
is_letter_spec = tie.close (tie.spec returns)
