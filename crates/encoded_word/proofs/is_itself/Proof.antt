-- One computed test over all bytes. Assumes nothing.
use Prim.Native.Nat.{ℕ}
use mathlib.Core.Path.{◌≡◌, refl, sym}
use mathlib.Core.Bool.{Bool, true, ◌&&◌, not}
use lib.Dec.{leb, eqb}
use borrow.Author.Rules.{rules}
use Rattle.answer.proofs.Below.{all_below, below, same, same-eq}
use Rattle.encoded_word.specs.Writing.{itself}
use Rattle.encoded_word.proofs.is_itself.Statement.{statement}
use Rattle.encoded_word.proofs.is_itself.Tie as tie

abbrev tested : ℕ → Bool
tested b = (((leb 33 b && leb b 126) && not (eqb b 61)) && not (eqb b 63)) && not (eqb b 95)

tests : all_below (λ k. same (tested k) (itself k)) 256 ≡ true
unfolding all_below itself
tests = refl

returns : tie.Need-returns
returns c = sym (same-eq _ _ (below (λ k. same (tested k) (itself k)) 256 tests c.args.b (search rules)))

pub is_itself_spec : {M : Type 1} → statement M
is_itself_spec = tie.close (tie.spec returns)
