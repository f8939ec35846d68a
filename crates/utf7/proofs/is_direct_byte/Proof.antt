-- One computed test over all bytes. Assumes nothing.
use Prim.Native.Nat.{ℕ}
use mathlib.Core.Path.{◌≡◌, refl, sym}
use mathlib.Core.Bool.{Bool, true, ◌&&◌, ◌||◌, not}
use lib.Dec.{leb, eqb}
use borrow.Author.Rules.{rules}
use Rattle.answer.proofs.Below.{all_below, below, same, same-eq}
use Rattle.utf7.specs.Sets.{alphanumeric, set_d, set_o, direct}
use Rattle.utf7.proofs.is_direct_byte.Statement.{statement}
use Rattle.utf7.proofs.is_direct_byte.Tie as tie

abbrev tested : ℕ → Bool
tested b = (((((leb 32 b && leb b 125) && not (eqb b 43)) && not (eqb b 92)) || eqb b 9) || eqb b 10) || eqb b 13

tests : all_below (λ k. same (tested k) (direct k)) 256 ≡ true
unfolding all_below direct set_d set_o alphanumeric
tests = refl

returns : tie.Need-returns
returns c = sym (same-eq _ _ (below (λ k. same (tested k) (direct k)) 256 tests c.args.b (search rules)))

pub is_direct_byte_spec : {M : Type 1} → statement M
is_direct_byte_spec = tie.close (tie.spec returns)
