-- One computed test over all bytes. Assumes nothing.
use Prim.Native.Nat.{ℕ}
use mathlib.Core.Path.{◌≡◌, refl, sym}
use mathlib.Core.Bool.{Bool, true, ◌&&◌, ◌||◌}
use lib.Dec.{leb}
use borrow.Author.Rules.{rules}
use Rattle.answer.proofs.Below.{all_below, below, same, same-eq}
use Rattle.utf7.specs.Sets.{own}
use Rattle.utf7.specs.declared.Style.TheVariants.{Name}
use Rattle.utf7_whole.proofs.names.is_plain.Statement.{statement}
use Rattle.utf7_whole.proofs.names.is_plain.Tie as tie

abbrev tested : ℕ → Bool
tested b = (leb 32 b && leb b 37) || (leb 39 b && leb b 126)

tests : all_below (λ k. same (tested k) (own Name k)) 256 ≡ true
unfolding all_below own
tests = refl

returns : tie.Need-returns
returns c = sym (same-eq _ _ (below (λ k. same (tested k) (own Name k)) 256 tests c.args.b (search rules)))

pub is_plain_spec : {M : Type 1} → statement M
is_plain_spec = tie.close (tie.spec returns)
