use lib.Pow.{shl_exact}
use native.Mathlib.Omega.{arith}
use native.Mathlib.Nat.{one-mul}
use mathlib.Core.Path.{◌∙◌}
use lib.Dec.{lit<}
use Prim.Native.Nat.{◌^◌, ◌%◌}
use borrow.Author.Rules.{rules}
use Rattle.bits.proofs.power.Statement.{statement}
use Rattle.bits.proofs.power.Tie as tie

shl-result : tie.Need-overflow_shl-result
shl-result c = search rules

returns : tie.Need-returns
returns c = shl_exact 1 (c.args.k % 32) 32 (lit< tt) (omega arith) ∙ one-mul (2 ^ (c.args.k % 32))

pub power_spec : {M : Type 1} → statement M
power_spec = tie.close (tie.spec shl-result returns)
