use mathlib.Core.Path.{refl}
use native.Mathlib.Omega.{arith}
use borrow.Author.Rules.{rules}
use Rattle.marks.proofs.mark.Statement.{statement}
use Rattle.marks.proofs.mark.Tie as tie

shared-slice-read-result : tie.Need-bounds-x-j
shared-slice-read-result c = search rules

cast-result : tie.Need-overflow_cast-result
cast-result c = omega (arith, c.shared_slice_known-1.given c.args.j)

returns : tie.Need-returns
returns c = (refl, omega (arith, c.shared_slice_known-1.given c.args.j), λ k. omega (arith, c.shared_slice_known-1.given k))

pub mark_spec : {M : Type 1} → statement M
mark_spec = tie.close (tie.spec shared-slice-read-result cast-result returns)
